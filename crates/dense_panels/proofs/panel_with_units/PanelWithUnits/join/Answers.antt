use Rattle.std.proofs.Common.{ℕ, ◌≡◌, ◌<◌, ◌++◌, ◌∙◌, ap, arith, drop, length, slice_index, subst, sym, take}
use Rattle.std.proofs.Math.Seq.{take-append_seam}
use Rattle.dense_rows.specs.Rows.{block_row}
use Rattle.dense_panels.specs.Panel.{ArePivots, PanelReduces, PanelRows, joined_panel}
use Rattle.dense_panels.specs.Units.{FoundPanel, HasUnits, unit_row}
use Rattle.dense_panels.proofs.JoinedPanels.{joined_reduces, joined_units}
use Rattle.dense_panels.proofs.panel_with_units.PanelWithUnits.join.Goals as goal

pub returns-clause-units : goal.returns-clause-units
returns-clause-units g c =
    let p = c.args.p.now in
    let front : PanelRows = c.self.inside.panel in
    let back : PanelRows = c.more.inside.panel in
    let pivots : ArePivots p front = subst (λ (f : FoundPanel). ArePivots p f.panel) (sym c.self.view_is) c.requires.pivots in
    let units = subst (HasUnits p) (sym c.self.view_is) c.requires.units in
    let more_units = subst (HasUnits p) (sym c.more.view_is) c.requires.more_units in
    let wide : back.width ≡ front.width =
    ap (λ (f : FoundPanel). f.panel.width) c.more.view_is ∙ c.requires.wide ∙ sym (ap (λ (f : FoundPanel). f.panel.width) c.self.view_is) in
    let old = c.deref_mut.ensures.value in
    let news = c.reduce_behind.new.rows in
    let long : length news ≡ length front.columns = c.reduce_behind.ensures.long ∙ ap length old ∙ units.long in
    let reduced : (k : ℕ) → k < length front.columns → PanelReduces p (joined_panel front back) (unit_row front.width (slice_index front.columns k)) (block_row news k) =
    λ k l. joined_reduces p front back pivots wide (units.reduced k (omega (arith, units.long)))
    (subst (λ rows. PanelReduces p back (block_row rows k) (block_row news k)) old
    (subst (λ (f : FoundPanel). PanelReduces p f.panel (block_row c.deref_mut.result.now k) (block_row news k)) (sym c.more.view_is) (c.reduce_behind.ensures.behind k (omega arith) (omega (arith, c.reduce_behind.ensures.long, long))))) in
    let all : c.self.inside.units.len ≡ length news = omega (arith, c.self.inside.units.ok.0, c.reduce_behind.ensures.long, ap length old) in
    let kept : take c.self.inside.units.len (news ++ drop (length news) c.self.inside.units.items) ≡ news =
    ap (λ n. take n (news ++ drop (length news) c.self.inside.units.items)) all ∙ take-append_seam news (drop (length news) c.self.inside.units.items) in
    rw (c.in_ok-append-2.ensures, c.in_ok-append.ensures.items, kept) (joined_units p front back pivots wide news c.more.inside.units.items long reduced more_units.long (λ k l. more_units.reduced k (omega (arith, more_units.long))))
