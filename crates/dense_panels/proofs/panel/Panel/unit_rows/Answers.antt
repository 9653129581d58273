use Rattle.std.proofs.Common.{[], ◌∷◌, ◌≡◌, ◌<◌, ◌+◌, ◌∙◌, ap, arith, length, length-append, slice_index, slice_set, subst, sym}
use Rattle.std.proofs.lemmas.List.{get_or_default}
use Rattle.residue_words.specs.Matrix.{IsVector, zeros}
use Rattle.dense_panels.specs.Panel.{PanelRows}
use Rattle.dense_panels.specs.Units.{unit_row}
use Rattle.dense_rows.proofs.BlockRows.{appended}
use Rattle.dense_rows.proofs.TakingOut.{vector_set}
use Rattle.dense_panels.proofs.panel.Panel.unit_rows.Goals as goal

pub set-requires-clause-residue : goal.set-requires-clause-residue
set-requires-clause-residue g c κs within = omega (arith, c.is_sound.ensures.two_or_more)

pub loop-k-preserved : goal.loop-k-preserved
loop-k-preserved g c =
    let panel = c.args.self.now in
    let fields = c.self.inside in
    let k = c.loop-k.k in
    let units = c.loop-k.units.items in
    let v = c.set.new.self in
    let same : fields.columns.items ≡ panel.columns = ap (λ (m : PanelRows). m.columns) c.self.view_is in
    let width : fields.width ≡ panel.width = ap (λ (m : PanelRows). m.width) c.self.view_is in
    let inside : k < length panel.columns = omega (arith, fields.columns.ok.0, ap length same) in
    let column : c.index.result.now ≡ slice_index panel.columns k = c.index.ensures ∙ get_or_default fields.columns.items k _ 0 (omega (arith, fields.columns.ok.0)) ∙ ap (λ l. slice_index l k) same in
    let row : v ≡ unit_row panel.width (slice_index panel.columns k) = c.set.ensures ∙ (λ i. slice_set ((c.in_ok-row.ensures.row ∙ ap zeros width) i) (column i) 1) in
    let vector : IsVector c.args.p.now panel.width v =
    rw c.set.ensures (vector_set _ 1 (omega (arith, c.is_sound.ensures.two_or_more)) (subst (λ n. IsVector c.args.p.now n c.in_ok-row.row) width c.in_ok-row.ensures.vector)) in
    let there : v ≡ unit_row panel.width (slice_index panel.columns (length units)) = row ∙ ap (λ t. unit_row panel.width (slice_index panel.columns t)) (sym c.loop-k.invariant.long) in
    rw c.in_ok-push.ensures.items record {
      long = length-append units (v ∷ []) ∙ ap (λ t. t + 1) c.loop-k.invariant.long;
      vectors = appended (λ t u. IsVector c.args.p.now panel.width u) units v vector c.loop-k.invariant.vectors;
      each = appended (λ t u. u ≡ unit_row panel.width (slice_index panel.columns t)) units v there c.loop-k.invariant.each;
    }

pub loop-k-init : goal.loop-k-init
loop-k-init g c =
    let none : length c.in_ok-units.units.items ≡ 0 = ap length c.in_ok-units.ensures.items in
    record { long = none; vectors = λ t l. absurd (omega arith); each = λ t l. absurd (omega arith) }

pub set-requires-clause-inside : goal.set-requires-clause-inside
set-requires-clause-inside g c κs within =
    let panel = c.args.self.now in
    let fields = c.self.inside in
    let k = c.loop-k.k in
    let same : fields.columns.items ≡ panel.columns = ap (λ (m : PanelRows). m.columns) c.self.view_is in
    let inside : k < length panel.columns = omega (arith, fields.columns.ok.0, ap length same) in
    let column : c.index.result.now ≡ slice_index panel.columns k = c.index.ensures ∙ get_or_default fields.columns.items k _ 0 (omega (arith, fields.columns.ok.0)) ∙ ap (λ l. slice_index l k) same in
    omega (arith, column, c.requires.pivots.inside k inside, c.in_ok-row.ensures.vector.len, ap (λ (m : PanelRows). m.width) c.self.view_is)

pub returns : goal.returns
returns g c =
    let panel = c.args.self.now in
    let all : c.loop-k.k ≡ length panel.columns = omega (arith, c.self.inside.columns.ok.0, ap (λ (m : PanelRows). length m.columns) c.self.view_is) in
    record {
      long = c.loop-k.invariant.long ∙ all;
      vectors = c.loop-k.invariant.vectors;
      each = λ k l. c.loop-k.invariant.each k (omega (arith, l, all, c.loop-k.invariant.long));
    }
