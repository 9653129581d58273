use Rattle.std.proofs.Common.{◌≡◌, ◌++◌, ◌∙◌, ap, arith, drop, length, subst, sym, take}
use Rattle.dense_rows.specs.Rows.{block_row, entry_of}
use Rattle.dense_panels.specs.Panel.{PanelReduces}
use Rattle.dense_rows.proofs.Parts.{refilled}
use Rattle.dense_panels.proofs.panel.Panel.units.Goals as goal

pub reduce_each-requires-clause-residues : goal.reduce_each-requires-clause-residues
reduce_each-requires-clause-residues g c κs within = rw c.deref_mut.ensures.value c.in_ok-units.ensures.vectors

pub reduce_each-requires-clause-pivots : goal.reduce_each-requires-clause-pivots
reduce_each-requires-clause-pivots g c κs within = c.requires.pivots

pub returns : goal.returns
returns g c =
    let p = c.args.p.now in
    let panel = c.args.self.now in
    let units = c.in_ok-units.units in
    let made = c.in_ok-units.ensures in
    let rows = c.reduce_each.new.rows in
    let left : take units.len (rows ++ drop (length rows) units.items) ≡ rows = refilled units.len rows units.items (c.reduce_each.auto.rows ∙ c.deref_mut.ensures.len) (sym units.ok.0) in
    let lent : length c.deref_mut.result.now ≡ length panel.columns = ap length c.deref_mut.ensures.value ∙ made.long in
    let long : length rows ≡ length panel.columns = c.reduce_each.auto.rows ∙ lent in
    let read : c.deref.result.now ≡ rows = c.deref.ensures.value ∙ left in
    rw left record {
      long = long;
      reduced = λ k l.
          subst (λ v. PanelReduces p panel v (block_row rows k)) (ap (λ rows. block_row rows k) c.deref_mut.ensures.value ∙ made.each k (omega (arith, l, long)))
          (c.reduce_each.ensures k (omega (arith, l, lent, long)));
      before = λ k j l lj. ap (λ rows. entry_of rows k j) (sym read) ∙ c.zeros_before-first.ensures.zeros k j (omega (arith, l, ap length read)) lj;
    }
