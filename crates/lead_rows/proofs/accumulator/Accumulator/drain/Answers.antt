use Rattle.std.proofs.Common.{◌≡◌, ◌∙◌, length, refl, ap, arith}
use Rattle.std.proofs.lemmas.List.{length-set}
use Rattle.sparse_rows.proofs.Loops.{length_zeros, zero_at}
use Rattle.lead_rows.proofs.Accumulating.{all_zero}
use Rattle.lead_rows.proofs.Draining.{taken_vector}
use Rattle.lead_rows.proofs.Listed.{listing_all, listing_behind, listing_more, listing_none}
use Rattle.lead_rows.proofs.Touched.{taken_falls}
use Rattle.lead_rows.proofs.accumulator.Accumulator.drain.Goals as goal

pub loop-column-init : goal.loop-column-init
loop-column-init c = record {
  sums = (refl, refl);
  row = (refl, refl);
  vector = c.requires.vector;
  listing =
      let long : length c.args.row.now.row ≡ length c.args.self.now.row = ap length c.requires.none ∙ length_zeros (length c.args.self.now.row) in
      listing_none c.args.self.now.row c.args.row.now.row long (λ j l. zero_at c.args.row.now.row _ c.requires.none j (omega arith));
}

pub push-requires-clause-behind : goal.push-requires-clause-behind
push-requires-clause-behind c = listing_behind c.loop-column.invariant.listing c.in-Some.ensures.some

pub loop-column-smaller : goal.loop-column-smaller
loop-column-smaller c = taken_falls c.in-Some.ensures.some

pub loop-column-preserved : goal.loop-column-preserved
loop-column-preserved c =
    let t = c.in-Some.ensures.some in
    let inv = c.loop-column.invariant in
    record {
      sums = (c.in-Some.ensures.modulus ∙ inv.sums.0, ap length t.after ∙ length-set c.loop-column.self.row c.in-Some.column 0 ∙ inv.sums.1);
      row = (c.push.ensures.modulus ∙ inv.row.0, ap length c.in_ok-push.ensures.ok ∙ length-set c.loop-column.row.row _ _ ∙ inv.row.1);
      vector = taken_vector (omega (arith, inv.vector.residues c.in-Some.column (omega (arith, t.inside, inv.vector.len)))) inv.vector t;
      listing = listing_more inv.listing t c.in_ok-push.ensures.ok;
    }

pub returns-clause-ok : goal.returns-clause-ok
returns-clause-ok c = listing_all c.loop-column.invariant.listing c.in_default.ensures.none.1

pub returns-clause-empty : goal.returns-clause-empty
returns-clause-empty c = ap (λ a. a.row) c.in_default.ensures.none.0 ∙ all_zero _ c.loop-column.self.row c.loop-column.invariant.sums.1 c.in_default.ensures.none.1
