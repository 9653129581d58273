use Rattle.std.proofs.Common.{◌≡◌, ℕ, length, refl, sym, subst, arith}
use Rattle.sparse_rows.proofs.Adding.{IsAddingTo}
use Rattle.lead_rows.specs.Accumulator.{residues_of}
use Rattle.lead_rows.specs.Scattered.{IsTouched}
use Rattle.lead_rows.proofs.Accumulating.{as_row}
use Rattle.lead_rows.proofs.Gathering.{adding_begins, adding_goes, adding_inside}
use Rattle.lead_rows.proofs.Scattered.{scattered_done}
use Rattle.lead_rows.proofs.touched_sums.TouchedSums.add_products.Goals as goal

pub loop-k-init : goal.loop-k-init
loop-k-init c = record {
  sound = subst (IsTouched c.self.inside.modulus c.self.inside.limit c.self.inside.sums.items) (sym c.in_ok-reserve.ensures.items) c.self.invariant;
  adding = adding_begins c.self.inside.sums.items (omega (arith, c.self.invariant.limited.two_or_more)) c.self.view_is;
  room = omega (arith, c.in_ok-reserve.ensures.ok);
}

pub loop-k-preserved : goal.loop-k-preserved
loop-k-preserved c =
    let inv = c.loop-k.invariant in
    record {
      sound = c.add_touched.ensures.touched c.loop-k.self-inside.modulus inv.sound;
      adding = adding_goes c.requires.row inv.adding c.loop-k-test.true inv.sound.limited refl c.add_touched.ensures.sums;
      room = omega (arith, inv.room, c.loop-k-test.true, c.add_touched.ensures.len, c.add_touched.ensures.capacity);
    }

pub returns : goal.returns
returns c =
    let p : ℕ = c.loop-k.self-inside.modulus in
    let all : c.loop-k.k ≡ length c.args.cols.now = omega (arith, c.loop-k-test.false, c.loop-k.auto.k-end) in
    scattered_done c.requires.row
    (subst (λ k. IsAddingTo c.args.by c.args.cols.now c.args.vals.now k c.args.self.now (as_row p (residues_of p c.loop-k.self-inside.sums.items))) all c.loop-k.invariant.adding)

pub add_touched-requires-clause-column : goal.add_touched-requires-clause-column
add_touched-requires-clause-column c = adding_inside c.loop-k.self-inside.sums.items c.requires.row c.loop-k.invariant.adding c.loop-k-test.true

pub add_touched-requires-clause-sum : goal.add_touched-requires-clause-sum
add_touched-requires-clause-sum c =
    let inv = c.loop-k.invariant in
    inv.sound.limited.below _ (adding_inside c.loop-k.self-inside.sums.items c.requires.row inv.adding c.loop-k-test.true)

pub add_touched-requires-clause-room : goal.add_touched-requires-clause-room
add_touched-requires-clause-room c = omega (arith, c.loop-k.invariant.room, c.loop-k-test.true)

pub bounds-vals-k : goal.bounds-vals-k
bounds-vals-k c = omega (arith, c.loop-k-test.true, c.requires.row.long)
