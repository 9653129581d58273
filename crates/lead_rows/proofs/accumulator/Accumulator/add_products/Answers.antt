use Rattle.std.proofs.Common.{◌≡◌, ◌<◌, ◌*◌, length, slice_index, refl, subst, sym, arith}
use Rattle.lead_rows.specs.Accumulator.{limit_of}
use Rattle.lead_rows.proofs.Accumulating.{limit_products}
use Rattle.sparse_rows.proofs.Adding.{IsAddingTo, adding_none}
use Rattle.lead_rows.proofs.Scattered.{scattered_done, scattered_step}
use Rattle.lead_rows.proofs.accumulator.Accumulator.add_products.Goals as goal

pub loop-k-init : goal.loop-k-init
loop-k-init c = record { modulus = refl; positive = omega (arith, c.requires.factor); vector = c.requires.residues; adding = adding_none c.requires.residues }

pub add-requires-clause-column : goal.add-requires-clause-column
add-requires-clause-column c = omega (arith, c.loop-k.invariant.adding.len, c.requires.row.below c.loop-k.k c.loop-k-test.true)

pub add-requires-clause-below : goal.add-requires-clause-below
add-requires-clause-below c = subst (λ p. c.args.by * slice_index c.args.vals.now c.loop-k.k < limit_of p) (sym c.loop-k.invariant.modulus)
    (limit_products c.args.self.now.modulus c.args.by (slice_index c.args.vals.now c.loop-k.k) c.requires.small c.requires.factor (c.requires.row.residues c.loop-k.k (omega (arith, c.requires.row.long))))

pub loop-k-preserved : goal.loop-k-preserved
loop-k-preserved c = scattered_step c.requires.row c.loop-k.invariant c.loop-k-test.true (c.args.by * slice_index c.args.vals.now c.loop-k.k) refl c.add.ensures

pub returns : goal.returns
returns c =
    let all : c.loop-k.k ≡ length c.args.cols.now = omega arith in
    scattered_done c.requires.row (subst (λ k. IsAddingTo c.args.by c.args.cols.now c.args.vals.now k c.args.self.now c.loop-k.self) all c.loop-k.invariant)
