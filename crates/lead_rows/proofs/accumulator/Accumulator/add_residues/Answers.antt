use Rattle.std.proofs.Common.{◌≡◌, ◌<◌, ◌*◌, ◌%◌, ◌∙◌, length, slice_index, refl, ap, subst, sym, arith}
use native.Mathlib.Nat.{mod-mod}
use Rattle.sparse_rows.specs.Rows.{ResidueRow}
use Rattle.lead_rows.specs.Accumulator.{limit_of}
use Rattle.lead_rows.proofs.Accumulating.{limit_above}
use Rattle.sparse_rows.proofs.Adding.{IsAddingTo, adding_none}
use Rattle.lead_rows.proofs.Scattered.{scattered_done, scattered_step}
use Rattle.lead_rows.proofs.accumulator.Accumulator.add_residues.Goals as goal

pub loop-k-init : goal.loop-k-init
loop-k-init c = record { modulus = refl; positive = omega (arith, c.requires.factor); vector = c.requires.residues; adding = adding_none c.requires.residues }

pub add-requires-clause-column : goal.add-requires-clause-column
add-requires-clause-column c = omega (arith, c.loop-k.invariant.adding.len, c.requires.row.below c.loop-k.k c.loop-k-test.true)

pub add-requires-clause-below : goal.add-requires-clause-below
add-requires-clause-below c =
    let modulus : c.self.inside.modulus ≡ c.args.self.now.modulus = ap (λ (r : ResidueRow). r.modulus) c.self.view_is in
    let small : c.mul.result < c.args.self.now.modulus = omega (arith, modulus, c.mul.ensures.residue) in
    let high = limit_above c.args.self.now.modulus (omega (arith, modulus, c.self.invariant.limited.two_or_more)) in
    subst (λ p. c.mul.result < limit_of p) (sym c.loop-k.invariant.modulus) (omega arith)

pub loop-k-preserved : goal.loop-k-preserved
loop-k-preserved c =
    let modulus : c.self.inside.modulus ≡ c.args.self.now.modulus = ap (λ (r : ResidueRow). r.modulus) c.self.view_is in
    let value : c.mul.result ≡ (c.args.by * slice_index c.args.vals.now c.loop-k.k) % c.args.self.now.modulus =
    c.mul.ensures.value ∙ ap (λ p. (c.args.by * slice_index c.args.vals.now c.loop-k.k) % p) modulus in
    scattered_step c.requires.row c.loop-k.invariant c.loop-k-test.true c.mul.result
    (ap (λ x. x % c.args.self.now.modulus) value ∙ mod-mod (c.args.by * slice_index c.args.vals.now c.loop-k.k) c.args.self.now.modulus) c.add.ensures

pub returns : goal.returns
returns c =
    let all : c.loop-k.k ≡ length c.args.cols.now = omega arith in
    scattered_done c.requires.row (subst (λ k. IsAddingTo c.args.by c.args.cols.now c.args.vals.now k c.args.self.now c.loop-k.self) all c.loop-k.invariant)
