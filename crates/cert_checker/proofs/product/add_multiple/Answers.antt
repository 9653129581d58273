use Rattle.std.proofs.Common.{◌≡◌, ◌+◌, ◌*◌, ◌%◌, ◌∙◌, ap, length, refl, arith, sym, subst}
use Rattle.std.specs.Prelude.{slice_set, slice_index}
use native.Mathlib.Nat.{mod-mod}
use Rattle.sparse_rows.proofs.Adding.{IsAdding, adding_all, adding_more, adding_none}
use Rattle.cert_checker.proofs.product.add_multiple.Goals as goal

pub loop-k-init : goal.loop-k-init
loop-k-init c = adding_none c.requires.residues

pub loop-k-preserved : goal.loop-k-preserved
loop-k-preserved c =
    subst (λ v. IsAdding c.args.p.now c.args.by c.args.cols.now c.args.vals.now c.args.sums.now (c.loop-k.k + 1) (slice_set c.loop-k.sums (slice_index c.args.cols.now c.loop-k.k) v)) (sym c.sum_modulo.ensures.value)
    (adding_more (omega arith) c.requires.sparse refl c.loop-k.invariant c.loop-k-test.true c.mul-product.result
    (ap (λ x. x % c.args.p.now) c.mul-product.ensures.value ∙ mod-mod (c.args.by * slice_index c.args.vals.now c.loop-k.k) c.args.p.now))

pub returns-clause-sums : goal.returns-clause-sums
returns-clause-sums c =
    let all : c.loop-k.k ≡ length c.args.cols.now = omega arith in
    adding_all c.requires.sparse c.requires.residues (rw (← all) c.loop-k.invariant)
