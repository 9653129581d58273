use Rattle.std.proofs.Common.{◌≡◌, ◌+◌, ◌-◌, length, refl, arith, sym, subst}
use Rattle.std.specs.Prelude.{slice_set, slice_index}
use Rattle.sparse_rows.proofs.Adding.{IsAdding, adding_all, adding_more, adding_none}
use Rattle.cert_checker.proofs.Combining.{taken_off}
use Rattle.cert_checker.proofs.product.take_off.Goals as goal

pub loop-k-init : goal.loop-k-init
loop-k-init c = adding_none c.requires.residues

pub loop-k-preserved : goal.loop-k-preserved
loop-k-preserved c =
    let p = c.args.p.now in
    subst (λ v. IsAdding p (p - 1) c.args.cols.now c.args.vals.now c.args.sums.now (c.loop-k.k + 1) (slice_set c.loop-k.sums (slice_index c.args.cols.now c.loop-k.k) v)) (sym c.sub.ensures.value)
    (adding_more (omega arith) c.requires.sparse refl c.loop-k.invariant c.loop-k-test.true (p - slice_index c.args.vals.now c.loop-k.k) (taken_off p _ (omega arith) (omega arith)))

pub returns-clause-sums : goal.returns-clause-sums
returns-clause-sums c =
    let all : c.loop-k.k ≡ length c.args.cols.now = omega arith in
    adding_all c.requires.sparse c.requires.residues (rw (← all) c.loop-k.invariant)
