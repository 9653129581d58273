use Rattle.std.proofs.Common.{◌≡◌, ◌+◌, ◌*◌, ◌%◌, ℕ, List, length, slice_index, slice_set, sym, refl, ap, subst, ◌∙◌, arith}
use native.Mathlib.Nat.{mod-mod}
use Rattle.sparse_rows.proofs.Adding.{IsAdding, adding_all, adding_more, adding_none}
use Rattle.sparse_rows.proofs.Spread.{at_spread}
use Rattle.kernel_solve.proofs.reduction.add_multiple.Goals as goal

pub loop-k-init : goal.loop-k-init
loop-k-init c = adding_none c.requires.vector

pub bounds-x-j : goal.bounds-x-j
bounds-x-j c = omega (arith, c.loop-k.invariant.len, c.requires.sparse.below c.loop-k.k c.loop-k-test.true)

pub add-requires-clause-left : goal.add-requires-clause-left
add-requires-clause-left c = c.loop-k.invariant.residues _ (c.requires.sparse.below c.loop-k.k c.loop-k-test.true)

pub loop-k-preserved : goal.loop-k-preserved
loop-k-preserved c =
    let p : ℕ = c.args.modulus.now in
    let k : ℕ = c.loop-k.k in
    let x : List ℕ = c.loop-k.x in
    let j : ℕ = slice_index c.args.cols.now k in
    subst (λ v. IsAdding p c.args.by c.args.cols.now c.args.vals.now c.args.x.now (k + 1) (slice_set x j v)) (sym c.add.ensures.value)
    (adding_more (omega (arith, c.requires.factor)) c.requires.sparse refl c.loop-k.invariant c.loop-k-test.true c.mul.result (ap (λ v. v % p) c.mul.ensures.value ∙ mod-mod (c.args.by * slice_index c.args.vals.now k) p))

pub returns-clause-vector : goal.returns-clause-vector
returns-clause-vector c = record { len = c.loop-k.invariant.len; residues = c.loop-k.invariant.residues }

pub returns-clause-adds : goal.returns-clause-adds
returns-clause-adds c = λ j l.
    let p : ℕ = c.args.modulus.now in
    let cols : List ℕ = c.args.cols.now in
    let vals : List ℕ = c.args.vals.now in
    let all : c.loop-k.k ≡ length cols = omega (arith, c.loop-k-test.false, c.loop-k.auto.k-end) in
    adding_all c.requires.sparse c.requires.vector (subst (λ n. IsAdding p c.args.by cols vals c.args.x.now n c.loop-k.x) all c.loop-k.invariant) j l
    ∙ ap (λ v. (slice_index c.args.x.now j + c.args.by * v) % p) (sym (at_spread (length c.args.x.now) cols vals j l))
