use Rattle.std.proofs.Common.{◌≡◌, ◌<◌, ◌∙◌, ◌*◌, ◌%◌, sym, ap₂, subst, arith}
use Rattle.residue_words.specs.Residues.{IsPrime}
use Rattle.triangular_solve.proofs.PlacingRows.{first_pivot, inverses_more}
use Rattle.triangular_solve.proofs.pivot_rows.invert_pivots.Goals as goal

pub bounds-vals-0 : goal.bounds-vals-0
bounds-vals-0 c = omega (arith, (first_pivot c.loop-k.k c.modulus-modulus.ensures.sound c.requires (omega (arith, c.loop-k-test.true, c.height-k-end.ensures.value)) c.vals.ensures.values).0)

pub inv-requires-clause-nonzero : goal.inv-requires-clause-nonzero
inv-requires-clause-nonzero c = λ z.
    let l : c.loop-k.k < c.args.placed.now.matrix.height = omega (arith, c.loop-k-test.true, c.height-k-end.ensures.value) in
    c.requires.diagonal c.loop-k.k l (sym (first_pivot c.loop-k.k c.modulus-modulus.ensures.sound c.requires l c.vals.ensures.values).1 ∙ z)

pub loop-k-preserved : goal.loop-k-preserved
loop-k-preserved c =
    let l : c.loop-k.k < c.args.placed.now.matrix.height = omega (arith, c.loop-k-test.true, c.height-k-end.ensures.value) in
    let f = first_pivot c.loop-k.k c.modulus-modulus.ensures.sound c.requires l c.vals.ensures.values in
    inverses_more c.loop-k.invariant c.inv.result (omega (arith, c.inv.ensures.in_range, c.modulus-modulus.ensures.value))
    (λ prime. ap₂ (λ x m. (x * c.inv.result) % m) (sym f.1) (sym c.modulus-modulus.ensures.value) ∙ c.inv.ensures.inverse (subst IsPrime (sym c.modulus-modulus.ensures.value) prime))
    c.in_ok-push.ensures.items

pub returns : goal.returns
returns c =
    let e : c.loop-k.k ≡ c.args.placed.now.matrix.height = omega (arith, c.loop-k-test.false, c.loop-k.auto.k-end, c.height-k-end.ensures.value) in
    record {
      many = c.loop-k.invariant.many ∙ e;
      residues = λ k l. c.loop-k.invariant.residues k (omega (arith, e));
      inverse = λ prime k l. c.loop-k.invariant.inverse prime k (omega (arith, e));
    }
