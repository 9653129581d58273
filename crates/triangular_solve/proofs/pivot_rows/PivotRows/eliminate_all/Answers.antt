use Rattle.std.proofs.Common.{Option, Some, None, true, false, ◌≡◌, ◌∙◌, IfSome, IfNone, refl, sym, ap, subst, arith}
use Rattle.std.proofs.lemmas.Bool.{false≢true, true≢false}
use Rattle.std.specs.Option.{is_some}
use Rattle.residue_words.specs.Matrix.{zeros}
use Rattle.triangular_solve.specs.PivotRows.{IsEliminating, PlacedRows}
use Rattle.triangular_solve.proofs.Eliminating.{eliminated_falls, eliminating_more, eliminating_none}
use Rattle.triangular_solve.proofs.pivot_rows.PivotRows.eliminate_all.Goals as goal

some_of : {X : Type 0} {P : X → Type 0} (o : Option X) → IfSome o P → is_some o ≡ true → (x : X) × P x
some_of (Some x) p e = (x, p)
some_of None p e = absurd (false≢true e)

none_of : {X Q : Type 0} (o : Option X) → IfNone o Q → is_some o ≡ false → Q
none_of (Some x) q e = absurd (true≢false e)
none_of None q e = q

pub loop-init : goal.loop-init
loop-init c = (
  c.requires.sums,
  (
    zeros c.args.self.now.rows.matrix.height,
    eliminating_none c.args.self.now c.args.sums.now.row _ (omega (arith, ap (λ (P : PlacedRows). P.rows.modulus) c.self.view_is, c.is_sound.ensures.two_or_more)) c.requires.sums.vector refl,
  ),
)

pub loop-smaller : goal.loop-smaller
loop-smaller c =
    let t = some_of c.eliminate_next.result c.eliminate_next.ensures.some (sym c.is_some.ensures ∙ c.loop-test.true) in
    eliminated_falls c.loop.invariant.0.vector c.eliminate_next.ensures.sums t.1

pub loop-preserved : goal.loop-preserved
loop-preserved c =
    let t = some_of c.eliminate_next.result c.eliminate_next.ensures.some (sym c.is_some.ensures ∙ c.loop-test.true) in (
      c.eliminate_next.ensures.sums,
      (_, eliminating_more (omega (arith, ap (λ (P : PlacedRows). P.rows.modulus) c.self.view_is, c.is_sound.ensures.two_or_more)) c.loop.invariant.1.1 t.1 refl),
    )

pub returns-clause-zero : goal.returns-clause-zero
returns-clause-zero c = (none_of c.eliminate_next.result c.eliminate_next.ensures.none (sym c.is_some.ensures ∙ c.loop-test.false)).0

pub returns-clause-some : goal.returns-clause-some
returns-clause-some c =
    let n = none_of c.eliminate_next.result c.eliminate_next.ensures.none (sym c.is_some.ensures ∙ c.loop-test.false) in
    (c.loop.invariant.1.0, subst (λ w. IsEliminating c.args.self.now c.args.sums.now.row w c.loop.invariant.1.0) (sym n.1) c.loop.invariant.1.1)
