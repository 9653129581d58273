use Rattle.std.proofs.Common.{ap, arith, length, sym, ◌∙◌}
use Rattle.std.proofs.lemmas.Bool.{false≢true}
use Rattle.std.proofs.lemmas.List.{length-map}
use Rattle.residue_words.specs.Matrix.{Matrix}
use Rattle.residue_words.specs.declared.plain.Pair.{Pair}
use Rattle.cert_checker.proofs.factoring.end_at_columns.Goals as goal

pub are_last-requires-clause-width : goal.are_last-requires-clause-width
are_last-requires-clause-width c = omega (
  arith,
  c.requires,
  ap (λ (M : Matrix). M.width) c.in_ok-columns.ensures.matrix,
  ap length (c.deref-2.ensures.value ∙ c.in_ok-cols.ensures),
  length-map c.args.pivots.now (λ (q : Pair). q.col),
)

pub are_last-requires-clause-below : goal.are_last-requires-clause-below
are_last-requires-clause-below c =
    rw (c.in_ok-columns.ensures.matrix, c.deref-2.ensures.value, c.in_ok-cols.ensures) (rw (c.width.ensures.value, c.deref.ensures.value, c.in_ok-cols.ensures) at (c.are_below.ensures.0 c.if-not-are_below.false))

pub returns-then-not-are_below : goal.returns-then-not-are_below
returns-then-not-are_below c = (
  λ e. absurd (false≢true e),
  λ h. absurd (false≢true (sym c.if-not-are_below.true ∙ c.are_below.ensures.1 (rw (c.width.ensures.value, c.deref.ensures.value, c.in_ok-cols.ensures) h.0))),
)

pub returns : goal.returns
returns c =
    let below = rw (c.width.ensures.value, c.deref.ensures.value, c.in_ok-cols.ensures) at (c.are_below.ensures.0 c.if-not-are_below.false) in
    let last = rw (c.in_ok-columns.ensures.matrix, c.deref-2.ensures.value, c.in_ok-cols.ensures) at c.are_last.ensures in
    (λ e. (below, last.0 e), λ h. last.1 h.1)
