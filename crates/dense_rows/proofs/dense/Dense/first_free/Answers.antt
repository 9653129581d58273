use Rattle.std.proofs.Common.{◌≡◌, ◌∙◌, false, true, arith, below_more, sym}
use Rattle.dense_rows.proofs.dense.Dense.first_free.Goals as goal
use Rattle.dense_rows.proofs.dense.Dense.first_free.Goals.{else-not-taken-j-via-then-not-taken-j+else-get-ne0, else-not-taken-j-via-else-not-taken-j}

pub loop-j-init : goal.loop-j-init
loop-j-init g c = c.free_blocks-j.ensures.zeros

pub returns-then-get-ne0-clause-some : goal.returns-then-get-ne0-clause-some
returns-then-get-ne0-clause-some g c = record {
  inside = omega arith;
  free = c.if-not-taken-j.true;
  nonzero = λ z. c.if-get-ne0.true (c.get.ensures ∙ z);
  before = c.loop-j.invariant;
}

pub loop-j-preserved : goal.loop-j-preserved
loop-j-preserved g c =
    elim c.else-not-taken-j.branch [
      | else-not-taken-j-via-then-not-taken-j+else-get-ne0 w ↦ below_more _ _ c.loop-j.invariant (λ f. sym w.get.ensures ∙ w.if-get-ne0.false)
      | else-not-taken-j-via-else-not-taken-j w ↦ below_more _ _ c.loop-j.invariant (λ f. let no : true ≡ false = sym w.if-not-taken-j.false ∙ f in cc)
    ]
