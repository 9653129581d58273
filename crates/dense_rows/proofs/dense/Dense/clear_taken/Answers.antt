use Rattle.std.proofs.Common.{◌+◌, ◌∙◌, arith, subst, sym}
use Rattle.dense_rows.proofs.Dividing.{IsClearingTaken, clearing_taken_all, clearing_taken_more, clearing_taken_none, clearing_taken_over, clears_none}
use Rattle.dense_rows.proofs.dense.Dense.clear_taken.Goals as goal
use Rattle.dense_rows.proofs.dense.Dense.clear_taken.Goals.{then-taken-j, else-taken-j}

pub loop-j-init : goal.loop-j-init
loop-j-init g c = clearing_taken_none c.requires.residues

pub set-requires-clause-inside : goal.set-requires-clause-inside
set-requires-clause-inside g c κs within = omega (arith, c.loop-j.invariant.vector.len, c.requires.marks)

pub loop-j-preserved : goal.loop-j-preserved
loop-j-preserved g c =
    let j = c.loop-j.j in
    elim c.if-taken-j.branch [
      | then-taken-j w ↦
          subst (IsClearingTaken c.args.p.now c.args.from c.args.taken.now c.args.self.now (j + 1)) (sym (w.self-is ∙ w.set.ensures))
          (clearing_taken_more c.requires.some (omega arith) (omega (arith, c.requires.marks)) c.loop-j.invariant w.if-taken-j.true)
      | else-taken-j w ↦
          subst (IsClearingTaken c.args.p.now c.args.from c.args.taken.now c.args.self.now (j + 1)) (sym w.self-is) (clearing_taken_over c.loop-j.invariant w.if-taken-j.false)
    ]

pub returns : goal.returns
returns g c = clearing_taken_all (omega (arith, c.requires.marks)) c.loop-j.invariant

pub returns-then-not-has_pivot : goal.returns-then-not-has_pivot
returns-then-not-has_pivot g c = clears_none c.requires.residues (c.has_pivot.ensures c.if-not-has_pivot.true)
