use Rattle.std.proofs.Common.{ℕ, List, ◌∙◌, arith}
use Rattle.kernel_solve.proofs.Preparing.{copied_all, copied_none, copied_value, copied_zero}
use Rattle.kernel_solve.proofs.vectors.sparse_of.Goals.{then-value-ne0+in_ok-push, else-value-ne0}
use Rattle.kernel_solve.proofs.vectors.sparse_of.Goals as goal

pub loop-j-init : goal.loop-j-init
loop-j-init c = (c.new-row.ensures.modulus, copied_none c.args.entries.now c.new-row.result.row c.new-row.ensures.row)

pub push-requires-clause-column : goal.push-requires-clause-column
push-requires-clause-column c = omega (arith, c.loop-j.invariant.1.long, c.loop-j-test.true)

pub push-requires-clause-behind : goal.push-requires-clause-behind
push-requires-clause-behind c = c.loop-j.invariant.1.behind

pub push-requires-clause-residue : goal.push-requires-clause-residue
push-requires-clause-residue c = omega (arith, c.loop-j.invariant.0, c.requires.residues.residues c.loop-j.j c.loop-j-test.true)

pub loop-j-preserved : goal.loop-j-preserved
loop-j-preserved c =
    let entries : List ℕ = c.args.entries.now in
    elim c.if-value-ne0.branch [
      | then-value-ne0+in_ok-push w ↦
          rw w.row-is (w.push.ensures.modulus ∙ c.loop-j.invariant.0, copied_value c.loop-j.invariant.1 c.loop-j-test.true w.push.new.self.row w.in_ok-push.ensures.ok)
      | else-value-ne0 w ↦ rw w.row-is (c.loop-j.invariant.0, copied_zero c.loop-j.invariant.1 c.loop-j-test.true (omega (arith, w.if-value-ne0.false)))
    ]

pub returns-clause-row : goal.returns-clause-row
returns-clause-row c = copied_all c.loop-j.invariant.1 (omega (arith, c.loop-j-test.false, c.loop-j.auto.j-end))
