use Rattle.std.proofs.Common.{arith, length, subst, sym, ◌+◌, ◌∙◌}
use Rattle.dense_rows.proofs.Dividing.{IsClearing, clearing_all, clearing_more, clearing_none, clearing_over}
use Rattle.dense_rows.proofs.dense.Dense.clear_each_free.Goals as goal
use Rattle.dense_rows.proofs.dense.Dense.clear_each_free.Goals.{then-not-taken-j, else-not-taken-j}

pub loop-j-init : goal.loop-j-init
loop-j-init g c = clearing_none c.requires.residues c.requires.first

pub set-requires-clause-inside : goal.set-requires-clause-inside
set-requires-clause-inside g c κs within = omega (arith, c.loop-j.invariant.vector.len, c.requires.marks)

pub loop-j-preserved : goal.loop-j-preserved
loop-j-preserved g c =
    let j = c.loop-j.j in
    elim c.if-not-taken-j.branch [
      | then-not-taken-j w ↦
          subst (IsClearing c.args.p.now (length c.args.self.now) c.args.c c.args.taken.now c.args.self.now (j + 1)) (sym (w.self-is ∙ w.set.ensures))
          (clearing_more (omega (arith, c.requires.residues.residues c.args.c c.requires.first.inside)) (omega arith) (omega (arith, c.requires.marks)) c.loop-j.invariant w.if-not-taken-j.true)
      | else-not-taken-j w ↦
          subst (IsClearing c.args.p.now (length c.args.self.now) c.args.c c.args.taken.now c.args.self.now (j + 1)) (sym w.self-is) (clearing_over c.loop-j.invariant w.if-not-taken-j.false)
    ]

pub returns : goal.returns
returns g c = clearing_all (omega (arith, c.requires.marks)) c.loop-j.invariant
