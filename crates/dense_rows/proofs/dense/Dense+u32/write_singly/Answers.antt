use Rattle.std.proofs.Common.{arith, ◌-◌}
use Rattle.dense_rows.proofs.ProductSums.{written_one}
use Rattle.dense_rows.proofs.dense.Dense+u32.write_singly.Goals as goal

pub set-requires-clause-residue : goal.set-requires-clause-residue
set-requires-clause-residue c = λ κs. omega (arith, c.from.ensures, c.requires.residues (c.loop-j.j - c.args.columns.start) (omega (arith, c.requires.narrow)))

pub loop-j-preserved : goal.loop-j-preserved
loop-j-preserved c =
    rw c.set.ensures
    (written_one c.args.columns.start c.loop-j.j c.args.values.now c.args.self.now c.loop-j.self c.from.result
    (omega (arith, c.requires.narrow, c.requires.inside)) c.loop-j.invariant (omega arith) c.from.ensures)
