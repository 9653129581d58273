use Rattle.std.proofs.Common.{◌∙◌, arith}
use Rattle.dense_rows.proofs.Parts.{read_is}
use Rattle.dense_rows.proofs.Writing.{none_written, one_written}
use Rattle.dense_rows.proofs.dense.write_front.Goals as goal

pub loop-k-init : goal.loop-k-init
loop-k-init g c = none_written c.args.to.now

pub loop-k-preserved : goal.loop-k-preserved
loop-k-preserved g c =
    let xs = c.args.residues.now in
    let k = c.loop-k.k in
    one_written (omega (arith, c.requires, c.loop-k-test.true))
    (c.get-v.ensures ∙ read_is g.W.Residue.value xs k c.index-residues-k.result c.loop-k-test.true c.index-residues-k.is) c.loop-k.invariant

pub returns-clause-long : goal.returns-clause-long
returns-clause-long g c = c.loop-k.invariant.long

pub returns-clause-written : goal.returns-clause-written
returns-clause-written g c = λ k l. c.loop-k.invariant.written k (omega (arith, c.loop-k-test.false))

pub returns-clause-positive : goal.returns-clause-positive
returns-clause-positive g c = λ none k l. c.loop-k.invariant.positive none k (omega (arith, c.loop-k-test.false))
