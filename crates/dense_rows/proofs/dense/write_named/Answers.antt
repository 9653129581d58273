use Rattle.std.proofs.Common.{◌∙◌, arith, slice_index}
use Rattle.dense_rows.proofs.Parts.{read_is}
use Rattle.dense_rows.proofs.Writing.{none_written, one_written}
use Rattle.dense_rows.proofs.dense.write_named.Goals as goal

pub loop-k-init : goal.loop-k-init
loop-k-init g c = none_written c.args.to.now

pub loop-k-preserved : goal.loop-k-preserved
loop-k-preserved g c =
    let k = c.loop-k.k in
    let place = slice_index c.args.places.now k in
    let read = read_is g.W.Residue.value c.args.residues.now place c.index-residues-places.result (c.requires.inside k c.loop-k-test.true) c.index-residues-places.is in
    one_written (omega (arith, c.requires.room, c.loop-k-test.true)) (c.get-v.ensures ∙ read) c.loop-k.invariant

pub returns-clause-long : goal.returns-clause-long
returns-clause-long g c = c.loop-k.invariant.long

pub returns-clause-named : goal.returns-clause-named
returns-clause-named g c = λ k l. c.loop-k.invariant.written k (omega (arith, c.loop-k-test.false))

pub returns-clause-positive : goal.returns-clause-positive
returns-clause-positive g c = λ none k l. c.loop-k.invariant.positive none k (omega (arith, c.loop-k-test.false))
