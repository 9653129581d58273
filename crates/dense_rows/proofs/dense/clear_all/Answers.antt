use Rattle.std.proofs.Common.{arith, map}
use Rattle.std.proofs.lemmas.List.{length-map, map-set}
use Rattle.dense_rows.proofs.Writing.{written_more}
use Rattle.dense_rows.proofs.dense.clear_all.Goals as goal

pub loop-k-init : goal.loop-k-init
loop-k-init g c = λ x l. absurd (omega arith)

pub loop-k-preserved : goal.loop-k-preserved
loop-k-preserved g c =
    let value = g.W.Residue.value in
    let xs = c.loop-k.places in
    written_more (λ x. 0) (map value xs) (value c.of.result) (map-set value xs c.loop-k.k c.of.result) (omega (arith, length-map xs value, c.loop-k.auto.places)) c.of.ensures c.loop-k.invariant

pub returns : goal.returns
returns g c = λ k l. c.loop-k.invariant k (omega arith)
