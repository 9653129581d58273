use Rattle.std.proofs.Common.{◌<◌, ◌∙◌, ap, arith, drop, length, map}
use Rattle.std.proofs.lemmas.List.{length-map, take_all}
use Rattle.dense_rows.proofs.Parts.{ending, ending_is, read_is}
use Rattle.dense_rows.proofs.Writing.{pushed_more}
use Rattle.dense_rows.proofs.dense.Dense.entries_from.Goals as goal

pub loop-k-init : goal.loop-k-init
loop-k-init g c =
    let start = c.in_ok-entries.ensures in
    record { made = start.items; count = start.len; room = let room = start.capacity in omega arith }

pub loop-k-preserved : goal.loop-k-preserved
loop-k-preserved g c =
    let value = g.W.Residue.value in
    let xs = ending c.args.from c.deref.result.now in
    let k = c.loop-k.k in
    let more = c.push_reserved.ensures in
    let so_far = c.loop-k.invariant in
    let inside : k < length (map value xs) = omega (arith, length-map xs value, c.loop-k-test.true) in
    record {
      made = more.items ∙ pushed_more (map value xs) inside so_far.made (c.get.ensures ∙ read_is value xs k c.index-places-k.result c.loop-k-test.true c.index-places-k.is);
      count = let count = so_far.count in let len = more.len in omega arith;
      room = let room = so_far.room in let capacity = more.capacity in omega arith;
    }

pub returns : goal.returns
returns g c =
    let value = g.W.Residue.value in
    let whole = c.deref.result.now in
    let xs = ending c.args.from whole in
    c.loop-k.invariant.made ∙ take_all c.loop-k.k (map value xs) (omega (arith, length-map xs value, c.loop-k-test.false))
    ∙ ending_is value c.args.from whole ∙ ap (drop c.args.from) (ap (map value) c.deref.ensures.value ∙ c.self.view_is)
