use Rattle.std.proofs.Common.{◌∷◌, ◌∙◌, [], ap, arith, map}
use Rattle.std.proofs.lemmas.List.{map-append, take_all}
use Rattle.dense_rows.proofs.Writing.{pushed_more}
use Rattle.dense_rows.proofs.dense.Dense.of_residues.Goals as goal

pub loop-k-init : goal.loop-k-init
loop-k-init g c =
    let start = c.in_ok-places.ensures in
    record { made = ap (map g.W.Residue.value) start.items; count = start.len; room = let room = start.capacity in omega arith }

pub loop-k-preserved : goal.loop-k-preserved
loop-k-preserved g c =
    let value = g.W.Residue.value in
    let more = c.push_reserved.ensures in
    let so_far = c.loop-k.invariant in
    record {
      made = ap (map value) more.items ∙ map-append value c.loop-k.places.items (c.of.result ∷ [])
          ∙ pushed_more c.args.vals.now c.loop-k-test.true so_far.made c.of.ensures;
      count = let count = so_far.count in let len = more.len in omega arith;
      room = let room = so_far.room in let capacity = more.capacity in omega arith;
    }

pub returns : goal.returns
returns g c = c.loop-k.invariant.made ∙ take_all c.loop-k.k c.args.vals.now c.loop-k-test.false
