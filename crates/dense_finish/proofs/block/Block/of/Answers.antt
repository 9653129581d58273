use Rattle.std.proofs.Common.{arith}
use Rattle.dense_finish.proofs.Assembling.{block_dense}
use Rattle.dense_finish.proofs.block.Block.of.Goals as goal

pub returns-clause-block : goal.returns-clause-block
returns-clause-block g c = record {
  modulus = c.modulus.ensures.value;
  height = c.height.ensures.value;
  width = c.width.ensures.value;
  sound = c.height.ensures.sound;
  filled = c.in_ok-filled.ensures;
  occupied = c.in_ok-columns.ensures;
  entries = rw (c.deref.ensures.value, c.deref-2.ensures.value) at c.in_ok-entries.ensures;
}

pub returns-clause-dense : goal.returns-clause-dense
returns-clause-dense g c =
    block_dense (omega (arith, c.modulus.ensures.two_or_more, c.modulus.ensures.value)) (omega (arith, c.height.ensures.value, c.height.ensures.bound)) (omega (arith, c.width.ensures.value, c.width.ensures.bound))
    (returns-clause-block g c)

pub make_block-requires-clause-able : goal.make_block-requires-clause-able
make_block-requires-clause-able g c = c.requires.able

pub make_block-requires-clause-modulus : goal.make_block-requires-clause-modulus
make_block-requires-clause-modulus g c = c.requires.modulus

pub make_block-requires-clause-columns : goal.make_block-requires-clause-columns
make_block-requires-clause-columns g c = rw c.deref-2.ensures.value c.in_ok-columns.ensures
