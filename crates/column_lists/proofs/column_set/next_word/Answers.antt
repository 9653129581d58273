use Rattle.std.proofs.Common.{refl, arith}
use Rattle.column_lists.proofs.Marking.{cleared, sought, sought_first}
use Rattle.column_lists.proofs.column_set.next_word.Goals as goal

pub overflow_mul-w : goal.overflow_mul-w
overflow_mul-w c = record { fits = omega (arith, (sought c.loop-t.invariant _ _ refl c.lowest_bit-k.ensures).0) }

pub overflow_add-w : goal.overflow_add-w
overflow_add-w c = record { fits = omega (arith, (sought c.loop-t.invariant _ _ refl c.lowest_bit-k.ensures).0) }

pub offset_bounds-words-w : goal.offset_bounds-words-w
offset_bounds-words-w c = record { fits = omega (arith, (sought c.loop-t.invariant _ _ refl c.lowest_bit-k.ensures).0) }

pub bounds-words-w : goal.bounds-words-w
bounds-words-w c = (sought c.loop-t.invariant _ _ refl c.lowest_bit-k.ensures).0

pub returns-then-words-w-ne0-clause-some : goal.returns-then-words-w-ne0-clause-some
returns-then-words-w-ne0-clause-some c = sought_first c.loop-t.invariant _ _ refl c.lowest_bit-k.ensures c.if-words-w-ne0.true

pub loop-t-preserved : goal.loop-t-preserved
loop-t-preserved c = cleared c.loop-t.invariant _ _ c.loop-t-test.true refl c.lowest_bit-k.ensures c.if-words-w-ne0.false
