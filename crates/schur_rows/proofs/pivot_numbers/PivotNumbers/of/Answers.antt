use Rattle.std.proofs.Common.{refl}
use Rattle.schur_rows.proofs.Numbers.{all_numbers, pairs_few, pairs_known}
use Rattle.schur_rows.proofs.pivot_numbers.PivotNumbers.of.Goals as goal

pub numbers_of-requires-clause-few : goal.numbers_of-requires-clause-few
numbers_of-requires-clause-few c = pairs_few c.rows.ensures refl c.is_sound.ensures.height c.pairs.ensures.pairs c.pairs.ensures.triangular

pub numbers_of-requires-clause-known : goal.numbers_of-requires-clause-known
numbers_of-requires-clause-known c = pairs_known c.rows.ensures c.is_sound.ensures.entries c.rows-2.ensures c.in_ok-rows.ensures c.deref.ensures.value c.pairs.ensures.pairs c.pairs.ensures.triangular

pub returns : goal.returns
returns c = all_numbers c.rows-2.ensures c.in_ok-rows.ensures c.deref.ensures.value c.pairs.ensures.pairs
    (pairs_few c.rows.ensures refl c.is_sound.ensures.height c.pairs.ensures.pairs c.pairs.ensures.triangular) c.in_ok-numbers.ensures
