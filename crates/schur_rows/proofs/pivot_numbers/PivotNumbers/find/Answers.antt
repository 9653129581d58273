use Rattle.schur_rows.proofs.Numbers.{none_here, none_there, rising_there}
use Rattle.schur_rows.proofs.pivot_numbers.PivotNumbers.find.Goals as goal

pub place_of-requires : goal.place_of-requires
place_of-requires c = rising_there c.requires c.deref.ensures.value

pub returns-in_default : goal.returns-in_default
returns-in_default c = none_there c.requires c.deref.ensures.value c.args.i c.in_default.ensures

pub returns-then-number : goal.returns-then-number
returns-then-number c = none_here c.requires c.deref.ensures.value c.args.i c.in-Some.t _ c.in-Some.ensures.0 c.in-Some.ensures.1 c.index-number.ensures c.if-number.true
