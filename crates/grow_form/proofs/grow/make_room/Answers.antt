use Rattle.std.proofs.Common.{◌∙◌, ap₂}
use Rattle.grow_form.specs.Numbering.{seen_rows}
use Rattle.grow_form.proofs.Numbers.{kept_added, seen_added}
use Rattle.grow_form.proofs.grow.make_room.Goals as goal

pub returns-in_ok-kept-clause-by_numbers : goal.returns-in_ok-kept-clause-by_numbers
returns-in_ok-kept-clause-by_numbers c = rw (c.in_ok-kept.ensures, c.add_numbers.ensures) (kept_added c.is_sound.ensures.rows c.requires.by_numbers c.in-Some.more)

pub returns-in_ok-kept-clause-seen : goal.returns-in_ok-kept-clause-seen
returns-in_ok-kept-clause-seen c = ap₂ seen_rows c.in_ok-kept.ensures c.add_numbers.ensures ∙ seen_added c.args.kept.now c.is_sound-2.ensures c.in-Some.more
