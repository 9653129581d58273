use Rattle.pivot_table.proofs.Ending.{last_untouched}
use Rattle.pivot_table.proofs.Untouched.{untouched, opening_free}
use Rattle.pivot_table.proofs.untouched_is_free.Goals as goal

pub returns-clause-opening : goal.returns-clause-opening
returns-clause-opening c = untouched

pub returns-clause-free : goal.returns-clause-free
returns-clause-free c = opening_free

pub returns-clause-closed : goal.returns-clause-closed
returns-clause-closed c = last_untouched
