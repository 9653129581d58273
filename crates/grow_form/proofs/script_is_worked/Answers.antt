use Rattle.grow_form.proofs.Example.{worked}
use Rattle.grow_form.proofs.script_is_worked.Goals as goal

pub returns : goal.returns
returns c = worked
