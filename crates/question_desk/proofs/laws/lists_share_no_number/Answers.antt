use Rattle.question_desk.proofs.Serving.{shares_none}
use Rattle.question_desk.proofs.laws.lists_share_no_number.Goals as goal

pub returns : goal.returns
returns c = shares_none
