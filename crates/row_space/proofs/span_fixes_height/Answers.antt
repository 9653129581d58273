use Rattle.row_space.proofs.Counting.{span_height}
use Rattle.row_space.proofs.span_fixes_height.Goals as goal

pub returns : goal.returns
returns c = span_height
