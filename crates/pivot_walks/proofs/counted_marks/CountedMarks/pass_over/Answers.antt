use Rattle.std.proofs.Common.{subst}
use Rattle.std.specs.List.{Contains}
use Rattle.pivot_walks.specs.MarkedColumns.{AllBetween, Marked}
use Rattle.pivot_walks.proofs.counted_marks.CountedMarks.pass_over.Goals as goal

pub returns-clause-passed : goal.returns-clause-passed
returns-clause-passed g c = subst (λ (m : Marked). AllBetween (Contains m.list) c.args.cols.now c.args.from c.pass_over.result) c.self.view_is c.pass_over.ensures.passed
