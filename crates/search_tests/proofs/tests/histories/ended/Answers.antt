use Rattle.std.proofs.Common.{subst, sym}
use Rattle.residue_words.specs.Matrix.{Matrix}
use Rattle.pivot_table.specs.Calls.{MayFinish}
use Rattle.search_tests.proofs.tests.histories.ended.Goals as goal

pub finish_row-requires-clause-settled : goal.finish_row-requires-clause-settled
finish_row-requires-clause-settled c = subst (λ (A : Matrix). MayFinish A c.args.first.chair) (sym c.requires.matrix) c.requires.first.1

pub finish_row-requires-2-clause-settled : goal.finish_row-requires-2-clause-settled
finish_row-requires-2-clause-settled c = subst (λ (A : Matrix). MayFinish A c.args.second.chair) (sym c.requires.matrix) c.requires.second.1
