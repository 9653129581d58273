use Rattle.std.proofs.Common.{take}
use Rattle.pivot_table.specs.Core.{opening_marks}
use Rattle.pivot_table.specs.Rule.{Spells}
use Rattle.pivot_table.proofs.board_words.spell.Given as goal

abbrev pub invariant-loop-k : goal.invariant-loop-k
invariant-loop-k l = Spells l.book.rows.matrix l.words (take l.k l.pairs) (opening_marks l.book.rows.matrix (take l.k l.pairs))
