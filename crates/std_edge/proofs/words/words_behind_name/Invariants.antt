use Rattle.std.proofs.Common.{◌≡◌, ◌++◌}
use Rattle.std.specs.Vec.Iter.{into_iter_items}
use Rattle.std_edge.specs.Edge.{words_behind}
use Rattle.std_edge.proofs.words.words_behind_name.Given as goal

abbrev pub invariant-loop-word : goal.invariant-loop-word
invariant-loop-word l = l.words.items ++ into_iter_items l.word-iterator ≡ words_behind l.fn.args
