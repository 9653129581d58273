use Rattle.std.proofs.Common.{◌≡◌, take}
use Rattle.std_edge.specs.Edge.{texts_of}
use Rattle.std_edge.proofs.Lending.{lent_texts}
use Rattle.std_edge.proofs.words.borrowed.Given as goal

abbrev pub invariant-loop-word : goal.invariant-loop-word
invariant-loop-word l = lent_texts l.words.items ≡ texts_of (take l.word-index l.owned)
