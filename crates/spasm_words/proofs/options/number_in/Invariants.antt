-- What the digits so far make.
use Rattle.spasm_words.proofs.SpelledNumbers.{IsSpelledTo}
use Rattle.spasm_words.proofs.options.number_in.Given as goal

abbrev pub invariant-loop-b : goal.invariant-loop-b
invariant-loop-b l = IsSpelledTo l.word l.b-index l.number
