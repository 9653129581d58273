-- By the word that is given.
use Rattle.clap.specs.Words.{found_of}
use Rattle.spasm_words.proofs.Matching.{kind_told, no_kind}
use Rattle.spasm_words.proofs.command_words.kind_of.Goals as goal

pub returns-in_err-word : goal.returns-in_err-word
returns-in_err-word c =
    let none = c.from_residual.ensures in
    rw none (no_kind (found_of c.args.options.now) c.in_err-word.ensures)

pub returns : goal.returns
returns c = kind_told (found_of c.args.options.now) c.in_ok-word.word.now c.of_word.result c.in_ok-word.ensures (rw c.as_bytes.ensures.value at c.of_word.ensures)
