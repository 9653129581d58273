-- By the words that are --, and by what clap takes.
use Rattle.std.proofs.Common.{ap, subst, ◌∙◌}
use Rattle.clap.specs.Words.{App, is_simple_and_free}
use Rattle.spasm_words.specs.Options.{AreTaken, bytes_of}
use Rattle.spasm_words.proofs.Exact.{answered, dashed, refused}
use Rattle.spasm_words.proofs.Program.{line_is_simple}
use Rattle.spasm_words.proofs.command_words.read_words.Goals as goal

pub returns-then-has_dashes : goal.returns-then-has_dashes
returns-then-has_dashes c = dashed c.args.words.now c.has_dashes.result c.has_dashes.ensures c.if-has_dashes.true

pub taken_by-requires : goal.taken_by-requires
taken_by-requires c = ap is_simple_and_free c.in_ok-line.ensures ∙ line_is_simple

pub returns-in-Some : goal.returns-in-Some
returns-in-Some c =
    let taken = subst (λ (app : App). AreTaken app (bytes_of c.args.words.now) c.in_ok-matches.field-0) c.in_ok-line.ensures c.in_ok-matches.ensures in
    answered c.args.words.now c.has_dashes.result c.in_ok-matches.field-0 c.in-Some.matches c.command_of.result c.has_dashes.ensures c.if-has_dashes.false taken c.in-Some.is c.command_of.ensures

pub returns-in-None : goal.returns-in-None
returns-in-None c =
    let taken = subst (λ (app : App). AreTaken app (bytes_of c.args.words.now) c.in_ok-matches.field-0) c.in_ok-line.ensures c.in_ok-matches.ensures in
    refused _ c.in_ok-matches.field-0 taken c.in-None.is
