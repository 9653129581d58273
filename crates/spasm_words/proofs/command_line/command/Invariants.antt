use Rattle.std.proofs.Common.{◌≡◌, take}
use Rattle.clap.specs.Words.{app_of}
use Rattle.spasm_words.proofs.Building.{commands_so_far}
use Rattle.spasm_words.proofs.command_line.command.Given as goal

abbrev pub invariant-loop-name : goal.invariant-loop-name
invariant-loop-name l = app_of l.line ≡ commands_so_far (take l.name-index l.name-items)
