use Rattle.std.proofs.Common.{◌≡◌, take, false}
use Rattle.clap.specs.Words.{app_of}
use Rattle.clap.specs.declared.builder.command.Command.TheViews.{out-Command as fields_of}
use Rattle.spasm_words.proofs.Building.{options_so_far}
use Rattle.spasm_words.proofs.command_line.with_options.Given as goal

abbrev pub invariant-loop-name : goal.invariant-loop-name
invariant-loop-name l = (app_of l.command ≡ options_so_far (app_of l.initial.command) (take l.name-index l.names)) × ((fields_of l.command).has_globals ≡ false)
