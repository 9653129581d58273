-- The command line as clap takes it.
use Rattle.std.specs.Prelude.{List, [], ◌∷◌, ℕ, Some, true, codes, fold}
use Rattle.clap.specs.Words.{App, Rule, Shape, new_app, new_rule, with_rule, with_subcommand}
use Rattle.clap.specs.Simple.{on_top}
use Rattle.clap.specs.declared.builder.action.ArgAction.TheVariants.{Set}

-- the names of the options that all commands have
abbrev pub option_names : List (List ℕ)
option_names = codes "modulus" ∷ codes "workers" ∷ codes "rounds" ∷ []

-- the commands by their names, each with the names of the options that are its own
abbrev pub commands : List (List ℕ × List (List ℕ))
commands =
    (codes "rank", []) ∷ (codes "rref", []) ∷ (codes "kernel", []) ∷ (codes "solve", [])
    ∷ (codes "leftkernel", [])
    ∷ (codes "inverse", []) ∷ (codes "pivots", []) ∷ (codes "check", []) ∷ (codes "trace", [])
    ∷ (codes "replay", []) ∷ (codes "grow", [])
    ∷ (codes "drill", codes "seed" ∷ codes "rows" ∷ codes "cols" ∷ codes "per" ∷ [])
    ∷ (codes "certify", codes "kind" ∷ []) ∷ []

-- an option that takes one value
abbrev pub option_rule : List ℕ → Rule
option_rule name = record (new_rule name) { long = Some name; action = Some Set }

-- a command with options
abbrev pub with_options : App → List (List ℕ) → App
with_options app names = fold (λ a n. with_rule a (option_rule n)) app names

-- a command with the options of all commands, and its own
abbrev pub command_named : List ℕ → List (List ℕ) → App
command_named name own = with_options (with_options (new_app name) option_names) own

-- the program, whose words begin behind its name, with neither help nor version, and no command yet
abbrev pub no_commands : App
no_commands = on_top (λ (s : Shape). record s {
  no_binary_name = true;
  subcommand_required = true;
  disable_help_flag = true;
  disable_help_subcommand = true;
  disable_version_flag = true;
}) (new_app (codes "spasm"))

-- the program with its commands
abbrev pub command_line : App
command_line = fold (λ a c. with_subcommand a (command_named c.0 c.1).top) no_commands commands
