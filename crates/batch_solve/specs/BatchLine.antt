-- The batch program's command line as clap takes it.
use Rattle.std.specs.Prelude.{List, [], ◌∷◌, All, true, codes}
use Rattle.clap.specs.Words.{App, Row, Shape, new_app}
use Rattle.clap.specs.Simple.{on_top}
use Rattle.spasm_words.specs.Line.{with_options}
use Rattle.spasm_words.specs.Options.{RowsSet}
use Rattle.batch_solve.specs.declared.batch_words.BatchCommand.{BatchCommand}
use Rattle.batch_solve.specs.BatchWords.{batch_settings}

-- the program, whose words begin behind its name, with neither help nor version, and no option yet
abbrev pub no_options : App
no_options = on_top (λ (s : Shape). record s {
  no_binary_name = true;
  disable_help_flag = true;
  disable_version_flag = true;
}) (new_app (codes "spasm_batch"))

-- the program with its options
abbrev pub batch_line : App
batch_line = with_options no_options (codes "count" ∷ codes "modulus" ∷ codes "workers" ∷ [])

-- the rows set what a batch has
abbrev pub SetBatch : List Row → BatchCommand → Type 0
SetBatch rows c = All (RowsSet rows) (batch_settings c)
