-- The options of a command, as its words are read.
use Rattle.std.specs.Prelude.{◌≡◌, ◌≢◌, ◌<◌, ℕ, All, List, [], ◌∷◌, Option, Some, MatchOption, codes, length, map, slice_index}
use Rattle.std.specs.List.{Contains}
use Rattle.std.specs.Borrow.{Bor}
use Rattle.clap.specs.Words.{App, Row, fault_of, first_of, found_of, matches_of, rows_of, subcommand_of, subcommand_rows_of}
use Rattle.clap.specs.declared.parser.matches.ArgMatches.{ArgMatches}
use Rattle.spasm_words.specs.declared.command.Command.{Command}
use Rattle.spasm_words.specs.declared.command.Task.{Task}
use Rattle.spasm_words.specs.Words.{Accepted, AreRefused, Given, IsNumber, Rule, Setting, own_settings, settings, task_name}

-- the bytes of the words
abbrev pub bytes_of : List (Bor (List ℕ)) → List (List ℕ)
bytes_of words = map (λ w. w.now) words

-- what clap makes of the words for a command line, if it takes them
abbrev pub AreTaken : App → List (List ℕ) → Option ArgMatches → Type 0
AreTaken line words result = MatchOption result (fault_of line words ≢ [])
    (λ m. (fault_of line words ≡ []) × (rows_of (found_of m) ≡ matches_of line words)
    × (subcommand_rows_of m ≡ subcommand_of line words))

-- the number of an option, if its text sets one
abbrev pub IsNumberOf : Rule → Option (List ℕ) → Option ℕ → Type 0
IsNumberOf rule text result = MatchOption result ((n : ℕ) → ¬ IsNumber rule text n) (IsNumber rule text)

-- the rows set this number
abbrev pub RowsSet : List Row → Setting → Type 0
RowsSet rows s = IsNumber s.rule (first_of s.rule.name rows) s.number

-- the task has this name, and the rows set what is its own
abbrev pub IsTaskOf : List ℕ → List Row → Task → Type 0
IsTaskOf name rows t = (name ≡ task_name t) × All (RowsSet rows) (own_settings t)

-- the task has this name, and nothing of its own is set
abbrev pub IsBareTask : List ℕ → Task → Type 0
IsBareTask name t = (name ≡ task_name t) × (own_settings t ≡ [])

-- the command that was entered and its rows ask for c
pub record AsksFor (entered : Option (List ℕ × List Row)) (c : Command) : Type 0 where
  pub rows : List Row
  pub entered_as : entered ≡ Some (task_name c.task, rows)
  pub set : All (RowsSet rows) (settings c)

-- the command that these words ask for, if they are accepted
abbrev pub IsCommandOf : List (List ℕ) → Option Command → Type 0
IsCommandOf words result = MatchOption result (AreRefused words) (Accepted words)

-- the same words ask for the same command
abbrev pub IsOneCommand : Type 0
IsOneCommand = (words : List (List ℕ)) (c d : Command) → Accepted words c → Accepted words d → c ≡ d

-- the value of the option doesn't begin with a dash, and its name has no =, so that a word is cut at its first one
pub record IsPlain (g : Given) : Type 0 where
  pub value : (rest : List ℕ) → g.value ≢ 45 ∷ rest
  pub name : (k : ℕ) → k < length g.name → slice_index g.name k ≢ 61

-- no accepted word is --, and each option given is plain
abbrev pub AcceptedIsPlain : Type 0
AcceptedIsPlain = (words : List (List ℕ)) (c : Command) (a : Accepted words c) →
    ((w : List ℕ) → Contains words w → w ≢ codes "--") × ((g : Given) → Contains a.options g → IsPlain g)
