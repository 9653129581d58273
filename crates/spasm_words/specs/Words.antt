-- The words of the command line that are accepted.
use Rattle.std.specs.Prelude.{◌≡◌, ◌≢◌, ◌≤◌, ◌-◌, ◌^◌, if◌then◌else◌, ℕ, suc, All, Bool, true, false, List, [], ◌∷◌, ◌++◌, Option, Some, None, codes, IsTrue, map, option_map}
use Rattle.std.specs.List.{Contains, flat_map}
use Rattle.std.specs.Str.{bytes_eq}
use Rattle.residue_words.specs.declared.modulus.TheConstants.{MODULUS_BOUND}
use Rattle.sms_text.specs.Numbers.{is_number, value}
use Rattle.certificates.specs.declared.cert_kind.CertKind.{CertKind}
use Rattle.certificates.specs.declared.cert_kind.CertKind.TheVariants as kind
use Rattle.certificates.specs.CertificateText.{kind_word}
use Rattle.spasm_words.specs.declared.generator.TheConstants.{LARGEST_GENERATED, MOST_PER_ROW}
use Rattle.spasm_words.specs.Generator.{HasSizesInRange}
use Rattle.spasm_words.specs.declared.command.Command.{Command}
use Rattle.spasm_words.specs.declared.command.Task.{Task}
use Rattle.spasm_words.specs.declared.command.Task.TheVariants.{Rank, Rref, Kernel, Solve, LeftKernel, Inverse, Pivots, Check, Trace, Replay, Grow, Drill, Certify}

-- the name of a command, its first word
abbrev pub task_name : Task → List ℕ
task_name Rank = codes "rank"
task_name Rref = codes "rref"
task_name Kernel = codes "kernel"
task_name Solve = codes "solve"
task_name LeftKernel = codes "leftkernel"
task_name Inverse = codes "inverse"
task_name Pivots = codes "pivots"
task_name Check = codes "check"
task_name Trace = codes "trace"
task_name Replay = codes "replay"
task_name Grow = codes "grow"
task_name (Drill g) = codes "drill"
task_name (Certify k) = codes "certify"

-- the values that an option takes: the numbers from the least to the largest; or some words, each of which stands for its place among them,
-- counted from 0
pub data OptionValues : Type 0 where
  InRange : ℕ → ℕ → OptionValues
  OneOf : List (List ℕ) → OptionValues

-- an option that commands have: its name, its values, and the number that stands where it is absent; where there is none, it is required
pub record Rule : Type 0 where
  pub name : List ℕ
  pub values : OptionValues
  pub absent : Option ℕ

abbrev pub modulus_rule : Rule
modulus_rule = record { name = codes "modulus"; values = InRange 2 (MODULUS_BOUND - 1); absent = Some 42013 }

abbrev pub workers_rule : Rule
workers_rule = record { name = codes "workers"; values = InRange 1 64; absent = Some 1 }

abbrev pub rounds_rule : Rule
rounds_rule = record { name = codes "rounds"; values = InRange 0 16; absent = Some 3 }

abbrev pub seed_rule : Rule
seed_rule = record { name = codes "seed"; values = InRange 0 (2 ^ 64 - 1); absent = None }

abbrev pub rows_rule : Rule
rows_rule = record { name = codes "rows"; values = InRange 1 LARGEST_GENERATED; absent = None }

abbrev pub cols_rule : Rule
cols_rule = record { name = codes "cols"; values = InRange 1 LARGEST_GENERATED; absent = None }

abbrev pub per_rule : Rule
per_rule = record { name = codes "per"; values = InRange 0 MOST_PER_ROW; absent = None }

-- the kinds of certificates by their words
abbrev pub kind_rule : Rule
kind_rule = record {
  name = codes "kind";
  values = OneOf (kind_word kind.Rank ∷ kind_word kind.Rref ∷ kind_word kind.Kernel ∷ []);
  absent = None;
}

abbrev pub kind_place : CertKind → ℕ
kind_place kind.Rank = 0
kind_place kind.Rref = 1
kind_place kind.Kernel = 2

-- an option, and the number that a command carries for it
pub record Setting : Type 0 where
  pub rule : Rule
  pub number : ℕ

abbrev pub setting : Rule → ℕ → Setting
setting rule n = record { rule = rule; number = n }

-- what is set for a task alone
abbrev pub own_settings : Task → List Setting
own_settings (Drill g) =
    setting seed_rule g.seed ∷ setting rows_rule g.rows ∷ setting cols_rule g.cols ∷ setting per_rule g.per
    ∷ []
own_settings (Certify k) = setting kind_rule (kind_place k) ∷ []
own_settings task = []

-- what is set for a command: the options of all commands, and those of its task
abbrev pub settings : Command → List Setting
settings c =
    setting modulus_rule c.modulus ∷ setting workers_rule c.workers ∷ setting rounds_rule c.rounds
    ∷ own_settings c.task

-- if a matrix is to be generated, its sizes lie in range
abbrev pub IsOfSizes : Task → Type 0
IsOfSizes (Drill g) = HasSizesInRange g
IsOfSizes task = Unit {0}

-- the names of the options
abbrev pub names_of : List Setting → List (List ℕ)
names_of ss = map (λ s. s.rule.name) ss

-- an option as it is given: its name and its value, joined to it by = or standing as a word of its own
pub record Given : Type 0 where
  pub name : List ℕ
  pub value : List ℕ
  pub joined : Bool

abbrev pub spelling_of : Bool → List ℕ → List ℕ → List (List ℕ)
spelling_of true name value = (codes "--" ++ name ++ codes "=" ++ value) ∷ []
spelling_of false name value = (codes "--" ++ name) ∷ value ∷ []

-- the words that an option is given by
abbrev pub spelling : Given → List (List ℕ)
spelling g = spelling_of g.joined g.name g.value

-- a value in range: digits of a number from low to high
abbrev pub IsInRange : ℕ → ℕ → List ℕ → ℕ → Type 0
IsInRange low high w n = IsTrue (is_number w) × (n ≡ value w) × (low ≤ n) × (n ≤ high)

-- the option of this name is given with this text; or it is absent
abbrev pub IsGivenAs : List Given → List ℕ → Option (List ℕ) → Type 0
IsGivenAs options name (Some w) =
    (joined : Bool) × Contains options (record { name = name; value = w; joined = joined })
IsGivenAs options name None = (g : Given) → Contains options g → g.name ≢ name

-- the place of a word among these words, the first one that is it
abbrev pub place_among : List (List ℕ) → List ℕ → Option ℕ
place_among [] w = None
place_among (x ∷ xs) w = if bytes_eq x w then Some 0 else option_map suc (place_among xs w)

-- the word is a value, and stands for n
abbrev pub IsValue : OptionValues → List ℕ → ℕ → Type 0
IsValue (InRange low high) w n = IsInRange low high w n
IsValue (OneOf words) w n = place_among words w ≡ Some n

-- n is the number that the option's text stands for; or the one that stands where there is no text
abbrev pub IsNumber : Rule → Option (List ℕ) → ℕ → Type 0
IsNumber rule (Some w) n = IsValue rule.values w n
IsNumber rule None n = rule.absent ≡ Some n

-- the options set this number
abbrev pub IsSetBy : List Given → Setting → Type 0
IsSetBy options s =
    (text : Option (List ℕ)) × IsGivenAs options s.rule.name text × IsNumber s.rule text s.number

-- each option has one of these names, and no name comes twice
pub record AreKnown (options : List Given) (names : List (List ℕ)) : Type 0 where
  pub known : (g : Given) → Contains options g → Contains names g.name
  pub once : (before : List Given) (g : Given) (between : List Given) (h : Given) (after : List Given) →
      options ≡ before ++ g ∷ between ++ h ∷ after → g.name ≢ h.name

-- The words are the command's name and its options, each known and given at most once, and each number is set by them: those that are
-- required are given, and each has a value of its own. So no value begins with a dash, and no word is --.
pub record Accepted (words : List (List ℕ)) (c : Command) : Type 0 where
  pub options : List Given
  pub spelled : words ≡ task_name c.task ∷ flat_map spelling options
  pub known : AreKnown options (names_of (settings c))
  pub set : All (IsSetBy options) (settings c)

-- no command is accepted for these words
abbrev pub AreRefused : List (List ℕ) → Type 0
AreRefused words = (c : Command) → ¬ Accepted words c
