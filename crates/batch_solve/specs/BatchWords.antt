-- The words of the command line by which a batch is asked for.
use Rattle.std.specs.Prelude.{◌≡◌, ℕ, All, List, [], ◌∷◌, Option, None, MatchOption, codes}
use Rattle.std.specs.List.{flat_map}
use Rattle.spasm_words.specs.Words.{AreKnown, Given, InRange, IsSetBy, Rule, Setting, modulus_rule, names_of, setting, spelling, workers_rule}
use Rattle.batch_solve.specs.declared.batch_words.TheConstants.{LARGEST_COUNT}
use Rattle.batch_solve.specs.declared.batch_words.BatchCommand.{BatchCommand}

-- how many right-hand sides there are, which has to be said
abbrev pub count_rule : Rule
count_rule = record { name = codes "count"; values = InRange 1 LARGEST_COUNT; absent = None }

-- what is set for a batch, by options of which the program's other commands have all but the count
abbrev pub batch_settings : BatchCommand → List Setting
batch_settings c =
    setting count_rule c.count ∷ setting modulus_rule c.modulus ∷ setting workers_rule c.workers ∷ []

-- The words are options, each known and given at most once, and each number is set by them: the count is given, and each value is in
-- range. There is no other word.
pub record AcceptedBatch (words : List (List ℕ)) (c : BatchCommand) : Type 0 where
  pub options : List Given
  pub spelled : words ≡ flat_map spelling options
  pub known : AreKnown options (names_of (batch_settings c))
  pub set : All (IsSetBy options) (batch_settings c)

-- no batch is asked for by these words
abbrev pub AskForNoBatch : List (List ℕ) → Type 0
AskForNoBatch words = (c : BatchCommand) → ¬ AcceptedBatch words c

-- the batch that these words ask for, if they are accepted
abbrev pub IsBatchOf : List (List ℕ) → Option BatchCommand → Type 0
IsBatchOf words result = MatchOption result (AskForNoBatch words) (AcceptedBatch words)

-- the same words ask for the same batch
abbrev pub IsOneBatch : Type 0
IsOneBatch = (words : List (List ℕ)) (c d : BatchCommand) → AcceptedBatch words c → AcceptedBatch words d →
    c ≡ d
