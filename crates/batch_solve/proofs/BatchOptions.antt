-- The words that ask for a batch are those that clap takes, with each number in its range.
use Rattle.std.proofs.Common.{◌≡◌, ◌∙◌, ◌<◌, ◌≤◌, ℕ, Bool, true, false, List, [], ◌∷◌, map, Option, Some, None, MatchOption, refl, sym, ap, subst, arith, codes}
use Rattle.std.specs.Prelude.{is_some, unwrap_or}
use Rattle.std.specs.Borrow.{Bor}
use Rattle.std.specs.List.{Contains, flat_map, list_any}
use Rattle.std.specs.Str.{bytes_eq}
use Rattle.std.proofs.lemmas.List.Elements.{All-cons, All-nil}
use Rattle.clap.specs.Faults.{entered_fault, fault_of, is_simple_and_free, level_fault}
use Rattle.clap.specs.Simple.{App, entered, matches_of}
use Rattle.clap.specs.Walk.{Row, Text, nothing_held, rows_of, walk}
use Rattle.clap.specs.Words.{first_value, found_of}
use Rattle.clap.specs.declared.parser.matches.ArgMatches.{ArgMatches}
use Rattle.clap.specs.declared.parser.matches.Found.{Found}
use Rattle.residue_words.specs.declared.modulus.TheConstants.{MODULUS_BOUND}
use Rattle.spasm_words.specs.Options.{AreTaken, RowsSet}
use Rattle.spasm_words.specs.Words.{Given, IsNumber, Rule, Setting, modulus_rule, setting, spelling, workers_rule}
use Rattle.spasm_words.proofs.Accepting.{fits_first, fits_known, known_fits, rows_set, set_rows}
use Rattle.spasm_words.proofs.Exact.{all_begin, all_plain, bytes, dashes_false, each_name, no_dashes, one_list, options_dashes, plain_value, words_dashes}
use Rattle.spasm_words.proofs.InRange.{modulus_set, no_default, number_in_range, workers_set}
use Rattle.spasm_words.proofs.Matching.{gives_number, number_given}
use Rattle.spasm_words.proofs.Reading.{Fits, IsName, NoDashes, level_passes, passes_level, passes_reads, reads_passes, row_of_given}
use Rattle.spasm_words.proofs.Walks.{command_of, rules_of}
use Rattle.batch_solve.specs.declared.batch_words.BatchCommand.{BatchCommand}
use Rattle.batch_solve.specs.declared.batch_words.TheConstants.{LARGEST_COUNT}
use Rattle.batch_solve.specs.BatchLine.{SetBatch, batch_line}
use Rattle.batch_solve.specs.BatchWords.{AcceptedBatch, AskForNoBatch, IsBatchOf, IsOneBatch, batch_settings, count_rule}

abbrev title : Text
title = codes "spasm_batch"

abbrev names : List Text
names = codes "count" ∷ codes "modulus" ∷ codes "workers" ∷ []

pub line_is_ready : is_simple_and_free batch_line ≡ true
line_is_ready = refl

-- the program as building leaves it, which has one level
abbrev built_line : App
built_line = record { top = command_of title names; subs = [] }

level_at : (words : List Text) (stop : Option (Text × List Text)) →
    level_fault (command_of title names) [] nothing_held words (is_some (entered built_line stop)) (entered_fault built_line stop)
    ≡ level_fault (command_of title names) [] nothing_held words false []
level_at words None = refl
level_at words (Some p) = refl

fault_is : (words : List Text) → fault_of batch_line words ≡ level_fault (command_of title names) [] nothing_held words false []
fault_is words = level_at words (walk (rules_of names) [] nothing_held words).stopped

are_names : (name : Text) → Contains names name → IsName name
are_names = each_name names refl

-- ---- accepted words are taken, and set what the batch has

record WordsTaken (words : List Text) (c : BatchCommand) : Type 0 where
  no_fault : fault_of batch_line words ≡ []
  sets : SetBatch (matches_of batch_line words) c
  dashes : NoDashes words

taken_options : (c : BatchCommand) (options : List Given) → Fits names [] options → SetBatch (map row_of_given options) c → WordsTaken (flat_map spelling options) c
taken_options c options f set =
    let plain = all_plain options (λ g k. plain_value g.value (all_begin (batch_settings c) (map row_of_given options) g refl set ((fits_known names options f).known g k) (fits_first names [] options g f k))) in
    let level = passes_level title names (flat_map spelling options) (map row_of_given options) (reads_passes title names are_names options f plain) in
    record {
      no_fault = fault_is (flat_map spelling options) ∙ level.0;
      sets = subst (λ (rows : List Row). SetBatch rows c) (sym level.1) set;
      dashes = options_dashes names are_names [] options f plain;
    }

taken : (words : List Text) (c : BatchCommand) → AcceptedBatch words c → WordsTaken words c
taken words c a =
    let f = known_fits names a.options a.known in
    subst (λ (ws : List Text). WordsTaken ws c) (sym a.spelled) (taken_options c a.options f (λ k d lt. set_rows names a.options _ f (a.set k d lt)))

-- ---- and words that are taken and set what a batch has are accepted

sets_accepted : (words : List Text) (c : BatchCommand) → NoDashes words → fault_of batch_line words ≡ [] → SetBatch (matches_of batch_line words) c → AcceptedBatch words c
sets_accepted words c d none s =
    let level = level_passes title names words (sym (fault_is words) ∙ none) in
    let r = passes_reads title names words _ d level in
    record {
      options = r.options;
      spelled = r.spelled;
      known = fits_known names r.options r.fits;
      set = λ k d lt. rows_set r.options _ (subst (λ (rows : List Row). SetBatch rows c) r.ends s k d lt);
    }

-- ---- one batch at most

abbrev decode : List ℕ → Option BatchCommand
decode (n ∷ p ∷ w ∷ []) = Some (record { count = n; modulus = p; workers = w })
decode ns = None

abbrev numbers : BatchCommand → List ℕ
numbers c = map (λ s. s.number) (batch_settings c)

pub one_batch : IsOneBatch
one_batch words c d a b =
    let same : numbers c ≡ numbers d = one_list (matches_of batch_line words) (batch_settings c) (batch_settings d) refl (taken words c a).sets (taken words d b).sets in
    ap (λ (ns : List ℕ). unwrap_or (decode ns) c) same

-- ---- the answers of the reading functions

pub dashed_batch : (words : List (Bor Text)) (b : Bool) → b ≡ list_any (λ w. bytes_eq w.now (codes "--")) words → b ≡ true → AskForNoBatch (bytes words)
dashed_batch words b e f c a =
    let g : true ≡ false = sym f ∙ e ∙ words_dashes words ∙ dashes_false (bytes words) (taken (bytes words) c a).dashes in
    absurd cc

pub refused_batch : (words : List Text) (o : Option ArgMatches) → AreTaken batch_line words o → o ≡ None → AskForNoBatch words
refused_batch words o h e c a = subst (AreTaken batch_line words) e h (taken words c a).no_fault

pub answered_batch : (words : List (Bor Text)) (b : Bool) (o : Option ArgMatches) (m : ArgMatches) (result : Option BatchCommand) → b ≡ list_any (λ w. bytes_eq w.now (codes "--")) words → b ≡ false
    → AreTaken batch_line (bytes words) o → o ≡ Some m → MatchOption result ((c : BatchCommand) → ¬ SetBatch (rows_of (found_of m)) c) (SetBatch (rows_of (found_of m))) → IsBatchOf (bytes words) result
answered_batch words b o m None e f t is h =
    let k = subst (AreTaken batch_line (bytes words)) is t in
    λ c a. h c (subst (λ (rows : List Row). SetBatch rows c) (sym k.1) (taken (bytes words) c a).sets)
answered_batch words b o m (Some c) e f t is h =
    let k = subst (AreTaken batch_line (bytes words)) is t in
    sets_accepted (bytes words) c (no_dashes (bytes words) (sym (words_dashes words) ∙ sym e ∙ f)) k.0 (subst (λ (rows : List Row). SetBatch rows c) k.1 h)

-- where a number isn't given in its range, no batch is set
no_batch : (rule : Rule) (number : BatchCommand → ℕ) (f : Found) → ((c : BatchCommand) → SetBatch (rows_of f) c → RowsSet (rows_of f) (setting rule (number c)))
    → ((n : ℕ) → ¬ IsNumber rule (first_value f rule.name) n) → (c : BatchCommand) → ¬ SetBatch (rows_of f) c
no_batch rule number f picked h c s = h (number c) (number_given rule f (number c) (picked c s))

pub no_count : (f : Found) → ((n : ℕ) → ¬ IsNumber count_rule (first_value f (codes "count")) n) → (c : BatchCommand) → ¬ SetBatch (rows_of f) c
no_count f = no_batch count_rule (λ c. c.count) f (λ c s. s 0 (setting count_rule 0) (omega arith))

pub no_modulus : (f : Found) → ((n : ℕ) → ¬ IsNumber modulus_rule (first_value f (codes "modulus")) n) → (c : BatchCommand) → ¬ SetBatch (rows_of f) c
no_modulus f = no_batch modulus_rule (λ c. c.modulus) f (λ c s. s 1 (setting modulus_rule 0) (omega arith))

pub no_workers : (f : Found) → ((n : ℕ) → ¬ IsNumber workers_rule (first_value f (codes "workers")) n) → (c : BatchCommand) → ¬ SetBatch (rows_of f) c
no_workers f = no_batch workers_rule (λ c. c.workers) f (λ c s. s 2 (setting workers_rule 0) (omega arith))

-- where all are given, a batch is set
pub batch_set : (f : Found) (c : BatchCommand) → IsNumber count_rule (first_value f (codes "count")) c.count → IsNumber modulus_rule (first_value f (codes "modulus")) c.modulus
    → IsNumber workers_rule (first_value f (codes "workers")) c.workers → SetBatch (rows_of f) c
batch_set f c n m w =
    let P = RowsSet (rows_of f) in
    let last : List Setting = setting workers_rule c.workers ∷ [] in
    let more : List Setting = setting modulus_rule c.modulus ∷ last in
    All-cons P (setting count_rule c.count) more (gives_number count_rule f c.count n) (All-cons P (setting modulus_rule c.modulus) last (gives_number modulus_rule f c.modulus m)
    (All-cons P (setting workers_rule c.workers) [] (gives_number workers_rule f c.workers w) (All-nil P)))

-- ---- the numbers lie in their ranges

pub count_in_range : (words : List (List ℕ)) (c : BatchCommand) → AcceptedBatch words c → (1 ≤ c.count) × (c.count ≤ LARGEST_COUNT)
count_in_range words c a =
    let is = a.set 0 (setting count_rule 0) (omega arith) in
    number_in_range count_rule.name 1 LARGEST_COUNT None is.0 c.count (λ m e. no_default 1 LARGEST_COUNT m e) is.2

pub modulus_in_range : (words : List (List ℕ)) (c : BatchCommand) → AcceptedBatch words c → (2 ≤ c.modulus) × (c.modulus < MODULUS_BOUND)
modulus_in_range words c a = modulus_set a.options c.modulus (a.set 1 (setting modulus_rule 0) (omega arith))

pub workers_in_range : (words : List (List ℕ)) (c : BatchCommand) → AcceptedBatch words c → (1 ≤ c.workers) × (c.workers ≤ 64)
workers_in_range words c a = workers_set a.options c.workers (a.set 2 (setting workers_rule 0) (omega arith))
