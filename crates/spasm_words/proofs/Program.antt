-- The whole command line: what clap takes of it, and what is accepted.
use Rattle.std.proofs.Common.{◌≡◌, ◌≢◌, ◌⊎◌, inl, inr, ◌++◌, ◌∙◌, Bool, true, false, List, [], ◌∷◌, map, Option, Some, None, refl, sym, ap, arith, codes, append-nil, append_assoc}
use Rattle.std.specs.List.{Contains, find, fold}
use Rattle.std.specs.Str.{bytes_eq}
use Rattle.std.proofs.lemmas.Slice.Eq.{bytes_eq-Decides}
use Rattle.clap.specs.Lexer.{long_of, short_of}
use Rattle.clap.specs.Walk.{Names, Text, Walk, answers_to, bundle, nothing_held, plain, rows_after, walk, walk_from, walked}
use Rattle.clap.specs.Simple.{App, Shape, entered, new_shape, subcommand_of}
use Rattle.clap.specs.Kinds.{Kinds, or_else}
use Rattle.clap.specs.Faults.{bundle_fault, defaults_fault, entered_fault, fault_of, is_simple_and_free, level_fault, turn_fault, walk_fault}
use Rattle.clap.specs.declared.error.kind.ErrorKind.{ErrorKind}
use Rattle.clap.specs.declared.error.kind.ErrorKind.TheVariants.{InvalidSubcommand, UnknownArgument}
use Rattle.clap.proofs.OnLiterals.{clap_on_literals}
use Rattle.certificates.specs.declared.cert_kind.CertKind.TheVariants as kind
use Rattle.spasm_words.specs.Words.{names_of, own_settings, task_name}
use Rattle.spasm_words.specs.Line.{command_line, commands, option_names}
use Rattle.spasm_words.specs.declared.generator.Generator.{Generator}
use Rattle.spasm_words.specs.declared.command.Task.{Task}
use Rattle.spasm_words.specs.declared.command.Task.TheVariants.{Rank, Rref, Kernel, Solve, LeftKernel, Inverse, Pivots, Check, Trace, Replay, Grow, Drill, Certify}
use Rattle.spasm_words.proofs.Spelled.{Spelled, Joined, Apart, Other, spelled_as}
use Rattle.spasm_words.proofs.Walks.{Refused, AsPlain, command_of, flags_of, none_first, rules_of}

-- the names of a task's options
abbrev pub task_names : Task → List Text
task_names t = option_names ++ names_of (own_settings t)

-- a task of each name
abbrev anything : Generator
anything = record { seed = 0; rows = 0; cols = 0; per = 0 }

abbrev pub tasks : List Task
tasks = Rank ∷ Rref ∷ Kernel ∷ Solve ∷ LeftKernel ∷ Inverse ∷ Pivots ∷ Check ∷ Trace ∷ Replay ∷ Grow ∷ Drill anything ∷ Certify kind.Rank ∷ []

-- the program as building leaves it
abbrev top : Shape
top = record (new_shape (codes "spasm")) {
  is_leaf = false;
  no_binary_name = true;
  disable_help_flag = true;
  disable_help_subcommand = true;
  disable_version_flag = true;
  subcommand_required = true;
  is_built = true;
}

abbrev program : App
program = record { top = top; subs = map (λ c. command_of c.0 (option_names ++ c.1)) commands }

abbrev labels : Names
labels = map (λ t. (task_name t, [])) tasks

pub line_is_simple : is_simple_and_free command_line ≡ true
line_is_simple = refl

-- ---- the first word

abbrev start : Walk
start = walk_from nothing_held

abbrev stopped_at : Text → List Text → Walk
stopped_at name rest = record start { stopped = Some (name, rest) }

walked_on : (name : Text) (before rest : List Text) → fold (walked [] labels) (stopped_at name before) rest ≡ stopped_at name (before ++ rest)
unfolding walked
walked_on name before [] = ap (stopped_at name) (sym (append-nil before))
walked_on name before (w ∷ rest) = walked_on name (before ++ w ∷ []) rest ∙ ap (stopped_at name) (append_assoc before (w ∷ []) rest)

no_fault_behind : (name : Text) (before rest : List Text) → walk_fault top labels (stopped_at name before) rest ≡ []
unfolding walked walk_fault
no_fault_behind name before [] = refl
no_fault_behind name before (w ∷ rest) = no_fault_behind name (before ++ w ∷ []) rest

met : (t : Task) → walked [] labels start (task_name t) ≡ stopped_at (task_name t) []
unfolding walked
met Rank = refl
met Rref = refl
met Kernel = refl
met Solve = refl
met LeftKernel = refl
met Inverse = refl
met Pivots = refl
met Check = refl
met Trace = refl
met Replay = refl
met Grow = refl
met (Drill g) = refl
met (Certify k) = refl

met_turn : (t : Task) → turn_fault top labels start (task_name t) ≡ []
met_turn Rank = refl
met_turn Rref = refl
met_turn Kernel = refl
met_turn Solve = refl
met_turn LeftKernel = refl
met_turn Inverse = refl
met_turn Pivots = refl
met_turn Check = refl
met_turn Trace = refl
met_turn Replay = refl
met_turn Grow = refl
met_turn (Drill g) = refl
met_turn (Certify k) = refl

entered_task : (t : Task) (rest : List Text) → entered program (Some (task_name t, rest)) ≡ Some (task_name t, rows_after (rules_of (task_names t)) [] rest)
entered_task Rank rest = refl
entered_task Rref rest = refl
entered_task Kernel rest = refl
entered_task Solve rest = refl
entered_task LeftKernel rest = refl
entered_task Inverse rest = refl
entered_task Pivots rest = refl
entered_task Check rest = refl
entered_task Trace rest = refl
entered_task Replay rest = refl
entered_task Grow rest = refl
entered_task (Drill g) rest = refl
entered_task (Certify k) rest = refl

fault_below : (t : Task) (rest : List Text) → entered_fault program (Some (task_name t, rest)) ≡ level_fault (command_of (task_name t) (task_names t)) [] nothing_held rest false []
fault_below Rank rest = refl
fault_below Rref rest = refl
fault_below Kernel rest = refl
fault_below Solve rest = refl
fault_below LeftKernel rest = refl
fault_below Inverse rest = refl
fault_below Pivots rest = refl
fault_below Check rest = refl
fault_below Trace rest = refl
fault_below Replay rest = refl
fault_below Grow rest = refl
fault_below (Drill g) rest = refl
fault_below (Certify k) rest = refl

walk_of : (t : Task) (rest : List Text) → walk [] labels nothing_held (task_name t ∷ rest) ≡ stopped_at (task_name t) rest
walk_of t rest = ap (λ (w : Walk). fold (walked [] labels) w rest) (met t) ∙ walked_on (task_name t) [] rest

walk_fault_of : (t : Task) (rest : List Text) → walk_fault top labels start (task_name t ∷ rest) ≡ []
unfolding walk_fault
walk_fault_of t rest = rw (met_turn t, met t) (no_fault_behind (task_name t) [] rest)

pub subcommand_at : (t : Task) (rest : List Text) → subcommand_of command_line (task_name t ∷ rest) ≡ Some (task_name t, rows_after (rules_of (task_names t)) [] rest)
subcommand_at t rest = ap (λ (w : Walk). entered program w.stopped) (walk_of t rest) ∙ entered_task t rest

or_none : (k : Kinds) → or_else k [] ≡ k
or_none [] = refl
or_none (x ∷ xs) = refl

pub fault_at : (t : Task) (rest : List Text) → fault_of command_line (task_name t ∷ rest) ≡ level_fault (command_of (task_name t) (task_names t)) [] nothing_held rest false []
unfolding defaults_fault
fault_at t rest =
    let below : Kinds = level_fault (command_of (task_name t) (task_names t)) [] nothing_held rest false [] in
    rw (walk_fault_of t rest, walk_of t rest, entered_task t rest, fault_below t rest) (or_none below)

-- ---- a first word that is no command's name is refused

module _ (word : Text) (missing : find (answers_to word) labels ≡ None) (dashes : bytes_eq word (codes "--") ≡ false) where
  long_refused : (name : Text) (v : Option Text) → long_of word ≡ Some (name, v) → turn_fault top labels start word ≡ UnknownArgument ∷ []
  long_refused name v long = rw (missing, dashes, long) refl

  plain_refused : long_of word ≡ None → short_of word ≡ None → turn_fault top labels start word ≡ UnknownArgument ∷ InvalidSubcommand ∷ []
  plain_refused long short = rw (missing, dashes, long, short) refl

  flags_refused : (flags : Text) → long_of word ≡ None → short_of word ≡ Some flags → bundle_fault [] false flags nothing_held ≡ UnknownArgument ∷ []
      → turn_fault top labels start word ≡ UnknownArgument ∷ []
  flags_refused flags long short f = rw (missing, dashes, long, short, f) refl

  flags_plain : (flags : Text) → long_of word ≡ None → short_of word ≡ Some flags → bundle_fault [] false flags nothing_held ≡ []
      → bundle [] flags nothing_held ≡ (nothing_held, plain) → turn_fault top labels start word ≡ UnknownArgument ∷ InvalidSubcommand ∷ []
  flags_plain flags long short f b = rw (missing, dashes, long, short, f, b) refl

  first_refused : (rest : List Text) → walk_fault top labels start (word ∷ rest) ≢ []
  unfolding walk_fault
  first_refused rest none = go (spelled_as word)
    where
      turn : Kinds
      turn = turn_fault top labels start word

      wrong : (x : ErrorKind) (xs : Kinds) → turn_fault top labels start word ≡ x ∷ xs → ⊥
      wrong x xs e = let f : x ∷ xs ≡ [] = sym e ∙ none_first _ _ none in cc

      by_short : long_of word ≡ None → (o : Option Text) → short_of word ≡ o → ⊥
      by_short long None short = wrong _ _ (plain_refused long short)
      by_short long (Some flags) short = elim (flags_of [] flags [] None) [
        | Refused f ↦ wrong _ _ (flags_refused flags long short f)
        | AsPlain f b ↦ wrong _ _ (flags_plain flags long short f b)
      ]

      go : Spelled word → ⊥
      go (Joined name v is long) = wrong _ _ (long_refused name (Some v) long)
      go (Apart name is long) = wrong _ _ (long_refused name None long)
      go (Other long) = by_short long (short_of word) refl

-- a word names a command, or none
named : (word : Text) (ts : List Task) → ((t : Task) × (word ≡ task_name t)) ⊎ (find (answers_to word) (map (λ t. (task_name t, [])) ts) ≡ None)
named word [] = inr refl
named word (t ∷ ts) = go (bytes_eq (task_name t) word) refl (named word ts)
  where
    go : (b : Bool) → bytes_eq (task_name t) word ≡ b → ((t : Task) × (word ≡ task_name t)) ⊎ (find (answers_to word) (map (λ t. (task_name t, [])) ts) ≡ None)
        → ((t : Task) × (word ≡ task_name t)) ⊎ (find (answers_to word) (map (λ t. (task_name t, [])) (t ∷ ts)) ≡ None)
    go true e r = inl (t, sym ((bytes_eq-Decides (task_name t) word).0 e))
    go false e (inl r) = inl r
    go false e (inr r) = inr (rw e r)

no_words_refused : fault_of command_line [] ≢ []
unfolding clap_on_literals
no_words_refused e = cc

-- words that clap takes begin with a command's name
pub first_is_named : (words : List Text) → ((w : Text) → Contains words w → bytes_eq w (codes "--") ≡ false) → fault_of command_line words ≡ []
    → (t : Task) × (rest : List Text) × (words ≡ task_name t ∷ rest)
first_is_named [] d none = absurd (no_words_refused none)
first_is_named (w ∷ rest) d none = elim (named w tasks) [
  | inl k ↦ (k.0, rest, ap (λ (x : Text). x ∷ rest) k.1)
  | inr e ↦ absurd (first_refused w e (d w (0, omega arith, refl)) rest (none_first _ _ none))
]
