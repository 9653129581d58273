-- The steps of clap's walk over the words of one command, whose options all take one value.
use Rattle.std.proofs.Common.{◌≡◌, ◌⊎◌, inl, inr, ◌++◌, ◌∙◌, ℕ, zero, suc, Bool, true, false, List, [], ◌∷◌, length, map, Option, Some, None, refl, sym, ap, arith, codes, append-nil}
use Rattle.std.specs.Prelude.{slice_get}
use Rattle.std.specs.List.{Contains}
use Rattle.std.specs.Str.{bytes_eq, chars}
use Rattle.std.proofs.lemmas.Slice.Eq.{bytes_eq-Decides}
use Rattle.clap.specs.Lexer.{long_of, short_of}
use Rattle.spasm_words.proofs.Spelled.{Spelled, Joined, Apart, Other, spelled_as}
use Rattle.clap.specs.Walk.{Held, Row, Rule, Text, Walk, arg_by_id, arg_by_index, arg_by_long, arg_by_short, at_row, bundle, bundle_met, has_row, idle, more_values, option, plain, settled_rows, used, walked, with_values, without}
use Rattle.clap.specs.Simple.{Shape, filled, new_shape}
use Rattle.clap.specs.Kinds.{Kinds, or_else}
use Rattle.spasm_words.specs.Line.{option_rule as line_rule}
use Rattle.clap.specs.Faults.{bundle_fault, flags_fault, settle_fault, turn_fault, use_fault}
use Rattle.clap.specs.declared.builder.value_parser.Reading.TheVariants.{AsWritten}
use Rattle.clap.specs.declared.error.kind.ErrorKind.{ErrorKind}
use Rattle.clap.specs.declared.error.kind.ErrorKind.TheVariants.{InvalidValue, UnknownArgument}
use Rattle.clap.specs.declared.parser.matches.ValueSource.TheVariants.{CommandLine}

-- an option as building leaves it, and the command with these options
abbrev pub option_rule : Text → Rule
option_rule name = filled (line_rule name)

abbrev pub rules_of : List Text → List Rule
rules_of names = map option_rule names

abbrev pub command_of : Text → List Text → Shape
command_of title names = record (new_shape title) {
  rules = rules_of names;
  no_binary_name = true;
  disable_help_flag = true;
  disable_help_subcommand = true;
  disable_version_flag = true;
  is_built = true;
}

-- the row of an option with its value
abbrev pub option_row : Text → Text → Row
option_row name v = record { id = name; values = v ∷ []; count = None; source = Some CommandLine; reading = AsWritten }

abbrev pub holding : List Row → Option (Text × List Text) → Held
holding rows p = record { rows = rows; pending = p; skip = 0 }

-- the walk between two options, and behind the name of an option
abbrev pub idle_at : List Row → Option (Text × List Text) → Walk
idle_at rows p = record { held = holding rows p; waiting = idle; position = 1; is_trailing = false; stopped = None }

abbrev pub waiting_at : List Row → Text → Walk
waiting_at rows id = record { held = holding rows (Some (id, [])); waiting = option id; position = 1; is_trailing = false; stopped = None }

-- ---- finding an option

pub no_short : (names : List Text) (x : ℕ) → arg_by_short (rules_of names) x ≡ None
no_short [] x = refl
no_short (n ∷ names) x = no_short names x

pub no_index : (names : List Text) (i : ℕ) → arg_by_index (rules_of names) i ≡ None
no_index [] i = refl
no_index (n ∷ names) i = no_index names i

further : (n m : Text) (names : List Text) → Contains names n → Contains (m ∷ names) n
further n m names (k, h, e) = (suc k, omega arith, e)

-- the option of this name is found, or there is none
pub found_long : (names : List Text) (name : Text) → (Contains names name × (arg_by_long (rules_of names) name ≡ Some (option_rule name))) ⊎ (arg_by_long (rules_of names) name ≡ None)
found_long [] name = inr refl
found_long (n ∷ names) name = go (bytes_eq n name) refl (found_long names name)
  where
    go : (b : Bool) → bytes_eq n name ≡ b → (Contains names name × (arg_by_long (rules_of names) name ≡ Some (option_rule name))) ⊎ (arg_by_long (rules_of names) name ≡ None)
        → (Contains (n ∷ names) name × (arg_by_long (rules_of (n ∷ names)) name ≡ Some (option_rule name))) ⊎ (arg_by_long (rules_of (n ∷ names)) name ≡ None)
    go true e r =
        let same : n ≡ name = (bytes_eq-Decides n name).0 e in
        inl ((0, omega arith, same), rw e (ap (λ (t : Text). Some (option_rule t)) same))
    go false e (inl r) = inl (further name n names r.0, rw e r.1)
    go false e (inr r) = inr (rw e r)

pub known_id : (names : List Text) (name : Text) → Contains names name → arg_by_id (rules_of names) name ≡ Some (option_rule name)
known_id [] name (k, h, e) = absurd (omega arith)
known_id (n ∷ names) name k = go (bytes_eq n name) refl k (λ k. known_id names name k)
  where
    go : (b : Bool) → bytes_eq n name ≡ b → Contains (n ∷ names) name → (Contains names name → arg_by_id (rules_of names) name ≡ Some (option_rule name))
        → arg_by_id (rules_of (n ∷ names)) name ≡ Some (option_rule name)
    go true e k rest = rw e (ap (λ (t : Text). Some (option_rule t)) ((bytes_eq-Decides n name).0 e))
    go false e (zero, h, s) rest = absurd (let f : false ≡ true = sym e ∙ (bytes_eq-Decides n name).1 s in cc)
    go false e (suc k, h, s) rest = rw e (rest (k, omega arith, s))

pub known_long : (names : List Text) (name : Text) → Contains names name → arg_by_long (rules_of names) name ≡ Some (option_rule name)
known_long [] name (k, h, e) = absurd (omega arith)
known_long (n ∷ names) name k = go (bytes_eq n name) refl k (λ k. known_long names name k)
  where
    go : (b : Bool) → bytes_eq n name ≡ b → Contains (n ∷ names) name → (Contains names name → arg_by_long (rules_of names) name ≡ Some (option_rule name))
        → arg_by_long (rules_of (n ∷ names)) name ≡ Some (option_rule name)
    go true e k rest = rw e (ap (λ (t : Text). Some (option_rule t)) ((bytes_eq-Decides n name).0 e))
    go false e (zero, h, s) rest = absurd (let f : false ≡ true = sym e ∙ (bytes_eq-Decides n name).1 s in cc)
    go false e (suc k, h, s) rest = rw e (rest (k, omega arith, s))

-- ---- using an option

no_row : (id : Text) (change : Row → List Row) (missing rows : List Row) → has_row id rows ≡ false → at_row id change missing rows ≡ rows ++ missing
no_row id change missing [] h = refl
no_row id change missing (r ∷ rows) h = go (bytes_eq r.id id) refl h (no_row id change missing rows)
  where
    go : (b : Bool) → bytes_eq r.id id ≡ b → has_row id (r ∷ rows) ≡ false → (has_row id rows ≡ false → at_row id change missing rows ≡ rows ++ missing)
        → at_row id change missing (r ∷ rows) ≡ r ∷ (rows ++ missing)
    go true e h k = absurd (let f : true ≡ false = rw e at h in cc)
    go false e h k = let f : has_row id rows ≡ false = rw e at h in rw e (ap (λ rs. r ∷ rs) (k f))

-- an option that has no row gets the last one
pub used_once : (name v : Text) (rows : List Row) → has_row name rows ≡ false → used (option_rule name) (v ∷ []) rows ≡ rows ++ option_row name v ∷ []
used_once name v rows h =
    let gone : without name rows ≡ rows = no_row name (λ r. []) [] rows h ∙ append-nil rows in
    ap (with_values name AsWritten CommandLine (v ∷ [])) gone ∙ no_row name (more_values CommandLine (v ∷ [])) (option_row name v ∷ []) rows h

pub use_passes : (name v : Text) (rows : List Row) → has_row name rows ≡ false → use_fault false (option_rule name) (v ∷ []) rows ≡ []
use_passes name v rows h = rw h refl

pub use_was_first : (name v : Text) (rows : List Row) → use_fault false (option_rule name) (v ∷ []) rows ≡ [] → has_row name rows ≡ false
use_was_first name v rows h = go (has_row name rows) refl
  where
    go : (b : Bool) → has_row name rows ≡ b → has_row name rows ≡ false
    go false e = e
    go true e = absurd (let f = rw e at h in cc)

-- what is wrong with the use that is pending
abbrev pub settling : List Text → List Row → Option (Text × List Text) → Kinds
settling names rows p = settle_fault (rules_of names) false (holding rows p)

abbrev pub settled_of : List Text → List Row → Option (Text × List Text) → List Row
settled_of names rows p = settled_rows (rules_of names) p rows

abbrev pub turn : Text → List Text → Walk → Text → Kinds
turn title names w word = turn_fault (command_of title names) [] w word

module _ (title : Text) (names : List Text) (rows : List Row) (word : Text) (dashes : bytes_eq word (codes "--") ≡ false) where
  -- --name=value between two options
  pub joined_step : (p : Option (Text × List Text)) (name v : Text) → long_of word ≡ Some (name, Some v) → arg_by_long (rules_of names) name ≡ Some (option_rule name)
      → walked (rules_of names) [] (idle_at rows p) word ≡ idle_at (used (option_rule name) (v ∷ []) (settled_of names rows p)) None
  unfolding walked
  joined_step p name v long found = rw (dashes, long, found) refl

  pub joined_turn : (p : Option (Text × List Text)) (name v : Text) → long_of word ≡ Some (name, Some v) → arg_by_long (rules_of names) name ≡ Some (option_rule name)
      → turn title names (idle_at rows p) word ≡ or_else (or_else (settling names rows p) (use_fault false (option_rule name) (v ∷ []) (settled_of names rows p))) []
  joined_turn p name v long found = rw (dashes, long, found) refl

  -- --name between two options
  pub apart_step : (p : Option (Text × List Text)) (name : Text) → long_of word ≡ Some (name, None) → arg_by_long (rules_of names) name ≡ Some (option_rule name)
      → walked (rules_of names) [] (idle_at rows p) word ≡ waiting_at (settled_of names rows p) name
  unfolding walked
  apart_step p name long found = rw (dashes, long, found) refl

  pub apart_turn : (p : Option (Text × List Text)) (name : Text) → long_of word ≡ Some (name, None) → arg_by_long (rules_of names) name ≡ Some (option_rule name)
      → turn title names (idle_at rows p) word ≡ or_else (settling names rows p) []
  apart_turn p name long found = rw (dashes, long, found) refl

  -- a name that no option has
  pub unknown_turn : (p : Option (Text × List Text)) (name : Text) (v : Option Text) → long_of word ≡ Some (name, v) → arg_by_long (rules_of names) name ≡ None
      → turn title names (idle_at rows p) word ≡ UnknownArgument ∷ []
  unknown_turn p name v long found = rw (dashes, long, found) refl

  -- any other word between two options
  pub stray_turn : (p : Option (Text × List Text)) → long_of word ≡ None → short_of word ≡ None → turn title names (idle_at rows p) word ≡ UnknownArgument ∷ []
  stray_turn p long short = rw (dashes, long, short, no_index names 1) refl

  -- a value behind the name of an option
  pub value_step : (id : Text) → Contains names id → long_of word ≡ None → short_of word ≡ None
      → walked (rules_of names) [] (waiting_at rows id) word ≡ idle_at rows (Some (id, word ∷ []))
  unfolding walked
  value_step id known long short = rw (dashes, long, short, known_id names id known, (bytes_eq-Decides id id).1 refl) refl

  pub value_turn : (id : Text) → Contains names id → long_of word ≡ None → short_of word ≡ None → turn title names (waiting_at rows id) word ≡ []
  value_turn id known long short = rw (dashes, long, short) refl

  -- --name=value or --name behind the name of an option
  pub missing_turn : (id name : Text) (v : Option Text) → Contains names id → long_of word ≡ Some (name, v) → arg_by_long (rules_of names) name ≡ Some (option_rule name)
      → turn title names (waiting_at rows id) word ≡ InvalidValue ∷ []
  missing_turn id name None known long found = rw (dashes, long, found, known_id names id known) refl
  missing_turn id name (Some v) known long found = rw (dashes, long, found, known_id names id known) refl

  pub unknown_behind : (id name : Text) (v : Option Text) → long_of word ≡ Some (name, v) → arg_by_long (rules_of names) name ≡ None
      → turn title names (waiting_at rows id) word ≡ UnknownArgument ∷ []
  unknown_behind id name v long found = rw (dashes, long, found) refl

-- ---- a word that begins with one dash: it is refused, or has no first character and is read as a plain word

pub data Flags (names : List Text) (flags : Text) (h : Held) : Type 0 where
  Refused : bundle_fault (rules_of names) false flags h ≡ UnknownArgument ∷ [] → Flags names flags h
  AsPlain : bundle_fault (rules_of names) false flags h ≡ [] → bundle (rules_of names) flags h ≡ (h, plain) → Flags names flags h

pub flags_of : (names : List Text) (flags : Text) (rows : List Row) (p : Option (Text × List Text)) → Flags names flags (holding rows p)
unfolding bundle_met flags_fault
flags_of names flags rows p = by_length (length flags) refl
  where
    by_first : (k : ℕ) → length flags ≡ suc k → (o : Option ℕ) → slice_get (chars flags) 0 ≡ o → Flags names flags (holding rows p)
    by_first k e None f = AsPlain (rw (e, f) refl) (rw (e, f) refl)
    by_first k e (Some x) f = Refused (rw (e, f, no_short names x) refl)

    by_length : (k : ℕ) → length flags ≡ k → Flags names flags (holding rows p)
    by_length zero e = AsPlain (rw e refl) (rw e refl)
    by_length (suc k) e = by_first k e (slice_get (chars flags) 0) refl

module _ (title : Text) (names : List Text) (rows : List Row) (word : Text) (dashes : bytes_eq word (codes "--") ≡ false) (flags : Text)
    (long : long_of word ≡ None) (short : short_of word ≡ Some flags) where
  refused_turn : (p : Option (Text × List Text)) → bundle_fault (rules_of names) false flags (holding rows p) ≡ UnknownArgument ∷ []
      → turn title names (idle_at rows p) word ≡ UnknownArgument ∷ []
  refused_turn p r = rw (dashes, long, short, r) refl

  refused_behind : (id : Text) → bundle_fault (rules_of names) false flags (holding rows (Some (id, []))) ≡ UnknownArgument ∷ []
      → turn title names (waiting_at rows id) word ≡ UnknownArgument ∷ []
  refused_behind id r = rw (dashes, long, short, r) refl

  plain_turn : (p : Option (Text × List Text)) → bundle_fault (rules_of names) false flags (holding rows p) ≡ []
      → bundle (rules_of names) flags (holding rows p) ≡ (holding rows p, plain) → turn title names (idle_at rows p) word ≡ UnknownArgument ∷ []
  plain_turn p f b = rw (dashes, long, short, f, b, no_index names 1) refl

  plain_step : (id : Text) → Contains names id → bundle (rules_of names) flags (holding rows (Some (id, []))) ≡ (holding rows (Some (id, [])), plain)
      → walked (rules_of names) [] (waiting_at rows id) word ≡ idle_at rows (Some (id, word ∷ []))
  unfolding walked
  plain_step id known b = rw (dashes, long, short, b, known_id names id known, (bytes_eq-Decides id id).1 refl) refl

-- ---- a word that is not refused

-- between two options it is an option with its value, or the name of one
pub data Read (names : List Text) (rows : List Row) (p : Option (Text × List Text)) (word : Text) : Type 0 where
  ReadJoined : (name v : Text) → word ≡ 45 ∷ 45 ∷ (name ++ 61 ∷ v) → Contains names name → settling names rows p ≡ [] → has_row name (settled_of names rows p) ≡ false
      → walked (rules_of names) [] (idle_at rows p) word ≡ idle_at (settled_of names rows p ++ option_row name v ∷ []) None → Read names rows p word
  ReadName : (name : Text) → word ≡ 45 ∷ 45 ∷ name → Contains names name → settling names rows p ≡ []
      → walked (rules_of names) [] (idle_at rows p) word ≡ waiting_at (settled_of names rows p) name → Read names rows p word

pub none_first : (a b : Kinds) → or_else a b ≡ [] → a ≡ []
none_first [] b e = refl
none_first (x ∷ xs) b e = cc

pub none_second : (a b : Kinds) → or_else a b ≡ [] → b ≡ []
none_second [] b e = e
none_second (x ∷ xs) b e = cc

fault_absurd : {A : Type 0} (x : ErrorKind) (k : Kinds) → k ≡ x ∷ [] → k ≡ [] → A
fault_absurd x k e f = absurd (let g : x ∷ [] ≡ [] = sym e ∙ f in cc)

module _ (title : Text) (names : List Text) (rows : List Row) (word : Text) (dashes : bytes_eq word (codes "--") ≡ false) where
  pub read_word : (p : Option (Text × List Text)) → turn title names (idle_at rows p) word ≡ [] → Read names rows p word
  read_word p none = go (spelled_as word)
    where
      by_short : long_of word ≡ None → (o : Option Text) → short_of word ≡ o → Read names rows p word
      by_short long None short = fault_absurd UnknownArgument _ (stray_turn title names rows word dashes p long short) none
      by_short long (Some flags) short = elim (flags_of names flags rows p) [
        | Refused r ↦ fault_absurd UnknownArgument _ (refused_turn title names rows word dashes flags long short p r) none
        | AsPlain f b ↦ fault_absurd UnknownArgument _ (plain_turn title names rows word dashes flags long short p f b) none
      ]

      joined : (name v : Text) → word ≡ 45 ∷ 45 ∷ (name ++ 61 ∷ v) → long_of word ≡ Some (name, Some v) → Contains names name
          → arg_by_long (rules_of names) name ≡ Some (option_rule name) → Read names rows p word
      joined name v is long known found =
          let both = none_first _ [] (sym (joined_turn title names rows word dashes p name v long found) ∙ none) in
          let first : has_row name (settled_of names rows p) ≡ false = use_was_first name v _ (none_second (settling names rows p) _ both) in
          ReadJoined name v is known (none_first (settling names rows p) _ both) first
          (joined_step title names rows word dashes p name v long found ∙ ap (λ rs. idle_at rs None) (used_once name v _ first))

      go : Spelled word → Read names rows p word
      go (Joined name v is long) = elim (found_long names name) [
        | inl k ↦ joined name v is long k.0 k.1
        | inr e ↦ fault_absurd UnknownArgument _ (unknown_turn title names rows word dashes p name (Some v) long e) none
      ]
      go (Apart name is long) = elim (found_long names name) [
        | inl k ↦ ReadName name is k.0 (none_first (settling names rows p) [] (sym (apart_turn title names rows word dashes p name long k.1) ∙ none)) (apart_step title names rows word dashes p name long k.1)
        | inr e ↦ fault_absurd UnknownArgument _ (unknown_turn title names rows word dashes p name None long e) none
      ]
      go (Other long) = by_short long (short_of word) refl

  -- and behind the name of an option it is its value
  pub read_value : (id : Text) → Contains names id → turn title names (waiting_at rows id) word ≡ []
      → walked (rules_of names) [] (waiting_at rows id) word ≡ idle_at rows (Some (id, word ∷ []))
  read_value id known none = go (spelled_as word)
    where
      by_short : long_of word ≡ None → (o : Option Text) → short_of word ≡ o → walked (rules_of names) [] (waiting_at rows id) word ≡ idle_at rows (Some (id, word ∷ []))
      by_short long None short = value_step title names rows word dashes id known long short
      by_short long (Some flags) short = elim (flags_of names flags rows (Some (id, []))) [
        | Refused r ↦ fault_absurd UnknownArgument _ (refused_behind title names rows word dashes flags long short id r) none
        | AsPlain f b ↦ plain_step title names rows word dashes flags long short id known b
      ]

      by_name : (name : Text) (v : Option Text) → long_of word ≡ Some (name, v) → walked (rules_of names) [] (waiting_at rows id) word ≡ idle_at rows (Some (id, word ∷ []))
      by_name name v long = elim (found_long names name) [
        | inl k ↦ fault_absurd InvalidValue _ (missing_turn title names rows word dashes id name v known long k.1) none
        | inr e ↦ fault_absurd UnknownArgument _ (unknown_behind title names rows word dashes id name v long e) none
      ]

      go : Spelled word → walked (rules_of names) [] (waiting_at rows id) word ≡ idle_at rows (Some (id, word ∷ []))
      go (Joined name v is long) = by_name name (Some v) long
      go (Apart name is long) = by_name name None long
      go (Other long) = by_short long (short_of word) refl
