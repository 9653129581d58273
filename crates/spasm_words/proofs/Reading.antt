-- The words behind a command's name are taken exactly where they spell options that fit.
use Rattle.std.proofs.Common.{◌≡◌, ◌&&◌, ◌++◌, ◌∙◌, ℕ, Bool, true, false, not, List, [], ◌∷◌, map, Option, Some, None, refl, sym, ap, subst, codes, append-nil, append_assoc}
use Rattle.std.specs.List.{Contains, flat_map, fold, list_any}
use Rattle.std.specs.Str.{bytes_eq}
use Rattle.clap.specs.Lexer.{long_of, name_and_value, short_of}
use Rattle.clap.specs.Walk.{Row, Text, Walk, has_row, nothing_held, rows_after, settled_rows, used, walked, with_default}
use Rattle.clap.specs.Kinds.{Kinds, or_else}
use Rattle.clap.specs.Faults.{check_fault, default_fault, defaults_fault, level_fault, settle_fault, use_fault, walk_fault}
use Rattle.clap.specs.Takes.{is_given}
use Rattle.clap.specs.declared.error.kind.ErrorKind.TheVariants.{InvalidValue}
use Rattle.clap.proofs.CutLemmas.{Lacks}
use Rattle.clap.proofs.LexerLemmas.{name_and_value-at, name_and_value-without}
use Rattle.spasm_words.specs.Words.{Given, spelling, spelling_of}
use Rattle.spasm_words.proofs.Walks.{ReadJoined, ReadName, apart_step, apart_turn, command_of, idle_at, joined_step, joined_turn, known_id, known_long, none_first, none_second, option_row, option_rule, read_value, read_word, rules_of, settled_of, settling, turn, use_passes, use_was_first, used_once, value_step, value_turn, waiting_at}

abbrev pub row_of_given : Given → Row
row_of_given g = option_row g.name g.value

-- the options have known names, none of which has a row yet, and none of which comes twice
abbrev pub Fits : List Text → List Row → List Given → Type 0
Fits names rows [] = Unit {0}
Fits names rows (g ∷ gs) = Contains names g.name × (has_row g.name rows ≡ false) × Fits names (rows ++ row_of_given g ∷ []) gs

abbrev pub NoDashes : List Text → Type 0
NoDashes [] = Unit {0}
NoDashes (w ∷ ws) = (bytes_eq w (codes "--") ≡ false) × NoDashes ws

-- the walk passes from w on, and ends with these rows
pub record Passes (title : Text) (names : List Text) (w : Walk) (words : List Text) (final : List Row) : Type 0 where
  pub walk_passes : walk_fault (command_of title names) [] w words ≡ []
  pub settle_passes : settle_fault (rules_of names) false (fold (walked (rules_of names) []) w words).held ≡ []
  pub ends : final ≡ settled_rows (rules_of names) (fold (walked (rules_of names) []) w words).held.pending (fold (walked (rules_of names) []) w words).held.rows

passes_tail : (title : Text) (names : List Text) (w : Walk) (word : Text) (rest : List Text) (final : List Row) → Passes title names w (word ∷ rest) final
    → (turn title names w word ≡ []) × Passes title names (walked (rules_of names) [] w word) rest final
unfolding walk_fault
passes_tail title names w word rest final h = (
  none_first _ (walk_fault (command_of title names) [] (walked (rules_of names) [] w word) rest) h.walk_passes,
  record { walk_passes = none_second (turn title names w word) _ h.walk_passes; settle_passes = h.settle_passes; ends = h.ends },
)

passes_more : (title : Text) (names : List Text) (w v : Walk) (word : Text) (rest : List Text) (final : List Row) → turn title names w word ≡ []
    → walked (rules_of names) [] w word ≡ v → Passes title names v rest final → Passes title names w (word ∷ rest) final
unfolding walk_fault
passes_more title names w v word rest final none step h =
    let p = subst (λ (u : Walk). Passes title names u rest final) (sym step) h in
    record { walk_passes = ap (λ (k : Kinds). or_else k (walk_fault (command_of title names) [] (walked (rules_of names) [] w word) rest)) none ∙ p.walk_passes; settle_passes = p.settle_passes; ends = p.ends }

-- ---- an option that is pending with its value

settle_none : (names : List Text) (rows : List Row) (id : Text) → Contains names id → settling names rows (Some (id, [])) ≡ InvalidValue ∷ []
settle_none names rows id known = rw (known_id names id known) refl

settle_some : (names : List Text) (rows : List Row) (id v : Text) → Contains names id → settling names rows (Some (id, v ∷ [])) ≡ use_fault false (option_rule id) (v ∷ []) rows
settle_some names rows id v known = rw (known_id names id known) refl

settled_some : (names : List Text) (rows : List Row) (id v : Text) → Contains names id → settled_of names rows (Some (id, v ∷ [])) ≡ used (option_rule id) (v ∷ []) rows
settled_some names rows id v known = rw (known_id names id known) refl

-- ---- what passes spells options that fit

pub record Reads (names : List Text) (rows : List Row) (words : List Text) (final : List Row) : Type 0 where
  pub options : List Given
  pub spelled : words ≡ flat_map spelling options
  pub fits : Fits names rows options
  pub ends : final ≡ rows ++ map row_of_given options

-- words behind the name of an option: its value, and more
record ReadsValue (names : List Text) (rows : List Row) (id : Text) (words : List Text) (final : List Row) : Type 0 where
  v : Text
  rest : List Text
  words_are : words ≡ v ∷ rest
  first : has_row id rows ≡ false
  reads : Reads names (rows ++ option_row id v ∷ []) rest final

joined_word : (name v : Text) → 45 ∷ 45 ∷ (name ++ 61 ∷ v) ≡ codes "--" ++ name ++ codes "=" ++ v
joined_word name v = ap (λ (t : Text). 45 ∷ 45 ∷ t) (sym (append_assoc name (61 ∷ []) v))

more_rows : (rows rest : List Row) (r : Row) → (rows ++ r ∷ []) ++ rest ≡ rows ++ r ∷ rest
more_rows rows rest r = append_assoc rows (r ∷ []) rest

reads_joined : (names : List Text) (rows : List Row) (name v word : Text) (rest : List Text) (final : List Row) → word ≡ 45 ∷ 45 ∷ (name ++ 61 ∷ v) → Contains names name
    → has_row name rows ≡ false → Reads names (rows ++ option_row name v ∷ []) rest final → Reads names rows (word ∷ rest) final
reads_joined names rows name v word rest final is known first r = record {
  options = record { name = name; value = v; joined = true } ∷ r.options;
  spelled = ap (λ (t : Text). t ∷ rest) (is ∙ joined_word name v) ∙ ap (λ (ts : List Text). (codes "--" ++ name ++ codes "=" ++ v) ∷ ts) r.spelled;
  fits = (known, first, r.fits);
  ends = r.ends ∙ more_rows rows _ _;
}

reads_apart : (names : List Text) (rows : List Row) (name word : Text) (rest : List Text) (final : List Row) → word ≡ 45 ∷ 45 ∷ name → Contains names name
    → ReadsValue names rows name rest final → Reads names rows (word ∷ rest) final
reads_apart names rows name word rest final is known r = record {
  options = record { name = name; value = r.v; joined = false } ∷ r.reads.options;
  spelled = ap (λ (t : Text). t ∷ rest) is ∙ ap (λ (ts : List Text). (codes "--" ++ name) ∷ ts) r.words_are ∙ ap (λ (ts : List Text). (codes "--" ++ name) ∷ r.v ∷ ts) r.reads.spelled;
  fits = (known, r.first, r.reads.fits);
  ends = r.reads.ends ∙ more_rows rows _ _;
}

record Sound (title : Text) (names : List Text) (words : List Text) : Type 0 where
  between : (rows : List Row) (p : Option (Text × List Text)) (final : List Row) → Passes title names (idle_at rows p) words final
      → (settling names rows p ≡ []) × Reads names (settled_of names rows p) words final
  behind : (rows : List Row) (id : Text) (final : List Row) → Contains names id → Passes title names (waiting_at rows id) words final → ReadsValue names rows id words final

sound_none : (title : Text) (names : List Text) → Sound title names []
sound_none title names = record {
  between = λ rows p final h. (h.settle_passes, record { options = []; spelled = refl; fits = tt; ends = h.ends ∙ sym (append-nil _) });
  behind = λ rows id final known h. absurd (let e : InvalidValue ∷ [] ≡ [] = sym (settle_none names rows id known) ∙ h.settle_passes in cc);
}

sound_more : (title : Text) (names : List Text) (word : Text) (rest : List Text) → bytes_eq word (codes "--") ≡ false → Sound title names rest → Sound title names (word ∷ rest)
sound_more title names word rest dashes s = record { between = between; behind = behind }
  where
    between : (rows : List Row) (p : Option (Text × List Text)) (final : List Row) → Passes title names (idle_at rows p) (word ∷ rest) final
        → (settling names rows p ≡ []) × Reads names (settled_of names rows p) (word ∷ rest) final
    between rows p final h =
        let t = passes_tail title names (idle_at rows p) word rest final h in
        elim (read_word title names rows word dashes p t.0) [
          | ReadJoined name v is known settles first step ↦
              let r = s.between _ None final (subst (λ (u : Walk). Passes title names u rest final) step t.1) in
              (settles, reads_joined names _ name v word rest final is known first r.1)
          | ReadName name is known settles step ↦
              (settles, reads_apart names _ name word rest final is known (s.behind _ name final known (subst (λ (u : Walk). Passes title names u rest final) step t.1)))
        ]

    behind : (rows : List Row) (id : Text) (final : List Row) → Contains names id → Passes title names (waiting_at rows id) (word ∷ rest) final → ReadsValue names rows id (word ∷ rest) final
    behind rows id final known h =
        let t = passes_tail title names (waiting_at rows id) word rest final h in
        let step = read_value title names rows word dashes id known t.0 in
        let r = s.between rows (Some (id, word ∷ [])) final (subst (λ (u : Walk). Passes title names u rest final) step t.1) in
        let first : has_row id rows ≡ false = use_was_first id word rows (sym (settle_some names rows id word known) ∙ r.0) in
        record {
          v = word;
          rest = rest;
          words_are = refl;
          first = first;
          reads = subst (λ (rs : List Row). Reads names rs rest final) (settled_some names rows id word known ∙ used_once id word rows first) r.1;
        }

sound : (title : Text) (names : List Text) (words : List Text) → NoDashes words → Sound title names words
sound title names [] d = sound_none title names
sound title names (word ∷ rest) d = sound_more title names word rest d.0 (sound title names rest d.1)

pub passes_reads : (title : Text) (names : List Text) (words : List Text) (final : List Row) → NoDashes words → Passes title names (idle_at [] None) words final → Reads names [] words final
passes_reads title names words final d h = ((sound title names words d).between [] None final h).1

-- ---- options that fit pass

-- a value that no walk takes for an option
abbrev pub IsPlainValue : Text → Type 0
IsPlainValue v = (bytes_eq v (codes "--") ≡ false) × (long_of v ≡ None) × (short_of v ≡ None)

abbrev pub ArePlain : List Given → Type 0
ArePlain [] = Unit {0}
ArePlain (g ∷ gs) = IsPlainValue g.value × ArePlain gs

-- a name can be told from the value that = joins to it
pub record IsName (name : Text) : Type 0 where
  pub lacks : Lacks 61 name
  pub first : ℕ
  pub others : Text
  pub nonempty : name ≡ first ∷ others

joined_long : (name v : Text) → IsName name → long_of (codes "--" ++ name ++ codes "=" ++ v) ≡ Some (name, Some v)
joined_long name v n =
    ap long_of (sym (joined_word name v)) ∙ ap (λ (t : Text). long_of (45 ∷ 45 ∷ (t ++ 61 ∷ v))) n.nonempty
    ∙ ap (λ (t : Text). Some (name_and_value (t ++ 61 ∷ v))) (sym n.nonempty) ∙ ap Some (name_and_value-at name v n.lacks)

apart_long : (name : Text) → IsName name → long_of (codes "--" ++ name) ≡ Some (name, None)
apart_long name n =
    ap (λ (t : Text). long_of (45 ∷ 45 ∷ t)) n.nonempty ∙ ap (λ (t : Text). Some (name_and_value t)) (sym n.nonempty) ∙ ap Some (name_and_value-without name n.lacks)

pub joined_dashes : (name v : Text) → IsName name → bytes_eq (codes "--" ++ name ++ codes "=" ++ v) (codes "--") ≡ false
joined_dashes name v n = ap (λ (t : Text). bytes_eq (codes "--" ++ t ++ codes "=" ++ v) (codes "--")) n.nonempty

pub apart_dashes : (name : Text) → IsName name → bytes_eq (codes "--" ++ name) (codes "--") ≡ false
apart_dashes name n = ap (λ (t : Text). bytes_eq (codes "--" ++ t) (codes "--")) n.nonempty

-- the state behind a value that stands as a word of its own
apart_fits : (names : List Text) (rows : List Row) (name v : Text) (gs : List Given) → Contains names name → has_row name rows ≡ false
    → Fits names (rows ++ option_row name v ∷ []) gs → Fits names (settled_of names rows (Some (name, v ∷ []))) gs
apart_fits names rows name v gs known first f = subst (λ (rs : List Row). Fits names rs gs) (sym (settled_some names rows name v known ∙ used_once name v rows first)) f

module _ (title : Text) (names : List Text) (rows : List Row) (p : Option (Text × List Text)) (name v : Text) (rest : List Text) (more : List Row)
    (n : IsName name) (known : Contains names name) (settles : settling names rows p ≡ []) (first : has_row name (settled_of names rows p) ≡ false) where
  complete_joined : Passes title names (idle_at (settled_of names rows p ++ option_row name v ∷ []) None) rest ((settled_of names rows p ++ option_row name v ∷ []) ++ more)
      → Passes title names (idle_at rows p) ((codes "--" ++ name ++ codes "=" ++ v) ∷ rest) (settled_of names rows p ++ option_row name v ∷ more)
  complete_joined h =
      let word = codes "--" ++ name ++ codes "=" ++ v in
      let dashes = joined_dashes name v n in
      let long = joined_long name v n in
      let found = known_long names name known in
      let none : turn title names (idle_at rows p) word ≡ [] =
      joined_turn title names rows word dashes p name v long found
      ∙ ap (λ (k : Kinds). or_else (or_else k (use_fault false (option_rule name) (v ∷ []) (settled_of names rows p))) []) settles
      ∙ ap (λ (k : Kinds). or_else k []) (use_passes name v _ first) in
      let step = joined_step title names rows word dashes p name v long found ∙ ap (λ (rs : List Row). idle_at rs None) (used_once name v _ first) in
      passes_more title names _ _ word rest _ none step (subst (λ (rs : List Row). Passes title names (idle_at (settled_of names rows p ++ option_row name v ∷ []) None) rest rs) (more_rows _ more _) h)

  complete_apart : IsPlainValue v → Passes title names (idle_at (settled_of names rows p) (Some (name, v ∷ []))) rest (settled_of names (settled_of names rows p) (Some (name, v ∷ [])) ++ more)
      → Passes title names (idle_at rows p) ((codes "--" ++ name) ∷ v ∷ rest) (settled_of names rows p ++ option_row name v ∷ more)
  complete_apart plain h =
      let word = codes "--" ++ name in
      let dashes = apart_dashes name n in
      let long = apart_long name n in
      let found = known_long names name known in
      let none : turn title names (idle_at rows p) word ≡ [] = apart_turn title names rows word dashes p name long found ∙ ap (λ (k : Kinds). or_else k []) settles in
      let step = apart_step title names rows word dashes p name long found in
      let ends = ap (λ (rs : List Row). rs ++ more) (settled_some names _ name v known ∙ used_once name v _ first) ∙ more_rows _ more _ in
      let tail = subst (λ (rs : List Row). Passes title names (idle_at (settled_of names rows p) (Some (name, v ∷ []))) rest rs) ends h in
      passes_more title names _ _ word (v ∷ rest) _ none step
      (passes_more title names _ _ v rest _ (value_turn title names _ v plain.0 name known plain.1 plain.2) (value_step title names _ v plain.0 name known plain.1 plain.2) tail)

module _ (title : Text) (names : List Text) (are_names : (name : Text) → Contains names name → IsName name) where
  complete : (rows : List Row) (p : Option (Text × List Text)) (options : List Given) → settling names rows p ≡ [] → Fits names (settled_of names rows p) options
      → ArePlain options → Passes title names (idle_at rows p) (flat_map spelling options) (settled_of names rows p ++ map row_of_given options)
  unfolding walk_fault
  complete rows p [] settles f plain = record { walk_passes = refl; settle_passes = settles; ends = append-nil _ }
  complete rows p (g ∷ gs) settles f plain = go g.joined
      (complete (settled_of names rows p ++ row_of_given g ∷ []) None gs refl f.2 plain.1)
      (complete (settled_of names rows p) (Some (g.name, g.value ∷ [])) gs (settle_some names _ g.name g.value f.0 ∙ use_passes g.name g.value _ f.1)
      (apart_fits names _ g.name g.value gs f.0 f.1 f.2) plain.1)
    where
      go : (joined : Bool) → Passes title names (idle_at (settled_of names rows p ++ row_of_given g ∷ []) None) (flat_map spelling gs) ((settled_of names rows p ++ row_of_given g ∷ []) ++ map row_of_given gs)
          → Passes title names (idle_at (settled_of names rows p) (Some (g.name, g.value ∷ []))) (flat_map spelling gs) (settled_of names (settled_of names rows p) (Some (g.name, g.value ∷ [])) ++ map row_of_given gs)
          → Passes title names (idle_at rows p) (spelling_of joined g.name g.value ++ flat_map spelling gs) (settled_of names rows p ++ map row_of_given (g ∷ gs))
      go true j a = complete_joined title names rows p g.name g.value _ _ (are_names g.name f.0) f.0 settles f.1 j
      go false j a = complete_apart title names rows p g.name g.value _ _ (are_names g.name f.0) f.0 settles f.1 plain.0 a

  pub reads_passes : (options : List Given) → Fits names [] options → ArePlain options → Passes title names (idle_at [] None) (flat_map spelling options) (map row_of_given options)
  reads_passes options f plain = complete [] None options refl f plain

-- ---- a command's own level

no_default : (rows : List Row) (name : Text) → default_fault rows (option_rule name) ≡ []
no_default rows name = go (has_row name rows) refl
  where
    go : (b : Bool) → has_row name rows ≡ b → default_fault rows (option_rule name) ≡ []
    go true e = rw e refl
    go false e = rw e refl

keeps_rows : (rows : List Row) (name : Text) → with_default rows (option_rule name) ≡ rows
keeps_rows rows name = go (has_row name rows) refl
  where
    go : (b : Bool) → has_row name rows ≡ b → with_default rows (option_rule name) ≡ rows
    go true e = rw e refl
    go false e = rw e refl

no_defaults : (names : List Text) (rows : List Row) → defaults_fault rows (rules_of names) ≡ []
unfolding defaults_fault
no_defaults [] rows = refl
no_defaults (n ∷ names) rows = ap (λ (k : Kinds). or_else k (defaults_fault (with_default rows (option_rule n)) (rules_of names))) (no_default rows n) ∙ no_defaults names (with_default rows (option_rule n))

all_kept : (names : List Text) (rows : List Row) → fold with_default rows (rules_of names) ≡ rows
all_kept [] rows = refl
all_kept (n ∷ names) rows = all_kept names (with_default rows (option_rule n)) ∙ keeps_rows rows n

none_required : (names : List Text) (rows : List Row) → list_any (λ a. a.required && not (is_given a.id rows)) (rules_of names) ≡ false
none_required [] rows = refl
none_required (n ∷ names) rows = none_required names rows

no_check : (title : Text) (names : List Text) (rows : List Row) → check_fault (command_of title names) rows false ≡ []
no_check title names rows = rw (none_required names rows) refl

pub level_passes : (title : Text) (names words : List Text) → level_fault (command_of title names) [] nothing_held words false [] ≡ [] → Passes title names (idle_at [] None) words (rows_after (rules_of names) [] words)
level_passes title names words none = record {
  walk_passes = none_first _ _ none;
  settle_passes = none_first _ _ (none_second (walk_fault (command_of title names) [] (idle_at [] None) words) _ none);
  ends = all_kept names _;
}

pub passes_level : (title : Text) (names words : List Text) (final : List Row) → Passes title names (idle_at [] None) words final
    → (level_fault (command_of title names) [] nothing_held words false [] ≡ []) × (rows_after (rules_of names) [] words ≡ final)
passes_level title names words final h = (
  rw (h.walk_passes, h.settle_passes, no_defaults names _, no_check title names _) refl,
  all_kept names _ ∙ sym h.ends,
)
