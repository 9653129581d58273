-- The words that are accepted are those that clap takes, with each number in its range.
use Rattle.std.proofs.Common.{if◌then◌else◌, All, ap₂, not, ◌≡◌, ◌≢◌, ◌==◌, ◌&&◌, ◌||◌, ◌++◌, ◌∙◌, ℕ, zero, suc, Bool, true, false, List, [], ◌∷◌, get_or, map, Option, Some, None, MatchOption, refl, sym, ap, subst, arith, codes}
use Rattle.std.specs.Prelude.{option_map, unwrap_or}
use Rattle.std.specs.List.{Contains, find, flat_map, list_any}
use Rattle.std.specs.Str.{bytes_eq}
use Rattle.std.proofs.lemmas.Bool.Decides.{nat_tests}
use Rattle.std.proofs.lemmas.Slice.Eq.{bytes_eq-Decides}
use Rattle.clap.specs.Walk.{Row, Text, first_of}
use Rattle.std.specs.Borrow.{Bor}
use Rattle.clap.specs.Simple.{subcommand_of, subcommand_rows_of}
use Rattle.clap.specs.declared.parser.matches.ArgMatches.{ArgMatches}
use Rattle.clap.specs.Faults.{fault_of}
use Rattle.clap.proofs.CutLemmas.{Lacks}
use Rattle.sms_text.specs.Numbers.{are_digits, is_digit, is_number}
use Rattle.spasm_words.specs.Words.{Accepted, AreKnown, AreRefused, Given, InRange, IsNumber, IsValue, OneOf, OptionValues, Rule, Setting, cols_rule, kind_rule, modulus_rule, names_of, own_settings, place_among, per_rule, rounds_rule, rows_rule, seed_rule, setting, settings, spelling, spelling_of, task_name, workers_rule}
use Rattle.spasm_words.specs.Options.{AcceptedIsPlain, AreTaken, RowsSet, IsCommandOf, IsOneCommand, AsksFor}
use Rattle.spasm_words.specs.Line.{command_line, commands, option_names}
use Rattle.certificates.specs.declared.cert_kind.CertKind.{CertKind}
use Rattle.certificates.specs.declared.cert_kind.CertKind.TheVariants as kind
use Rattle.spasm_words.specs.declared.command.Command.{Command}
use Rattle.spasm_words.specs.declared.command.Task.{Task}
use Rattle.spasm_words.specs.declared.command.Task.TheVariants.{Rank, Rref, Kernel, Solve, LeftKernel, Inverse, Pivots, Check, Trace, Replay, Grow, Drill, Certify}
use Rattle.spasm_words.proofs.Accepting.{differ, fits_first, fits_known, first_of_list, known_fits, later_in_list, rows_set, set_rows}
use Rattle.spasm_words.proofs.Program.{fault_at, first_is_named, subcommand_at, task_names, tasks}
use Rattle.spasm_words.proofs.Reading.{ArePlain, Fits, IsName, IsPlainValue, NoDashes, apart_dashes, joined_dashes, level_passes, passes_level, passes_reads, reads_passes, row_of_given}

-- ---- bytes that a text lacks

lacks_of : (c : ℕ) (xs : List ℕ) → list_any (λ x. x == c) xs ≡ false → Lacks c xs
lacks_of c [] e i lt = absurd (omega arith)
lacks_of c (x ∷ xs) e zero lt = go (x == c) refl e
  where
    go : (b : Bool) → (x == c) ≡ b → (b || list_any (λ y. y == c) xs) ≡ false → x ≢ c
    go true f e = absurd (let k : true ≡ false = e in cc)
    go false f e = grind (arith, nat_tests)
lacks_of c (x ∷ xs) e (suc i) lt = go (x == c) e (lacks_of c xs)
  where
    go : (b : Bool) → (b || list_any (λ y. y == c) xs) ≡ false → (list_any (λ y. y == c) xs ≡ false → Lacks c xs) → get_or xs i 0 ≢ c
    go true e k = absurd (let f : true ≡ false = e in cc)
    go false e k = k e i (omega arith)

-- ---- digits are plain values

pub and_first : (a b : Bool) → (a && b) ≡ true → a ≡ true
and_first true b e = refl
and_first false b e = absurd (let f : false ≡ true = e in cc)

pub and_second : (a b : Bool) → (a && b) ≡ true → b ≡ true
and_second true b e = e
and_second false b e = absurd (let f : false ≡ true = e in cc)

not_true : (b : Bool) → not b ≡ true → b ≡ false
not_true false e = refl
not_true true e = absurd (let f : false ≡ true = e in cc)

-- a word that begins with something else than a dash
abbrev pub begins_plainly : Text → Bool
begins_plainly [] = false
begins_plainly (b ∷ bs) = not (b == 45)

pub plain_value : (w : Text) → begins_plainly w ≡ true → IsPlainValue w
plain_value [] e = absurd (let f : false ≡ true = e in cc)
plain_value (b ∷ bs) e =
    let other : (b == 45) ≡ false = not_true (b == 45) e in
    (rw other refl, rw other refl, rw other refl)

digits_begin : (w : Text) → is_number w ≡ true → begins_plainly w ≡ true
digits_begin [] e = e
digits_begin (b ∷ bs) e =
    let digit = and_first (is_digit b) (are_digits bs) e in
    let other : (b == 45) ≡ false = grind (arith, nat_tests) in
    ap not other

-- each of the words that an option takes begins so
abbrev pub begin_plainly : List Text → Bool
begin_plainly [] = true
begin_plainly (w ∷ ws) = begins_plainly w && begin_plainly ws

place_begins : (words : List Text) (w : Text) (n : ℕ) → begin_plainly words ≡ true → place_among words w ≡ Some n → begins_plainly w ≡ true
place_begins [] w n e is = absurd (let g : None ≡ Some n = is in cc)
place_begins (x ∷ xs) w n e is = go (bytes_eq x w) refl is (λ m. place_begins xs w m (and_second (begins_plainly x) (begin_plainly xs) e))
  where
    later : (o : Option ℕ) → place_among xs w ≡ o → option_map suc o ≡ Some n → ((m : ℕ) → place_among xs w ≡ Some m → begins_plainly w ≡ true) → begins_plainly w ≡ true
    later None f is rest = absurd (let g : None ≡ Some n = is in cc)
    later (Some m) f is rest = rest m f

    go : (b : Bool) → bytes_eq x w ≡ b → (if b then Some 0 else option_map suc (place_among xs w)) ≡ Some n → ((m : ℕ) → place_among xs w ≡ Some m → begins_plainly w ≡ true) → begins_plainly w ≡ true
    go true f is rest = subst (λ (v : Text). begins_plainly v ≡ true) ((bytes_eq-Decides x w).0 f) (and_first (begins_plainly x) (begin_plainly xs) e)
    go false f is rest = later (place_among xs w) refl is rest

abbrev pub has_plain_values : OptionValues → Bool
has_plain_values (InRange low high) = true
has_plain_values (OneOf words) = begin_plainly words

value_begins : (values : OptionValues) (w : Text) (n : ℕ) → has_plain_values values ≡ true → IsValue values w n → begins_plainly w ≡ true
value_begins (InRange low high) w n e is = digits_begin w is.0
value_begins (OneOf words) w n e is = place_begins words w n e is

abbrev pub have_plain_values : List Setting → Bool
have_plain_values [] = true
have_plain_values (s ∷ ss) = has_plain_values s.rule.values && have_plain_values ss

-- ---- the names of the options can be told from their values

abbrev pub is_plain : Text → Bool
is_plain [] = false
is_plain (x ∷ xs) = not (list_any (λ y. y == 61) (x ∷ xs))

abbrev pub are_plain : List Text → Bool
are_plain [] = true
are_plain (n ∷ ns) = is_plain n && are_plain ns

plain_name : (name : Text) → is_plain name ≡ true → IsName name
plain_name [] e = absurd (let f : false ≡ true = e in cc)
plain_name (x ∷ xs) e = record { lacks = lacks_of 61 (x ∷ xs) (not_true (list_any (λ y. y == 61) (x ∷ xs)) e); first = x; others = xs; nonempty = refl }

pub each_name : (names : List Text) → are_plain names ≡ true → (name : Text) → Contains names name → IsName name
each_name [] e name (k, lt, h) = absurd (omega arith)
each_name (n ∷ ns) e name (zero, lt, h) = subst IsName h (plain_name n (and_first (is_plain n) (are_plain ns) e))
each_name (n ∷ ns) e name (suc k, lt, h) = each_name ns (and_second (is_plain n) (are_plain ns) e) name (k, omega arith, h)

are_names : (t : Task) → (name : Text) → Contains (task_names t) name → IsName name
are_names Rank = each_name (task_names Rank) refl
are_names Rref = each_name (task_names Rref) refl
are_names Kernel = each_name (task_names Kernel) refl
are_names Solve = each_name (task_names Solve) refl
are_names LeftKernel = each_name (task_names LeftKernel) refl
are_names Inverse = each_name (task_names Inverse) refl
are_names Pivots = each_name (task_names Pivots) refl
are_names Check = each_name (task_names Check) refl
are_names Trace = each_name (task_names Trace) refl
are_names Replay = each_name (task_names Replay) refl
are_names Grow = each_name (task_names Grow) refl
are_names (Drill g) = each_name (task_names (Drill g)) refl
are_names (Certify k) = each_name (task_names (Certify k)) refl

-- ---- given values are plain

-- a given value that stands for a number
given_begins : (rows : List Row) (s : Setting) (g : Given) → has_plain_values s.rule.values ≡ true → RowsSet rows s → s.rule.name ≡ g.name → first_of g.name rows ≡ Some g.value → begins_plainly g.value ≡ true
given_begins rows s g plain h e f =
    value_begins s.rule.values g.value s.number plain (subst (λ (o : Option Text). IsNumber s.rule o s.number) (ap (λ (t : Text). first_of t rows) e ∙ f) h)

pub all_begin : (ss : List Setting) (rows : List Row) (g : Given) → have_plain_values ss ≡ true → All (RowsSet rows) ss → Contains (names_of ss) g.name → first_of g.name rows ≡ Some g.value → begins_plainly g.value ≡ true
all_begin [] rows g plain all (k, lt, e) f = absurd (omega arith)
all_begin (s ∷ ss) rows g plain all (zero, lt, e) f = given_begins rows s g (and_first (has_plain_values s.rule.values) (have_plain_values ss) plain) (all 0 s (omega arith)) e f
all_begin (s ∷ ss) rows g plain all (suc k, lt, e) f = all_begin ss rows g (and_second (has_plain_values s.rule.values) (have_plain_values ss) plain) (λ i d less. all (suc i) d (omega arith)) (k, omega arith, e) f

own_values_plain : (t : Task) → have_plain_values (own_settings t) ≡ true
own_values_plain Rank = refl
own_values_plain Rref = refl
own_values_plain Kernel = refl
own_values_plain Solve = refl
own_values_plain LeftKernel = refl
own_values_plain Inverse = refl
own_values_plain Pivots = refl
own_values_plain Check = refl
own_values_plain Trace = refl
own_values_plain Replay = refl
own_values_plain Grow = refl
own_values_plain (Drill g) = refl
own_values_plain (Certify k) = refl

given_plainly : (c : Command) (rows : List Row) (g : Given) → All (RowsSet rows) (settings c) → Contains (names_of (settings c)) g.name → first_of g.name rows ≡ Some g.value → begins_plainly g.value ≡ true
given_plainly c rows g all k f = all_begin (settings c) rows g (own_values_plain c.task) all k f

pub all_plain : (options : List Given) → ((g : Given) → Contains options g → IsPlainValue g.value) → ArePlain options
all_plain [] h = tt
all_plain (g ∷ gs) h = (h g (first_of_list g gs), all_plain gs (λ x c. h x (later_in_list x g gs c)))

-- ---- no word is --

spelled_dashes : (joined : Bool) (name v : Text) (rest : List Text) → IsName name → IsPlainValue v → NoDashes rest → NoDashes (spelling_of joined name v ++ rest)
spelled_dashes true name v rest n p r = (joined_dashes name v n, r)
spelled_dashes false name v rest n p r = (apart_dashes name n, (p.0, r))

pub options_dashes : (names : List Text) → ((name : Text) → Contains names name → IsName name) → (rows : List Row) (options : List Given) → Fits names rows options → ArePlain options →
    NoDashes (flat_map spelling options)
options_dashes names are rows [] f p = tt
options_dashes names are rows (g ∷ gs) f p = spelled_dashes g.joined g.name g.value _ (are g.name f.0) p.0 (options_dashes names are (rows ++ row_of_given g ∷ []) gs f.2 p.1)

task_dashes : (t : Task) → bytes_eq (task_name t) (codes "--") ≡ false
task_dashes Rank = refl
task_dashes Rref = refl
task_dashes Kernel = refl
task_dashes Solve = refl
task_dashes LeftKernel = refl
task_dashes Inverse = refl
task_dashes Pivots = refl
task_dashes Check = refl
task_dashes Trace = refl
task_dashes Replay = refl
task_dashes Grow = refl
task_dashes (Drill g) = refl
task_dashes (Certify k) = refl

abbrev pub has_dashes : List Text → Bool
has_dashes words = list_any (λ w. bytes_eq w (codes "--")) words

pub dashes_false : (words : List Text) → NoDashes words → has_dashes words ≡ false
dashes_false [] d = refl
dashes_false (w ∷ ws) d = rw d.0 (dashes_false ws d.1)

pub no_dashes : (words : List Text) → has_dashes words ≡ false → NoDashes words
no_dashes [] h = tt
no_dashes (w ∷ ws) h = go (bytes_eq w (codes "--")) refl h (no_dashes ws)
  where
    go : (b : Bool) → bytes_eq w (codes "--") ≡ b → has_dashes (w ∷ ws) ≡ false → (has_dashes ws ≡ false → NoDashes ws) → (bytes_eq w (codes "--") ≡ false) × NoDashes ws
    go true e h k = absurd (let f : true ≡ false = rw e at h in cc)
    go false e h k = let f : has_dashes ws ≡ false = rw e at h in (e, k f)

dashes_at : (words : List Text) → NoDashes words → (w : Text) → Contains words w → bytes_eq w (codes "--") ≡ false
dashes_at [] d w (k, lt, e) = absurd (omega arith)
dashes_at (v ∷ words) d w (zero, lt, e) = subst (λ (x : Text). bytes_eq x (codes "--") ≡ false) e d.0
dashes_at (v ∷ words) d w (suc k, lt, e) = dashes_at words d.1 w (k, omega arith, e)

-- ---- accepted words are taken, and say their command

record WordsTaken (words : List Text) (c : Command) : Type 0 where
  no_fault : fault_of command_line words ≡ []
  says : AsksFor (subcommand_of command_line words) c
  dashes : NoDashes words

taken_options : (c : Command) (options : List Given) → Fits (task_names c.task) [] options → All (RowsSet (map row_of_given options)) (settings c) → WordsTaken (task_name c.task ∷ flat_map spelling options) c
taken_options c options f set =
    let names : List Text = task_names c.task in
    let plain = all_plain options (λ g k. plain_value g.value (given_plainly c (map row_of_given options) g set ((fits_known names options f).known g k) (fits_first names [] options g f k))) in
    let level = passes_level (task_name c.task) names (flat_map spelling options) (map row_of_given options) (reads_passes (task_name c.task) names (are_names c.task) options f plain) in
    record {
      no_fault = fault_at c.task (flat_map spelling options) ∙ level.0;
      says = record { rows = map row_of_given options; entered_as = subcommand_at c.task (flat_map spelling options) ∙ ap (λ (rs : List Row). Some (task_name c.task, rs)) level.1; set = set };
      dashes = (task_dashes c.task, options_dashes names (are_names c.task) [] options f plain);
    }

accepted_fits : (words : List Text) (c : Command) (a : Accepted words c) → Fits (task_names c.task) [] a.options
accepted_fits words c a = known_fits (task_names c.task) a.options a.known

accepted_rows : (words : List Text) (c : Command) (a : Accepted words c) → All (RowsSet (map row_of_given a.options)) (settings c)
accepted_rows words c a = λ k d lt. set_rows (task_names c.task) a.options _ (accepted_fits words c a) (a.set k d lt)

taken : (words : List Text) (c : Command) → Accepted words c → WordsTaken words c
taken words c a =
    subst (λ (ws : List Text). WordsTaken ws c) (sym a.spelled) (taken_options c a.options (accepted_fits words c a) (accepted_rows words c a))

pub accepted_fault : (words : List Text) (c : Command) → Accepted words c → fault_of command_line words ≡ []
accepted_fault words c a = (taken words c a).no_fault

pub accepted_says : (words : List Text) (c : Command) → Accepted words c → AsksFor (subcommand_of command_line words) c
accepted_says words c a = (taken words c a).says

pub accepted_dashes : (words : List Text) (c : Command) → Accepted words c → NoDashes words
accepted_dashes words c a = (taken words c a).dashes

plain_first : (w : Text) → begins_plainly w ≡ true → (rest : Text) → w ≢ 45 ∷ rest
plain_first w h rest e = let f : false ≡ true = subst (λ (x : Text). begins_plainly x ≡ true) e h in absurd cc

pub accepted_plain : AcceptedIsPlain
accepted_plain words c a =
    let names : List Text = task_names c.task in
    let f = accepted_fits words c a in (
      λ w k. differ w (codes "--") (dashes_at words (accepted_dashes words c a) w k),
      λ g k. record {
        value = plain_first g.value (given_plainly c (map row_of_given a.options) g (accepted_rows words c a) (a.known.known g k) (fits_first names [] a.options g f k));
        name = (are_names c.task g.name (a.known.known g k)).lacks;
      },
    )

-- ---- and words that are taken and say a command are accepted

own_names_at : Text → List Text
own_names_at name = unwrap_or (option_map (λ (c : Text × List Text). c.1) (find (λ (c : Text × List Text). bytes_eq c.0 name) commands)) []

own_names_of : (t : Task) → option_names ++ own_names_at (task_name t) ≡ task_names t
unfolding own_names_at
own_names_of Rank = refl
own_names_of Rref = refl
own_names_of Kernel = refl
own_names_of Solve = refl
own_names_of LeftKernel = refl
own_names_of Inverse = refl
own_names_of Pivots = refl
own_names_of Check = refl
own_names_of Trace = refl
own_names_of Replay = refl
own_names_of Grow = refl
own_names_of (Drill g) = refl
own_names_of (Certify k) = refl

-- tasks of one name have the same options
same_names : (s t : Task) → task_name s ≡ task_name t → task_names s ≡ task_names t
same_names s t e = sym (own_names_of s) ∙ ap (λ (n : Text). option_names ++ own_names_at n) e ∙ own_names_of t

says_accepted_at : (t : Task) (rest : List Text) (c : Command) → NoDashes rest → fault_of command_line (task_name t ∷ rest) ≡ [] → AsksFor (subcommand_of command_line (task_name t ∷ rest)) c
    → Accepted (task_name t ∷ rest) c
says_accepted_at t rest c d none s =
    let level = level_passes (task_name t) (task_names t) rest (sym (fault_at t rest) ∙ none) in
    let r = passes_reads (task_name t) (task_names t) rest _ d level in
    let same = sym s.entered_as ∙ subcommand_at t rest in
    let name : task_name c.task ≡ task_name t = ap (λ (o : Option (Text × List Row)). (unwrap_or o (task_name t, [])).0) same in
    let rows : s.rows ≡ map row_of_given r.options = ap (λ (o : Option (Text × List Row)). (unwrap_or o (task_name t, [])).1) same ∙ r.ends in
    record {
      options = r.options;
      spelled = ap (λ (x : Text). x ∷ rest) (sym name) ∙ ap (λ (ws : List Text). task_name c.task ∷ ws) r.spelled;
      known = subst (AreKnown r.options) (sym (same_names c.task t name)) (fits_known (task_names t) r.options r.fits);
      set = λ k d lt. rows_set r.options _ (subst (λ (rs : List Row). All (RowsSet rs) (settings c)) rows s.set k d lt);
    }

pub says_accepted : (words : List Text) (c : Command) → NoDashes words → fault_of command_line words ≡ [] → AsksFor (subcommand_of command_line words) c → Accepted words c
says_accepted words c d none s =
    let first = first_is_named words (dashes_at words d) none in
    let i = subst (λ (ws : List Text). WordsTaken ws c) first.2 (record { dashes = d; no_fault = none; says = s }) in
    subst (λ (ws : List Text). Accepted ws c) (sym first.2) (says_accepted_at first.0 first.1 c i.dashes.1 i.no_fault i.says)

-- ---- one command at most

-- the rules of a name's options
rules_of_name : Text → List Rule
rules_of_name name = if bytes_eq name (codes "drill")
    then modulus_rule ∷ workers_rule ∷ rounds_rule ∷ seed_rule ∷ rows_rule ∷ cols_rule ∷ per_rule ∷ []
    else if bytes_eq name (codes "certify") then modulus_rule ∷ workers_rule ∷ rounds_rule ∷ kind_rule ∷ []
    else modulus_rule ∷ workers_rule ∷ rounds_rule ∷ []

rules_for : (c : Command) → rules_of_name (task_name c.task) ≡ map (λ s. s.rule) (settings c)
unfolding rules_of_name
rules_for c = go c.task
  where
    go : (t : Task) → rules_of_name (task_name t) ≡ modulus_rule ∷ workers_rule ∷ rounds_rule ∷ map (λ s. s.rule) (own_settings t)
    go Rank = refl
    go Rref = refl
    go Kernel = refl
    go Solve = refl
    go LeftKernel = refl
    go Inverse = refl
    go Pivots = refl
    go Check = refl
    go Trace = refl
    go Replay = refl
    go Grow = refl
    go (Drill g) = refl
    go (Certify k) = refl

-- the kind at a place
abbrev kind_at : ℕ → CertKind
kind_at zero = kind.Rank
kind_at (suc zero) = kind.Rref
kind_at (suc (suc n)) = kind.Kernel

-- the command of a name with these numbers
decode_task : Text → List ℕ → Option Task
decode_task name [] = find (λ t. bytes_eq (task_name t) name) tasks
decode_task name (s ∷ r ∷ c ∷ p ∷ []) = Some (Drill (record { seed = s; rows = r; cols = c; per = p }))
decode_task name (k ∷ []) = Some (Certify (kind_at k))
decode_task name ns = None

decoded_task : (t : Task) → decode_task (task_name t) (map (λ s. s.number) (own_settings t)) ≡ Some t
unfolding decode_task
decoded_task Rank = refl
decoded_task Rref = refl
decoded_task Kernel = refl
decoded_task Solve = refl
decoded_task LeftKernel = refl
decoded_task Inverse = refl
decoded_task Pivots = refl
decoded_task Check = refl
decoded_task Trace = refl
decoded_task Replay = refl
decoded_task Grow = refl
decoded_task (Drill g) = refl
decoded_task (Certify kind.Rank) = refl
decoded_task (Certify kind.Rref) = refl
decoded_task (Certify kind.Kernel) = refl

decode : Text → List ℕ → Option Command
decode name (m ∷ w ∷ r ∷ own) = option_map (λ t. record { task = t; modulus = m; workers = w; rounds = r }) (decode_task name own)
decode name ns = None

decoded : (c : Command) → decode (task_name c.task) (map (λ s. s.number) (settings c)) ≡ Some c
unfolding decode
decoded c = ap (option_map (λ t. record { task = t; modulus = c.modulus; workers = c.workers; rounds = c.rounds })) (decoded_task c.task)

same_command : (c d : Command) → task_name c.task ≡ task_name d.task → map (λ s. s.number) (settings c) ≡ map (λ s. s.number) (settings d) → c ≡ d
same_command c d e f = ap (λ (o : Option Command). unwrap_or o c) (sym (decoded c) ∙ ap (λ (n : Text). decode n (map (λ s. s.number) (settings c))) e ∙ ap (decode (task_name d.task)) f ∙ decoded d)

one_value : (values : OptionValues) (w : Text) (m n : ℕ) → IsValue values w m → IsValue values w n → m ≡ n
one_value (InRange low high) w m n h k = h.1 ∙ sym k.1
one_value (OneOf words) w m n h k = ap (λ (x : Option ℕ). unwrap_or x m) (sym h ∙ k)

one_number : (rule : Rule) (o : Option Text) (m n : ℕ) → IsNumber rule o m → IsNumber rule o n → m ≡ n
one_number rule None m n h k = ap (λ (x : Option ℕ). unwrap_or x m) (sym h ∙ k)
one_number rule (Some w) m n h k = one_value rule.values w m n h k

pub one_list : (rows : List Row) (ss ts : List Setting) → map (λ s. s.rule) ss ≡ map (λ s. s.rule) ts → All (RowsSet rows) ss → All (RowsSet rows) ts → map (λ s. s.number) ss ≡ map (λ s. s.number) ts
one_list rows [] [] e h k = refl
one_list rows [] (t ∷ ts) e h k = absurd cc
one_list rows (s ∷ ss) [] e h k = absurd cc
one_list rows (s ∷ ss) (t ∷ ts) e h k =
    let rule : s.rule ≡ t.rule = cc in
    let rules : map (λ s. s.rule) ss ≡ map (λ s. s.rule) ts = cc in
    let here : RowsSet rows (setting t.rule s.number) = subst (λ (r : Rule). RowsSet rows (setting r s.number)) rule (h 0 s (omega arith)) in
    ap₂ (λ (n : ℕ) (ns : List ℕ). n ∷ ns) (one_number t.rule (first_of t.rule.name rows) s.number t.number here (k 0 t (omega arith)))
    (one_list rows ss ts rules (λ i d less. h (suc i) d (omega arith)) (λ i d less. k (suc i) d (omega arith)))

one_said : (o : Option (Text × List Row)) (c d : Command) → AsksFor o c → AsksFor o d → c ≡ d
one_said o c d s t =
    let same = sym s.entered_as ∙ t.entered_as in
    let name : task_name c.task ≡ task_name d.task = ap (λ (x : Option (Text × List Row)). (unwrap_or x ([], [])).0) same in
    let rows : s.rows ≡ t.rows = ap (λ (x : Option (Text × List Row)). (unwrap_or x ([], [])).1) same in
    let rules = sym (rules_for c) ∙ ap rules_of_name name ∙ rules_for d in
    same_command c d name (one_list t.rows (settings c) (settings d) rules (subst (λ (rs : List Row). All (RowsSet rs) (settings c)) rows s.set) t.set)

pub one_command : IsOneCommand
one_command words c d a b = one_said (subcommand_of command_line words) c d (accepted_says words c a) (accepted_says words d b)

-- ---- the answers of the reading functions

abbrev pub bytes : List (Bor Text) → List Text
bytes = map (λ w. w.now)

pub words_dashes : (words : List (Bor Text)) → list_any (λ w. bytes_eq w.now (codes "--")) words ≡ has_dashes (bytes words)
words_dashes [] = refl
words_dashes (w ∷ ws) = ap (λ (b : Bool). bytes_eq w.now (codes "--") || b) (words_dashes ws)

-- words with --
pub dashed : (words : List (Bor Text)) (b : Bool) → b ≡ list_any (λ w. bytes_eq w.now (codes "--")) words → b ≡ true → AreRefused (bytes words)
dashed words b e f c a =
    let g : true ≡ false = sym f ∙ e ∙ words_dashes words ∙ dashes_false (bytes words) (accepted_dashes (bytes words) c a) in
    absurd cc

-- words that clap refuses
pub refused : (words : List Text) (o : Option ArgMatches) → AreTaken command_line words o → o ≡ None → AreRefused words
refused words o h e c a = subst (AreTaken command_line words) e h (accepted_fault words c a)

-- words that clap takes, with the command that the matches say, if they say one
pub answered : (words : List (Bor Text)) (b : Bool) (o : Option ArgMatches) (m : ArgMatches) (result : Option Command) → b ≡ list_any (λ w. bytes_eq w.now (codes "--")) words → b ≡ false
    → AreTaken command_line (bytes words) o → o ≡ Some m → MatchOption result ((c : Command) → ¬ AsksFor (subcommand_rows_of m) c) (AsksFor (subcommand_rows_of m)) → IsCommandOf (bytes words) result
answered words b o m None e f t is h =
    let k = subst (AreTaken command_line (bytes words)) is t in
    λ c a. h c (subst (λ (x : Option (Text × List Row)). AsksFor x c) (sym k.2) (accepted_says (bytes words) c a))
answered words b o m (Some c) e f t is h =
    let k = subst (AreTaken command_line (bytes words)) is t in
    says_accepted (bytes words) c (no_dashes (bytes words) (sym (words_dashes words) ∙ sym e ∙ f)) k.0 (subst (λ (x : Option (Text × List Row)). AsksFor x c) k.2 h)
