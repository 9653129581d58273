-- What the matches say of the words.
use Rattle.std.proofs.Common.{◌≡◌, ◌≢◌, ◌<◌, inl, inr, ◌∙◌, ◌&&◌, ℕ, suc, Bool, true, false, All, List, [], ◌∷◌, codes, MatchOption, Option, Some, None, refl, sym, ap, subst, arith}
use Rattle.std.specs.List.{slice_index_or}
use Rattle.std.specs.Str.{bytes_eq}
use Rattle.std.proofs.lemmas.List.Elements.{All-cons, All-nil}
use Rattle.std.proofs.lemmas.Slice.Eq.{bytes_eq-Decides}
use Rattle.std.specs.Prelude.{Box, if◌then◌else◌, option_map, unwrap_or}
use Rattle.std.specs.Box.{box_value}
use Rattle.clap.specs.Words.{App, HasKind, HasMatchesOf, IsAmong, Kinds, Row, Text, built, fault_of, first_value, found_of, is_simple, is_simple_and_free, kind_of, matches_of, rows_of, subcommand_of, subcommand_rows, subcommand_rows_of}
use Rattle.clap.specs.Faults.{is_free_app}
use Rattle.clap.specs.declared.error.Error.{Error}
use Rattle.clap.specs.declared.error.kind.ErrorKind.{ErrorKind}
use Rattle.clap.specs.declared.error.kind.ErrorKind.TheVariants.{OutOfMemory}
use Rattle.clap.specs.declared.parser.matches.ArgMatches.{ArgMatches}
use Rattle.clap.specs.declared.parser.matches.ArgMatches.TheViews.{out-SubCommand}
use Rattle.clap.specs.declared.parser.matches.Found.{Found}
use Rattle.clap.specs.declared.parser.matches.SubCommand.{SubCommand}
use Rattle.clap.proofs.WalkLemmas.{first_value-rows}
use Rattle.sms_text.specs.OuterLines.{is_kind_word}
use Rattle.spasm_words.specs.Options.{AsksFor, IsTaskOf, RowsSet}
use Rattle.spasm_words.specs.Words.{IsNumber, IsValue, Rule, Setting, cols_rule, modulus_rule, kind_place, kind_rule, own_settings, per_rule, rounds_rule, rows_rule, seed_rule, setting, settings, task_name, workers_rule}
use Rattle.certificates.specs.declared.cert_kind.CertKind.{CertKind}
use Rattle.certificates.specs.declared.cert_kind.CertKind.TheVariants as kind
use Rattle.certificates.specs.CertificateText.{kind_word}
use Rattle.spasm_words.specs.declared.generator.Generator.{Generator}
use Rattle.spasm_words.specs.declared.command.Task.{Task}
use Rattle.spasm_words.specs.declared.command.Task.TheVariants.{Rank, Rref, Kernel, Solve, LeftKernel, Inverse, Pivots, Check, Trace, Replay, Grow, Drill, Certify}
use Rattle.spasm_words.specs.declared.command.Command.{Command}
use Rattle.spasm_words.proofs.Accepting.{differ}

simple_of : (app : App) → is_simple_and_free app ≡ true → is_simple app ≡ true
simple_of app e = go (is_simple app) e
  where
    go : (b : Bool) → (b && is_free_app (built app)) ≡ true → b ≡ true
    go true f = refl
    go false f = absurd (let g : false ≡ true = f in cc)

pub taken_as : (app : App) (words : List Text) (m : ArgMatches) → is_simple_and_free app ≡ true → (is_simple_and_free app ≡ true → fault_of app words ≡ [])
    → HasMatchesOf app words m → (fault_of app words ≡ []) × (rows_of (found_of m) ≡ matches_of app words) × (subcommand_rows_of m ≡ subcommand_of app words)
taken_as app words m simple kinds matches = let both = matches (simple_of app simple) in (kinds simple, both.0, both.1)

among_none : (k : ErrorKind) (kinds : Kinds) → kinds ≡ [] → ¬ IsAmong k kinds
among_none k kinds e h = subst (IsAmong k) e h

pub refused_as : (app : App) (words : List Text) (error : Error) → is_simple_and_free app ≡ true → (is_simple_and_free app ≡ true → HasKind (fault_of app words) error)
    → kind_of error ≢ OutOfMemory → fault_of app words ≢ []
refused_as app words error simple kinds other none = elim (kinds simple) [
  | inl h ↦ other h
  | inr h ↦ among_none (kind_of error) _ none h
]

-- ---- the subcommand that was entered

module _ {Z : Type 0} where
  pub entered_rows : (o : Option (Box SubCommand Z)) (name : Text) (rows : List Row) → Some name ≡ option_map (λ b. (out-SubCommand (box_value b)).name.now) o
      → Some rows ≡ option_map (λ p. p.1) (subcommand_rows o) → subcommand_rows o ≡ Some (name, rows)
  entered_rows None name rows e f = cc
  entered_rows (Some b) name rows e f =
      let n : name ≡ (out-SubCommand (box_value b)).name.now = ap (λ (x : Option Text). unwrap_or x name) e in
      let r = ap (λ (x : Option (List Row)). unwrap_or x rows) f in
      sym (ap (λ (x : Text). Some (x, rows)) n ∙ ap (λ (x : List Row). Some ((out-SubCommand (box_value b)).name.now, x)) r)

pub gives_number : (rule : Rule) (f : Found) (n : ℕ) → IsNumber rule (first_value f rule.name) n → RowsSet (rows_of f) (setting rule n)
gives_number rule f n h = subst (λ (o : Option Text). IsNumber rule o n) (first_value-rows f rule.name) h

pub number_given : (rule : Rule) (f : Found) (n : ℕ) → RowsSet (rows_of f) (setting rule n) → IsNumber rule (first_value f rule.name) n
number_given rule f n h = subst (λ (o : Option Text). IsNumber rule o n) (sym (first_value-rows f rule.name)) h

said_rows : (o : Option (Text × List Row)) (name : Text) (rows : List Row) (c : Command) → o ≡ Some (name, rows) → (s : AsksFor o c) → s.rows ≡ rows
said_rows o name rows c e s = ap (λ (x : Option (Text × List Row)). (unwrap_or x (name, rows)).1) (sym s.entered_as ∙ e)

said_name : (o : Option (Text × List Row)) (name : Text) (rows : List Row) (c : Command) → o ≡ Some (name, rows) → (s : AsksFor o c) → name ≡ task_name c.task
said_name o name rows c e s = ap (λ (x : Option (Text × List Row)). (unwrap_or x (name, rows)).0) (sym e ∙ s.entered_as)

-- where a number isn't given in its range, no command is said
pub no_number : (rule : Rule) (number : Command → ℕ) (o : Option (Text × List Row)) (name : Text) (f : Found) → ((c : Command) (rows : List Row) → All (RowsSet rows) (settings c) → RowsSet rows (setting rule (number c)))
    → o ≡ Some (name, rows_of f) → ((n : ℕ) → ¬ IsNumber rule (first_value f rule.name) n) → (c : Command) → ¬ AsksFor o c
no_number rule number o name f picked e h c s =
    h (number c) (number_given rule f (number c) (subst (λ (rs : List Row). RowsSet rs (setting rule (number c))) (said_rows o name (rows_of f) c e s) (picked c s.rows s.set)))

pub no_modulus : (o : Option (Text × List Row)) (name : Text) (f : Found) → o ≡ Some (name, rows_of f) → ((n : ℕ) → ¬ IsNumber modulus_rule (first_value f (codes "modulus")) n) → (c : Command) → ¬ AsksFor o c
no_modulus o name f = no_number modulus_rule (λ c. c.modulus) o name f (λ c rows set. set 0 (setting modulus_rule 0) (omega arith))

pub no_workers : (o : Option (Text × List Row)) (name : Text) (f : Found) → o ≡ Some (name, rows_of f) → ((n : ℕ) → ¬ IsNumber workers_rule (first_value f (codes "workers")) n) → (c : Command) → ¬ AsksFor o c
no_workers o name f = no_number workers_rule (λ c. c.workers) o name f (λ c rows set. set 1 (setting workers_rule 0) (omega arith))

pub no_rounds : (o : Option (Text × List Row)) (name : Text) (f : Found) → o ≡ Some (name, rows_of f) → ((n : ℕ) → ¬ IsNumber rounds_rule (first_value f (codes "rounds")) n) → (c : Command) → ¬ AsksFor o c
no_rounds o name f = no_number rounds_rule (λ c. c.rounds) o name f (λ c rows set. set 2 (setting rounds_rule 0) (omega arith))

pub no_task : (o : Option (Text × List Row)) (name : Text) (f : Found) → o ≡ Some (name, rows_of f) → ((t : Task) → ¬ IsTaskOf name (rows_of f) t) → (c : Command) → ¬ AsksFor o c
no_task o name f e h c s =
    let all : All (RowsSet (rows_of f)) (settings c) = subst (λ (rs : List Row). All (RowsSet rs) (settings c)) (said_rows o name (rows_of f) c e s) s.set in
    h c.task (said_name o name (rows_of f) c e s, λ k d lt. all (suc (suc (suc k))) d (omega arith))

-- where all are given, the command is said
pub said_by : (o : Option (Text × List Row)) (name : Text) (f : Found) (c : Command) → o ≡ Some (name, rows_of f)
    → IsNumber modulus_rule (first_value f (codes "modulus")) c.modulus → IsNumber workers_rule (first_value f (codes "workers")) c.workers
    → IsNumber rounds_rule (first_value f (codes "rounds")) c.rounds → IsTaskOf name (rows_of f) c.task → AsksFor o c
said_by o name f c e m w r t = record {
  rows = rows_of f;
  entered_as = e ∙ ap (λ (n : Text). Some (n, rows_of f)) t.0;
  set =
      let own = own_settings c.task in
      let last = All-cons (RowsSet (rows_of f)) (setting rounds_rule c.rounds) own (gives_number rounds_rule f c.rounds r) t.1 in
      let more = All-cons (RowsSet (rows_of f)) (setting workers_rule c.workers) (setting rounds_rule c.rounds ∷ own) (gives_number workers_rule f c.workers w) last in
      All-cons (RowsSet (rows_of f)) (setting modulus_rule c.modulus) (setting workers_rule c.workers ∷ setting rounds_rule c.rounds ∷ own) (gives_number modulus_rule f c.modulus m) more;
}

-- what a matrix is generated from is given
pub generator_given : (f : Found) (g : Generator) → IsNumber seed_rule (first_value f (codes "seed")) g.seed → IsNumber rows_rule (first_value f (codes "rows")) g.rows
    → IsNumber cols_rule (first_value f (codes "cols")) g.cols → IsNumber per_rule (first_value f (codes "per")) g.per → All (RowsSet (rows_of f)) (own_settings (Drill g))
generator_given f g s r c p =
    let P = RowsSet (rows_of f) in
    let of_per : List Setting = setting per_rule g.per ∷ [] in
    let of_cols : List Setting = setting cols_rule g.cols ∷ of_per in
    let of_rows : List Setting = setting rows_rule g.rows ∷ of_cols in
    All-cons P (setting seed_rule g.seed) of_rows (gives_number seed_rule f g.seed s) (All-cons P (setting rows_rule g.rows) of_cols (gives_number rows_rule f g.rows r)
    (All-cons P (setting cols_rule g.cols) of_per (gives_number cols_rule f g.cols c) (All-cons P (setting per_rule g.per) [] (gives_number per_rule f g.per p) (All-nil P))))

-- or one of its numbers isn't
pub no_own : (rule : Rule) (f : Found) (g : Generator) (k n : ℕ) → k < 4 → ((d : Setting) → slice_index_or (own_settings (Drill g)) k d ≡ setting rule n)
    → ((n : ℕ) → ¬ IsNumber rule (first_value f rule.name) n) → ¬ All (RowsSet (rows_of f)) (own_settings (Drill g))
no_own rule f g k n less at h all =
    h n (number_given rule f n (subst (RowsSet (rows_of f)) (at (setting rule n)) (all k (setting rule n) less)))

pub no_drill : (name : Text) (rows : List Row) → name ≡ codes "drill" → ((g : Generator) → ¬ All (RowsSet rows) (own_settings (Drill g))) → (t : Task) → ¬ IsTaskOf name rows t
no_drill name rows e h Rank (n, all) = differ (codes "drill") (codes "rank") refl (sym e ∙ n)
no_drill name rows e h Rref (n, all) = differ (codes "drill") (codes "rref") refl (sym e ∙ n)
no_drill name rows e h Kernel (n, all) = differ (codes "drill") (codes "kernel") refl (sym e ∙ n)
no_drill name rows e h Solve (n, all) = differ (codes "drill") (codes "solve") refl (sym e ∙ n)
no_drill name rows e h LeftKernel (n, all) = differ (codes "drill") (codes "leftkernel") refl (sym e ∙ n)
no_drill name rows e h Inverse (n, all) = differ (codes "drill") (codes "inverse") refl (sym e ∙ n)
no_drill name rows e h Pivots (n, all) = differ (codes "drill") (codes "pivots") refl (sym e ∙ n)
no_drill name rows e h Check (n, all) = differ (codes "drill") (codes "check") refl (sym e ∙ n)
no_drill name rows e h Trace (n, all) = differ (codes "drill") (codes "trace") refl (sym e ∙ n)
no_drill name rows e h Replay (n, all) = differ (codes "drill") (codes "replay") refl (sym e ∙ n)
no_drill name rows e h Grow (n, all) = differ (codes "drill") (codes "grow") refl (sym e ∙ n)
no_drill name rows e h (Drill g) (n, all) = h g all
no_drill name rows e h (Certify k) (n, all) = differ (codes "drill") (codes "certify") refl (sym e ∙ n)

pub no_certify : (name : Text) (rows : List Row) → name ≡ codes "certify" → ((k : CertKind) → ¬ All (RowsSet rows) (own_settings (Certify k))) → (t : Task) → ¬ IsTaskOf name rows t
no_certify name rows e h Rank (n, all) = differ (codes "certify") (codes "rank") refl (sym e ∙ n)
no_certify name rows e h Rref (n, all) = differ (codes "certify") (codes "rref") refl (sym e ∙ n)
no_certify name rows e h Kernel (n, all) = differ (codes "certify") (codes "kernel") refl (sym e ∙ n)
no_certify name rows e h Solve (n, all) = differ (codes "certify") (codes "solve") refl (sym e ∙ n)
no_certify name rows e h LeftKernel (n, all) = differ (codes "certify") (codes "leftkernel") refl (sym e ∙ n)
no_certify name rows e h Inverse (n, all) = differ (codes "certify") (codes "inverse") refl (sym e ∙ n)
no_certify name rows e h Pivots (n, all) = differ (codes "certify") (codes "pivots") refl (sym e ∙ n)
no_certify name rows e h Check (n, all) = differ (codes "certify") (codes "check") refl (sym e ∙ n)
no_certify name rows e h Trace (n, all) = differ (codes "certify") (codes "trace") refl (sym e ∙ n)
no_certify name rows e h Replay (n, all) = differ (codes "certify") (codes "replay") refl (sym e ∙ n)
no_certify name rows e h Grow (n, all) = differ (codes "certify") (codes "grow") refl (sym e ∙ n)
no_certify name rows e h (Drill g) (n, all) = differ (codes "certify") (codes "drill") refl (sym e ∙ n)
no_certify name rows e h (Certify k) (n, all) = h k all

-- the kind of a certificate isn't given
pub no_kind : (f : Found) → None ≡ first_value f (codes "kind") → (k : CertKind) → ¬ All (RowsSet (rows_of f)) (own_settings (Certify k))
no_kind f e k all =
    let is : None ≡ Some (kind_place k) = subst (λ (o : Option Text). IsNumber kind_rule o (kind_place k)) (sym e) (number_given kind_rule f (kind_place k) (all 0 (setting kind_rule (kind_place k)) (omega arith))) in
    cc

-- what is a value of it is the word of a kind
is_kind : (w : Text) (k : CertKind) → IsValue kind_rule.values w (kind_place k) → is_kind_word w ≡ true
is_kind w k h = go (bytes_eq (kind_word kind.Rank) w) (bytes_eq (kind_word kind.Rref) w) (bytes_eq (kind_word kind.Kernel) w) refl refl refl h
  where
    word : (x : Text) → bytes_eq x w ≡ true → is_kind_word x ≡ true → is_kind_word w ≡ true
    word x e is = subst (λ v. is_kind_word v ≡ true) ((bytes_eq-Decides x w).0 e) is

    go : (a b c : Bool) → bytes_eq (kind_word kind.Rank) w ≡ a → bytes_eq (kind_word kind.Rref) w ≡ b → bytes_eq (kind_word kind.Kernel) w ≡ c
        → (if a then Some 0 else option_map suc (if b then Some 0 else option_map suc (if c then Some 0 else option_map suc None))) ≡ Some (kind_place k) → is_kind_word w ≡ true
    go true b c ea eb ec e = word (kind_word kind.Rank) ea refl
    go false true c ea eb ec e = word (kind_word kind.Rref) eb refl
    go false false true ea eb ec e = word (kind_word kind.Kernel) ec refl
    go false false false ea eb ec e = absurd (let f : None ≡ Some (kind_place k) = e in cc)

kind_valued : (k : CertKind) → IsValue kind_rule.values (kind_word k) (kind_place k)
kind_valued kind.Rank = refl
kind_valued kind.Rref = refl
kind_valued kind.Kernel = refl

-- or its word says it, or is none of a kind
pub kind_told : (f : Found) (w : Text) (result : Option CertKind) → Some w ≡ first_value f (codes "kind") → MatchOption result (is_kind_word w ≡ false) (λ k. w ≡ kind_word k)
    → MatchOption result ((k : CertKind) → ¬ All (RowsSet (rows_of f)) (own_settings (Certify k))) (λ k. All (RowsSet (rows_of f)) (own_settings (Certify k)))
kind_told f w None e none = λ k all.
    let value : IsValue kind_rule.values w (kind_place k) = subst (λ (o : Option Text). IsNumber kind_rule o (kind_place k)) (sym e) (number_given kind_rule f (kind_place k) (all 0 (setting kind_rule (kind_place k)) (omega arith))) in
    let both : false ≡ true = sym none ∙ is_kind w k value in
    cc
kind_told f w (Some k) e same =
    let P = RowsSet (rows_of f) in
    let value : IsValue kind_rule.values w (kind_place k) = subst (λ v. IsValue kind_rule.values v (kind_place k)) (sym same) (kind_valued k) in
    All-cons P (setting kind_rule (kind_place k)) [] (gives_number kind_rule f (kind_place k) (subst (λ (o : Option Text). IsNumber kind_rule o (kind_place k)) e value)) (All-nil P)
