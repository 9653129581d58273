-- What a run wrote, read by another behind the text that the first was given.
use Rattle.std.proofs.Common.{ℕ, ◌≡◌, ◌+◌, ◌-◌, ◌<◌, ◌≤◌, true, false, List, [], ◌∷◌, ◌++◌, None, Some, length, map, refl, sym, ap, subst, ◌∙◌, inl, inr, arith, append-nil, length-append}
use Rattle.std.specs.Prelude.{codes}
use Rattle.std.proofs.lemmas.List.{append_cancel_left}
use Rattle.residue_words.specs.declared.modulus.TheConstants.{MODULUS_BOUND}
use Rattle.residue_words.specs.Matrix.{Matrix}
use Rattle.row_space.specs.Factors as plain
use Rattle.row_space.specs.Factors.{IsValid, Shows}
use Rattle.schur_rows.proofs.FactorRows.{fit_few}
use Rattle.sms_text.specs.declared.reader.TheConstants.{LARGEST_TEXT_SIZE}
use Rattle.sms_text.specs.Lines.{lines}
use Rattle.sms_text.specs.OuterLines as form
use Rattle.sms_text.specs.Reading.{with_items}
use Rattle.sms_text.specs.Stream.{SinkState, Gained, at_back}
use Rattle.sms_text.specs.Text.{Got, Header, Item, Outer, Request, Words, matrices, outer_lines, read, reading}
use Rattle.sms_text.proofs.Closed.{AreOfTextSize, read_alone, read_behind}
use Rattle.sms_text.proofs.Following.{Stays, bytes_stay}
use Rattle.sms_text.proofs.Runs.{with_items_append, with_items_got}
use Rattle.certificates.specs.declared.cert_kind.CertKind.{CertKind}
use Rattle.certificates.specs.CertificateText.{ClaimFitsText, HasText, certificate_said, certificate_text}
use Rattle.certificates.specs.Laws.{ClaimIsModulo, IsModulo, certificate_items}
use Rattle.certificates.proofs.WrittenCertificates.{reads_back}
use Rattle.run_trace.specs.declared.publication.Publication.{Publication}
use Rattle.run_trace.specs.Laws.{publication_words, trace_items}
use Rattle.run_trace.specs.Lawful.{IsLawfulTrace}
use Rattle.run_trace.specs.TraceText.{trace_said, trace_text}
use Rattle.run_trace.proofs.FoundTraces.{lawful_text}
use Rattle.run_trace.proofs.WrittenTraces as traces
use Rattle.spasm_run.specs.declared.status.Status.{Status}
use Rattle.spasm_run.specs.declared.status.Status.TheVariants.{Done}
use Rattle.spasm_words.specs.declared.command.Command.{Command}
use Rattle.spasm_words.specs.declared.command.Task.{Task}
use Rattle.spasm_words.specs.declared.command.Task.TheVariants.{Check, Trace, Replay, Certify}
use Rattle.spasm_run.specs.Answers.{AnswerTo, CertifiesAs, EndsBy, EndsWith, MatricesAnswer, RestsOn, TracesTo, VerdictOn, misfit, wanted}
use Rattle.spasm_run.specs.Contents.{Contents, HasLawfulTrace, IsCertified, contents}
use Rattle.spasm_laws.specs.Continuing.{Answered, AreClosedTexts, CertifiedIsChecked, EndedOn, SaysYes, TracedIsReplayed}
use Rattle.spasm_run.specs.Input.{HasContents}
use Rattle.spasm_run.specs.Ran.{AreTooFew, HasAnswer, Ran, Run, request, whole_input}
use Rattle.spasm_words.specs.Words.{Accepted}
use Rattle.spasm_lib.proofs.Claims.{text_places}
use Rattle.spasm_words.proofs.Exact.{one_command}
use Rattle.spasm_words.proofs.InRange.{modulus_in_range}
use Rattle.spasm_run.proofs.Stays.{told_of_all}
use Rattle.spasm_run.proofs.Whole.{asked}

-- ---- a valid certificate of a matrix that was read can be written

module _ (p : ℕ) (A : Matrix) (s : plain.Certificate) (high : A.height ≤ LARGEST_TEXT_SIZE) (wide : A.width ≤ LARGEST_TEXT_SIZE) (valid : IsValid p A s) where
  few : length s.pivots ≤ LARGEST_TEXT_SIZE
  few = omega (arith, fit_few valid.factors.fit, high)

  claim_fits : (claim : plain.Claim) → Shows p A (length s.pivots) s.right claim → ClaimFitsText claim
  claim_fits plain.Claim.Rank shows = tt
  claim_fits (plain.Claim.Rref E) shows =
      let fit = valid.factors.fit in (omega (arith, shows.height, fit.right_height, few), omega (arith, shows.width, fit.right_width, wide))
  claim_fits (plain.Claim.Kernel K) shows = (omega (arith, shows.height, wide), omega (arith, shows.width, wide))

  claim_modulo : (claim : plain.Claim) → Shows p A (length s.pivots) s.right claim → ClaimIsModulo p claim
  claim_modulo plain.Claim.Rank shows = tt
  claim_modulo (plain.Claim.Rref E) shows = shows.matrix
  claim_modulo (plain.Claim.Kernel K) shows = shows.matrix

  pub fits_text : p < MODULUS_BOUND → HasText s
  fits_text below =
      let fit = valid.factors.fit in record {
        modulus = omega (arith, valid.modulus, below);
        count = few;
        pivots = text_places s.pivots A.height A.width (omega (arith, high)) (omega (arith, wide)) fit.rows_below fit.columns_below;
        left = (omega (arith, fit.left_height, high), omega (arith, fit.left_width, few));
        right = (omega (arith, fit.right_height, few), omega (arith, fit.right_width, wide));
        claim = claim_fits s.claim valid.shows;
      }

  pub is_modulo : IsModulo p s
  is_modulo = record { left = valid.factors.fit.left; right = valid.factors.fit.right; claim = claim_modulo s.claim valid.shows }

-- ---- the texts

-- an answer to `certify` is of one matrix
abbrev CertifiesOf : CertKind → Command → List Matrix → List ℕ → Type 0
CertifiesOf kind c values answer = (A : Matrix) × (values ≡ A ∷ []) × CertifiesAs kind c A answer

certifies_of : (kind : CertKind) (c : Command) (values : List Matrix) (answer : List ℕ) → MatricesAnswer (Certify kind) c values answer → CertifiesOf kind c values answer
certifies_of kind c [] answer h = absurd h
certifies_of kind c (A ∷ []) answer h = (A, refl, h)
certifies_of kind c (A ∷ B ∷ values) answer h = absurd h

-- what `check` reads
abbrev to_check : ℕ → ℕ → Request
to_check p limit = record { modulus = p; limit = limit; due = Header ∷ Outer form.Certificate ∷ [] }

-- Of a matrix text the matrix, and behind it its certificate: it is read, and it is valid.
certified_text : (p room limit : ℕ) (kind : CertKind) (c : Command) (text answer : List ℕ) (items : List Item) → p ≡ c.modulus → p < MODULUS_BOUND →
    read p false room 1 (Header ∷ []) (lines text) ≡ Got items [] → MatricesAnswer (Certify kind) c (matrices p items) answer → length (text ++ answer) ≤ limit →
    (said : Contents) × HasContents (to_check p limit) (whole_input (text ++ answer)) said × IsCertified p said
certified_text p room limit kind c text answer items same below reads answers fits =
    let of = certifies_of kind c (matrices p items) answer answers in
    let A = of.0 in
    let s = of.2.0 in
    let valid : IsValid p A s = subst (λ q. IsValid q A s) (sym same) of.2.2 in
    let alone = read_alone p room 1 (Header ∷ []) (lines text) items [] reads in
    let sizes : AreOfTextSize (A ∷ []) = subst AreOfTextSize of.1 alone.sizes in
    let both : length (text ++ answer) ≡ length text + length answer = length-append text answer in
    let written : answer ≡ certificate_text s = of.2.4 in
    let long : length answer ≡ length (certificate_text s) = ap length written in
    let at = read_behind p room 1 (Header ∷ []) text items reads true limit 1 (Outer form.Certificate ∷ []) answer (omega (arith, both, fits)) in
    let back = reads_back p s (omega (arith, below)) (is_modulo p A s sizes.0 sizes.1 valid) (fits_text p A s sizes.0 sizes.1 valid below) in
    let more = certificate_items s in
    let last = back.1 true (limit - length text) at.0 [] [] (omega (arith, both, fits, long)) in
    let certificate : read p true (limit - length text) at.0 (Outer form.Certificate ∷ []) (lines answer) ≡ Got more [] =
    ap (λ t. read p true (limit - length text) at.0 (Outer form.Certificate ∷ []) (lines t)) (written ∙ sym (append-nil (certificate_text s))) ∙ last ∙ with_items_got more [] in
    let behind = matrices p more in
    let values : matrices p (items ++ more) ≡ A ∷ behind = alone.values more ∙ ap (λ l. l ++ behind) of.1 in
    let words : outer_lines (items ++ more) ≡ outer_lines more = alone.lines more ∙ ap (λ l. l ++ outer_lines more) (alone.wordless tt) in (
      contents p (items ++ more),
      record { items = items ++ more; rest = []; reads = at.1 ∙ ap (with_items items) certificate ∙ with_items_append items more []; are = refl },
      record { matrix = A; behind = behind; certificate = s; matrices = values; says = ap (λ l. certificate_said l behind) words ∙ back.0; valid = valid },
    )

-- an answer to `trace` is of one matrix
abbrev TracesOf : Command → List Matrix → List ℕ → Type 0
TracesOf c values answer = (A : Matrix) × (values ≡ A ∷ []) × TracesTo c A answer

traces_of : (c : Command) (values : List Matrix) (answer : List ℕ) → MatricesAnswer Trace c values answer → TracesOf c values answer
traces_of c [] answer h = absurd h
traces_of c (A ∷ []) answer h = (A, refl, h)
traces_of c (A ∷ B ∷ values) answer h = absurd h

-- the lines of a trace have no matrix
no_values : (p : ℕ) (list : List Publication) → matrices p (map (λ (x : Publication). Words (publication_words x)) list) ≡ []
no_values p [] = refl
no_values p (x ∷ list) = no_values p list

-- what `replay` reads
abbrev to_replay : ℕ → ℕ → Request
to_replay p limit = record { modulus = p; limit = limit; due = Header ∷ Outer form.Trace ∷ [] }

-- of a matrix text the matrix, and behind it its trace: it is read, and it is lawful
traced_text : (p room limit : ℕ) (c : Command) (text answer : List ℕ) (items : List Item) → p ≡ c.modulus → p < MODULUS_BOUND →
    read p false room 1 (Header ∷ []) (lines text) ≡ Got items [] → MatricesAnswer Trace c (matrices p items) answer → length (text ++ answer) ≤ limit →
    (said : Contents) × HasContents (to_replay p limit) (whole_input (text ++ answer)) said × HasLawfulTrace p said
traced_text p room limit c text answer items same below reads answers fits =
    let of = traces_of c (matrices p items) answer answers in
    let A = of.0 in
    let t = of.2.0 in
    let lawful : IsLawfulTrace p A t = subst (λ q. IsLawfulTrace q A t) (sym same) of.2.1.lawful in
    let alone = read_alone p room 1 (Header ∷ []) (lines text) items [] reads in
    let sizes : AreOfTextSize (A ∷ []) = subst AreOfTextSize of.1 alone.sizes in
    let both : length (text ++ answer) ≡ length text + length answer = length-append text answer in
    let written : answer ≡ trace_text t.p t.publications = of.2.2 in
    let long : length answer ≡ length (trace_text t.p t.publications) = ap length written in
    let at = read_behind p room 1 (Header ∷ []) text items reads true limit 1 (Outer form.Trace ∷ []) answer (omega (arith, both, fits)) in
    let back = traces.reads_back t (lawful_text p A t below (sizes.0, sizes.1) lawful) in
    let more = trace_items t in
    let last = back.1 p true (limit - length text) at.0 [] [] (omega (arith, both, fits, long)) in
    let trace : read p true (limit - length text) at.0 (Outer form.Trace ∷ []) (lines answer) ≡ Got more [] =
    ap (λ w. read p true (limit - length text) at.0 (Outer form.Trace ∷ []) (lines w)) (written ∙ sym (append-nil (trace_text t.p t.publications))) ∙ last ∙ with_items_got more [] in
    let values : matrices p (items ++ more) ≡ A ∷ [] = alone.values more ∙ ap (λ l. l ++ matrices p more) of.1 ∙ ap (λ l. A ∷ l) (no_values p t.publications) in
    let words : outer_lines (items ++ more) ≡ outer_lines more = alone.lines more ∙ ap (λ l. l ++ outer_lines more) (alone.wordless tt) in (
      contents p (items ++ more),
      record { items = items ++ more; rest = []; reads = at.1 ∙ ap (with_items items) trace ∙ with_items_append items more []; are = refl },
      record { matrix = A; trace = t; matrices = values; says = ap trace_said words ∙ back.0; lawful = lawful },
    )

-- ---- the runs

-- a run of this command that was done wrote this
record Wrote (r : Run) (c : Command) (done : Ran r Done) (answer : List ℕ) : Type 0 where
  has : HasAnswer c r.limit done.input answer Done
  gained : Gained answer r.out r.out_after

wrote : (r : Run) (c : Command) (done : Ran r Done) → Accepted r.words c → (answer : List ℕ) × Wrote r c done answer
wrote r c done accepted =
    let cause = done.cause in
    let d : Command = cause.1.0 in
    (cause.0, record { has = subst (λ c. HasAnswer c r.limit done.input cause.0 Done) (one_command r.words d c cause.1.1 accepted) cause.1.2; gained = cause.2 })

-- an output that tells gained one text
one_gain : (held a b : List ℕ) (old new : SinkState) → old.held ≡ Some held → Gained a old new → Gained b old new → a ≡ b
one_gain held a b old new tells left right =
    let same : Some (held ++ a) ≡ Some (held ++ b) = sym (ap (λ h. at_back h a) tells) ∙ sym (ap (λ (s : SinkState). s.held) left) ∙ ap (λ (s : SinkState). s.held) right ∙ ap (λ h. at_back h b) tells in
    append_cancel_left held a b (let e : held ++ a ≡ held ++ b = cc in e)

-- what a run answered to a closed text is the answer for what the text says
closed_answer : (r : Run) (c : Command) (text answer : List ℕ) (a : Answered r c text answer) → RestsOn c.task c.modulus → AnswerTo c.task c (contents c.modulus a.closed.0) answer
closed_answer r c text answer a rests =
    let w = wrote r c a.ran a.accepted in
    let has = w.1.has in
    let same : w.0 ≡ answer = one_gain a.held w.0 answer r.out r.out_after a.tells w.1.gained a.gained in
    let q = request c r.limit in
    let all = told_of_all q a.ran.input (AreTooFew r.words r.limit) false r.source r.source_after (text ++ a.behind) (Got has.reads.items has.reads.rest) a.ran.draws a.told has.reads.reads in
    let stays : reading q true (text ++ a.behind) ≡ Got a.closed.0 (lines a.behind) =
    subst (λ what. Stays a.behind what (reading q true (text ++ a.behind))) a.closed.1 (bytes_stay q.modulus true q.limit 1 q.due text a.behind) in
    let both : Got has.reads.items all.0 ≡ Got a.closed.0 (lines a.behind) = sym all.1 ∙ stays in
    let items : has.reads.items ≡ a.closed.0 = cc in
    let said : has.said ≡ contents c.modulus a.closed.0 = sym has.reads.are ∙ ap (contents c.modulus) items in
    subst (λ t. AnswerTo c.task c (contents c.modulus a.closed.0) t) same (subst (λ x. AnswerTo c.task c x w.0) said (has.answers rests))

-- a run that answers whether a claim holds, where it does
says_yes : (v : Task) (Claim : ℕ → Contents → Type 0) → ((values : List Matrix) → misfit v values ≡ None) → ((p : ℕ) → RestsOn v p) →
    ((c : Command) (said : Contents) (text : List ℕ) → AnswerTo v c said text → VerdictOn (Claim c.modulus said) text) →
    ((p : ℕ) (said : Contents) (t : Status) → EndsWith v p said t → EndsBy (Claim p said) t) →
    (r : Run) (d : Command) (bytes : List ℕ) (s : Status) (said : Contents) → d.task ≡ v → EndedOn r d bytes s → HasContents (request d r.limit) (whole_input bytes) said → Claim d.modulus said →
    SaysYes r s
says_yes v Claim free rests verdict ends r d bytes s said asks e has holds =
    let fits : misfit d.task said.matrices ≡ None = subst (λ t. misfit t said.matrices ≡ None) (sym asks) (free said.matrices) in
    elim (e.ran.complete.done d bytes said e.offered has fits e.steady) [
      | inl end ↦ done (ends d.modulus said s (subst (λ t. EndsWith t d.modulus said s) asks end))
      | inr memory ↦ inr memory
    ]
  where
    -- its answer was `yes`
    yes : (answer : List ℕ) (told : Contents) → VerdictOn (Claim d.modulus told) answer → EndsBy (Claim d.modulus told) Done → answer ≡ codes "yes\n"
    yes answer told (inl valid) end = valid.1
    yes answer told (inr invalid) (inl valid) = absurd (invalid.0 valid.0)
    yes answer told (inr invalid) (inr other) = absurd (let e = other.1 in let none : ⊥ = cc in none)

    done : EndsBy (Claim d.modulus said) s → SaysYes r s
    done (inr invalid) = absurd (invalid.0 holds)
    done (inl valid) =
        let w = wrote r d (subst (Ran r) valid.1 e.ran) e.offered.accepted in
        let h = w.1.has in
        let answered : AnswerTo v d h.said w.0 = subst (λ t. RestsOn t d.modulus → AnswerTo t d h.said w.0) asks h.answers (rests d.modulus) in
        let is = yes w.0 h.said (verdict d h.said w.0 answered) (ends d.modulus h.said Done (subst (λ t. EndsWith t d.modulus h.said Done) asks h.ends)) in
        inl (valid.1, subst (λ t. Gained t r.out r.out_after) is w.1.gained)

pub certified_checked : CertifiedIsChecked
certified_checked first second c d text answer s prime ((kind, certifies), checks, same) a e =
    let p = c.modulus in
    let items = a.closed.0 in
    let rests : RestsOn c.task p = subst (λ t. RestsOn t p) (sym certifies) prime in
    let answers : MatricesAnswer (Certify kind) c (matrices p items) answer = subst (λ t. AnswerTo t c (contents p items) answer) certifies (closed_answer first c text answer a rests) in
    let reads : read p false first.limit 1 (Header ∷ []) (lines text) ≡ Got items [] = subst (λ t. read p false first.limit 1 (wanted t) (lines text) ≡ Got items []) certifies a.closed.1 in
    let range = modulus_in_range first.words c a.accepted in
    let certified = certified_text p first.limit second.limit kind c text answer items refl range.1 reads answers e.fits in
    let of_task : HasContents (asked d.task p second.limit) (whole_input (text ++ answer)) certified.0 =
    subst (λ t. HasContents (asked t p second.limit) (whole_input (text ++ answer)) certified.0) (sym checks) certified.1 in
    says_yes Check IsCertified (λ values. refl) (λ q. tt) (λ e said t h. h) (λ q said t h. h) second d (text ++ answer) s certified.0 checks e (subst (λ q. HasContents (asked d.task q second.limit) (whole_input (text ++ answer)) certified.0) (sym same) of_task)
    (subst (λ q. IsCertified q certified.0) (sym same) certified.2)

pub traced_replayed : TracedIsReplayed
traced_replayed first second c d text answer s (asks, replays, same) a e =
    let p = c.modulus in
    let items = a.closed.0 in
    let rests : RestsOn c.task p = subst (λ t. RestsOn t p) (sym asks) tt in
    let answers : MatricesAnswer Trace c (matrices p items) answer = subst (λ t. AnswerTo t c (contents p items) answer) asks (closed_answer first c text answer a rests) in
    let reads : read p false first.limit 1 (Header ∷ []) (lines text) ≡ Got items [] = subst (λ t. read p false first.limit 1 (wanted t) (lines text) ≡ Got items []) asks a.closed.1 in
    let range = modulus_in_range first.words c a.accepted in
    let traced = traced_text p first.limit second.limit c text answer items refl range.1 reads answers e.fits in
    let of_task : HasContents (asked d.task p second.limit) (whole_input (text ++ answer)) traced.0 =
    subst (λ t. HasContents (asked t p second.limit) (whole_input (text ++ answer)) traced.0) (sym replays) traced.1 in
    says_yes Replay HasLawfulTrace (λ values. refl) (λ q. tt) (λ e said t h. h) (λ q said t h. h) second d (text ++ answer) s traced.0 replays e
    (subst (λ q. HasContents (asked d.task q second.limit) (whole_input (text ++ answer)) traced.0) (sym same) of_task)
    (subst (λ q. HasLawfulTrace q traced.0) (sym same) traced.2)

pub closed_texts : AreClosedTexts
closed_texts = record {
  closed = (_, refl);
  void = (_, refl);
  unclosed = λ h. (let e = h.1 in cc);
  followed = λ h. (let e = h.1 in cc);
}
