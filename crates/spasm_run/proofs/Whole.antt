-- From what was found to what a run did.
use Rattle.std.proofs.Common.{ℕ, Bool, true, false, ◌≡◌, ◌⊎◌, ◌++◌, List, [], ◌∷◌, Result, Ok, Err, refl, sym, ap, ◌∙◌, subst, inl, inr}
use Rattle.std.specs.Result.{IsErrAnd}
use Rattle.std.proofs.lemmas.Result.{err_from_is_err_and}
use Rattle.residue_words.specs.Matrix.{Matrix}
use Rattle.byte_streams.specs.declared.write.WriteFault.{WriteFault}
use Rattle.sms_text.specs.declared.kind.Kind.{Kind}
use Rattle.sms_text.specs.declared.kind.TextError.{TextError}
use Rattle.sms_text.specs.declared.kind.TextError.TheVariants as error
use Rattle.sms_text.specs.Reading.{Draws, IsShort, untouched}
use Rattle.sms_text.specs.Stream.{SinkState, SourceState, Gained, Rose}
use Rattle.sms_text.specs.Text.{FirstFault, Header, Request}
use Rattle.sms_text.specs.Writing.{Writes}
use Rattle.sms_text.proofs.Moving.{draws_none, draws_with}
use Rattle.spasm_run.specs.declared.command_answer.CommandAnswer.{CommandAnswer}
use Rattle.spasm_run.specs.declared.command_answer.CommandAnswer.TheVariants as answer
use Rattle.spasm_run.specs.declared.status.Status.{Status}
use Rattle.spasm_run.specs.declared.status.Status.TheVariants as status
use Rattle.spasm_words.specs.declared.command.Command.{Command}
use Rattle.spasm_words.specs.declared.generator.Generator.{Generator}
use Rattle.spasm_words.specs.declared.command.Task.{Task}
use Rattle.spasm_words.specs.declared.command.Task.TheVariants as task
use Rattle.spasm_run.specs.Answers.{EndsWith, misfit, wanted}
use Rattle.spasm_run.specs.Contents.{Contents, matrices_alone}
use Rattle.spasm_run.specs.Computed.{ComesOf, ComesOfContents, IsFoundIn, WasFound, WasWritten, answer_text, asking, is_unread_in, status_behind}
use Rattle.spasm_run.specs.Input.{HasContents, Input, WasRead, supply_behind}
use Rattle.spasm_run.specs.Ran.{AreTooFew, HasAnswer, Explains, HasNoAnswer, HasWritten, IsAnswered, IsEither, IsMisfit, IsOffered, Ran, Run, request, whole_input}
use Rattle.spasm_run.specs.Status.{is_unread, is_written, status_of}
use Rattle.spasm_words.specs.Words.{Accepted, AreRefused}
use Rattle.spasm_words.proofs.Exact.{one_command}
use Rattle.spasm_run.proofs.Input.{all_read, untaken}
use Rattle.spasm_run.proofs.Outcomes.{Answered, Endings, Faulty, Outcome, Refused, Wanting, answers_whole, contents_of_all, fault_of_all, names_fault, refuses_shape, run_between}

-- what comes of the matrices that were read for a command is found for the words that ask for it
module _ (words : List (List ℕ)) (c : Command) (limit : ℕ) (accepted : Accepted words c) (old new : SourceState) where
  found_in : (said : Contents) (result : Result CommandAnswer Status) (input : Input) → ComesOfContents c said result →
      HasContents (request c limit) input said → IsFoundIn words limit input result
  found_in said (Ok a) input comes reads = (c, accepted, record { said = said; reads = reads; fits = comes.fits; shape = comes.shape; answers = comes.answers; ends = comes.ends })
  found_in said (Err status.Done) input comes reads = absurd comes
  found_in said (Err status.No) input comes reads = absurd comes
  found_in said (Err status.Usage) input comes reads = absurd comes
  found_in said (Err (status.BadText line k)) input comes reads = absurd comes
  found_in said (Err (status.Shape h w)) input comes reads = (c, accepted, record { said = said; reads = reads; refused = comes })
  found_in said (Err status.ReadFault) input comes reads = absurd comes
  found_in said (Err status.WriteFault) input comes reads = absurd comes
  found_in said (Err status.Memory) input comes reads = tt
  found_in said (Err (status.Wide h w)) input comes reads = (c, accepted, record { said = said; reads = reads; refused = comes })

  read_well : (said : Contents) (result : Result CommandAnswer Status) → ComesOfContents c said result → false ≡ is_unread_in result
  read_well said (Ok a) comes = refl
  read_well said (Err status.Done) comes = refl
  read_well said (Err status.No) comes = refl
  read_well said (Err status.Usage) comes = refl
  read_well said (Err (status.BadText line k)) comes = refl
  read_well said (Err (status.Shape h w)) comes = refl
  read_well said (Err status.ReadFault) comes = absurd comes
  read_well said (Err status.WriteFault) comes = refl
  read_well said (Err status.Memory) comes = refl
  read_well said (Err (status.Wide h w)) comes = refl

  few : (bytes : List ℕ) → IsShort (request c limit) bytes → AreTooFew words limit bytes
  few bytes short = (c, accepted, short)

  found_for : (said : Contents) (result : Result CommandAnswer Status) → WasRead (request c limit) (Ok said) old new →
      ComesOfContents c said result → WasFound words limit result old new
  found_for said result was comes =
      let moved = draws_with (IsShort (request c limit)) (AreTooFew words limit) false was.input.bytes (untouched old) (supply_behind was.input new) few was.draws in
      let Moves : Bool → Type 0 = λ x. Draws (AreTooFew words limit) x was.input.bytes (untouched old) (supply_behind was.input new) in record {
        input = was.input;
        draws = subst Moves (read_well said result comes) moved;
        found = found_in said result was.input comes was.says;
      }

  -- the input wasn't read
  unread_for : (e : TextError) → WasRead (request c limit) (Err e) old new → WasFound words limit (Err (status_of e)) old new
  unread_for (error.Bad line k) was = record {
    input = was.input;
    draws = draws_with (IsShort (request c limit)) (AreTooFew words limit) false was.input.bytes (untouched old) (supply_behind was.input new) few was.draws;
    found = (c, accepted, was.says);
  }
  unread_for error.Read was = record {
    input = was.input;
    draws = draws_with (IsShort (request c limit)) (AreTooFew words limit) true was.input.bytes (untouched old) (supply_behind was.input new) few was.draws;
    found = (c, accepted, was.says);
  }
  unread_for error.Memory was = record {
    input = was.input;
    draws = draws_with (IsShort (request c limit)) (AreTooFew words limit) false was.input.bytes (untouched old) (supply_behind was.input new) few was.draws;
    found = tt;
  }

-- what a command of this task asks for
abbrev pub asked : Task → ℕ → ℕ → Request
asked t p limit = record { modulus = p; limit = limit; due = wanted t }

-- what is wanted was read, and something came of it
pub found_given : (words : List (List ℕ)) (c : Command) (t : Task) (p q limit : ℕ) (old new : SourceState) (said : Contents) (result : Result CommandAnswer Status) →
    c.task ≡ t → p ≡ c.modulus → q ≡ p → Accepted words c → WasRead (asked t p limit) (Ok said) old new → ComesOfContents (asking t q c) said result → WasFound words limit result old new
found_given words c t p q limit old new said result asks modulus same accepted was comes =
    let at_task : WasRead (asked c.task p limit) (Ok said) old new = subst (λ t. WasRead (asked t p limit) (Ok said) old new) (sym asks) was in
    let read : WasRead (request c limit) (Ok said) old new = subst (λ p. WasRead (asked c.task p limit) (Ok said) old new) modulus at_task in
    let of_task : ComesOfContents (asking c.task q c) said result = subst (λ t. ComesOfContents (asking t q c) said result) (sym asks) comes in
    found_for words c limit accepted old new said result read (subst (λ q. ComesOfContents (asking c.task q c) said result) (same ∙ modulus) of_task)

-- nothing is read for what is generated
pub found_generated : (words : List (List ℕ)) (c : Command) (g : Generator) (p limit : ℕ) (source : SourceState) (result : Result CommandAnswer Status) →
    c.task ≡ task.Drill g → p ≡ c.modulus → Accepted words c → ComesOf (asking (task.Drill g) p c) [] result → WasFound words limit result source source
found_generated words c g p limit source result asks modulus accepted comes =
    found_given words c (task.Drill g) p p limit source source (matrices_alone []) result asks modulus refl accepted (all_read p limit source) comes

-- they weren't
pub found_unread : (words : List (List ℕ)) (c : Command) (t : Task) (p limit : ℕ) (old new : SourceState) (e : TextError) (result : Result CommandAnswer Status) →
    c.task ≡ t → p ≡ c.modulus → IsErrAnd result (λ s. s ≡ status_of e) → Accepted words c → WasRead (asked t p limit) (Err e) old new → WasFound words limit result old new
found_unread words c t p limit old new e result asks modulus is accepted was =
    let at_task : WasRead (asked c.task p limit) (Err e) old new = subst (λ t. WasRead (asked t p limit) (Err e) old new) (sym asks) was in
    let read : WasRead (request c limit) (Err e) old new = subst (λ p. WasRead (asked c.task p limit) (Err e) old new) modulus at_task in
    let fault = err_from_is_err_and result is in
    let found : WasFound words limit (Err fault.0) old new = subst (λ s. WasFound words limit (Err s) old new) (sym fault.2) (unread_for words c limit accepted old new e read) in
    subst (λ r. WasFound words limit r old new) (sym fault.1) found

-- a task that is none of the others reads one matrix and nothing else
pub reads_one : (t : Task) → ¬ (t ≡ task.Solve) → ¬ (t ≡ task.Check) → ¬ (t ≡ task.Replay) → ¬ (t ≡ task.Grow) → ((g : Generator) → ¬ (t ≡ task.Drill g)) → wanted t ≡ Header ∷ []
reads_one task.Solve solve check replay grow drill = absurd (solve refl)
reads_one task.Check solve check replay grow drill = absurd (check refl)
reads_one task.Replay solve check replay grow drill = absurd (replay refl)
reads_one task.Grow solve check replay grow drill = absurd (grow refl)
reads_one (task.Drill g) solve check replay grow drill = absurd (drill g refl)
reads_one task.Rank solve check replay grow drill = refl
reads_one task.Rref solve check replay grow drill = refl
reads_one task.Kernel solve check replay grow drill = refl
reads_one task.LeftKernel solve check replay grow drill = refl
reads_one task.Inverse solve check replay grow drill = refl
reads_one task.Pivots solve check replay grow drill = refl
reads_one task.Trace solve check replay grow drill = refl
reads_one (task.Certify k) solve check replay grow drill = refl

-- the request of such a task
abbrev pub asked_for_one : ℕ → ℕ → Request
asked_for_one p limit = record { modulus = p; limit = limit; due = Header ∷ [] }

-- its matrix was read, and something came of it
pub found_of_one : (words : List (List ℕ)) (c : Command) (p q limit : ℕ) (old new : SourceState) (value : Matrix) (result : Result CommandAnswer Status) →
    wanted c.task ≡ Header ∷ [] → p ≡ c.modulus → q ≡ p → Accepted words c → WasRead (asked_for_one p limit) (Ok (matrices_alone (value ∷ []))) old new →
    ComesOf (asking c.task q c) (value ∷ []) result → WasFound words limit result old new
found_of_one words c p q limit old new value result one modulus same accepted was comes =
    let read : WasRead (asked c.task p limit) (Ok (matrices_alone (value ∷ []))) old new =
    subst (λ d. WasRead (record { modulus = p; limit = limit; due = d }) (Ok (matrices_alone (value ∷ []))) old new) (sym one) was in
    found_given words c c.task p q limit old new (matrices_alone (value ∷ [])) result refl modulus same accepted read comes

-- it wasn't
pub unread_of_one : (words : List (List ℕ)) (c : Command) (p limit : ℕ) (old new : SourceState) (e : TextError) (result : Result CommandAnswer Status) →
    wanted c.task ≡ Header ∷ [] → p ≡ c.modulus → IsErrAnd result (λ s. s ≡ status_of e) → Accepted words c → WasRead (asked_for_one p limit) (Err e) old new → WasFound words limit result old new
unread_of_one words c p limit old new e result one modulus is accepted was =
    let read : WasRead (asked c.task p limit) (Err e) old new =
    subst (λ d. WasRead (record { modulus = p; limit = limit; due = d }) (Err e) old new) (sym one) was in
    found_unread words c c.task p limit old new e result refl modulus is accepted read

-- nothing was asked of the source where no command is accepted, or memory was wanted for the words
pub found_refused : (words : List (List ℕ)) (limit : ℕ) (source : SourceState) → AreRefused words → WasFound words limit (Err status.Usage) source source
found_refused words limit source refused = record { input = untaken; draws = draws_none (AreTooFew words limit) (untouched source); found = refused }

pub found_memory : (words : List (List ℕ)) (limit : ℕ) (source : SourceState) → WasFound words limit (Err status.Memory) source source
found_memory words limit source = record { input = untaken; draws = draws_none (AreTooFew words limit) (untouched source); found = tt }

-- how a command ends
abbrev endings : Command → Endings Status
endings c = record { memory = status.Memory; bad_text = status.BadText; misfit = misfit c.task; Answers = EndsWith c.task c.modulus }

module _ (r : Run) (input : Input) where
  abbrev Takes : Status → Type 0
  Takes s = Draws (AreTooFew r.words r.limit) (is_unread s) input.bytes (untouched r.source) (supply_behind input r.source_after)

  abbrev OutputFailed : Type 0
  OutputFailed = Rose r.out.faults r.out_after.faults

  module _ (c : Command) (bytes : List ℕ) (offered : IsOffered r c bytes) where
    abbrev ComesTo : Status → Type 0
    ComesTo s = Outcome (endings c) (request c r.limit) OutputFailed bytes s

    all_fault : (s : Status) (d : Command) (line : ℕ) (k : Kind) → Takes s → Accepted r.words d → FirstFault (request d r.limit) input.bytes input.ended line k →
        FirstFault (request c r.limit) bytes true line k
    all_fault s d line k takes accepted fault =
        fault_of_all (request c r.limit) input (AreTooFew r.words r.limit) (is_unread s) r.source r.source_after bytes takes offered.told line k
        (subst (λ d. FirstFault (request d r.limit) input.bytes input.ended line k) (one_command r.words d c accepted offered.accepted) fault)

    all_contents : (s : Status) (said : Contents) → Takes s → HasContents (request c r.limit) input said → HasContents (request c r.limit) (whole_input bytes) said
    all_contents s said takes has = contents_of_all (request c r.limit) input (AreTooFew r.words r.limit) (is_unread s) r.source r.source_after bytes takes offered.told said has

    misfit_outcome : (s : Status) (d : Command) → Takes s → Accepted r.words d → IsMisfit d r.limit input s → ComesTo s
    misfit_outcome s d takes accepted is =
        let at = subst (λ d. IsMisfit d r.limit input s) (one_command r.words d c accepted offered.accepted) is in
        Refused at.said (all_contents s at.said takes at.reads) at.refused

    answered_at : (text : List ℕ) (t : Status) → IsAnswered r.words r.limit input text t → HasAnswer c r.limit input text t
    answered_at text t (d, accepted, has) = subst (λ d. HasAnswer d r.limit input text t) (one_command r.words d c accepted offered.accepted) has

    written_outcome : (s : Status) → Takes s → HasWritten r input s → ComesTo s
    written_outcome s takes (text, answered, gained) =
        let at = answered_at text s answered in Answered at.said (all_contents s at.said takes at.reads) at.fits (inl at.ends)

    failed_outcome : (s t : Status) (text : List ℕ) → Takes s → IsAnswered r.words r.limit input text t → OutputFailed → ComesTo s
    failed_outcome s t text takes answered rose =
        let at = answered_at text t answered in Answered at.said (all_contents s at.said takes at.reads) at.fits (inr rose)

    outcome : (s : Status) → Takes s → Explains r input s → ComesTo s
    outcome status.Done takes cause = written_outcome status.Done takes cause
    outcome status.No takes cause = written_outcome status.No takes cause
    outcome status.Usage takes cause = absurd (cause.0 c offered.accepted)
    outcome (status.BadText line k) takes cause = Faulty line k (all_fault (status.BadText line k) cause.0.0 line k takes cause.0.1 cause.0.2) refl
    outcome (status.Shape h w) takes cause = misfit_outcome (status.Shape h w) cause.0.0 takes cause.0.1 cause.0.2
    outcome status.ReadFault takes cause = absurd (offered.steady takes.source.rose)
    outcome status.WriteFault takes cause = failed_outcome status.WriteFault cause.2 (cause.0 ++ cause.1) takes cause.3 cause.4.rose
    outcome status.Memory takes cause = Wanting refl
    outcome (status.Wide h w) takes cause = misfit_outcome (status.Wide h w) cause.0.0 takes cause.0.1 cause.0.2

  -- words that no command accepts
  refuses_words : (s : Status) → Explains r input s → AreRefused r.words → IsEither status.Usage status.Memory s
  refuses_words status.Done cause refused = absurd (refused cause.1.0 cause.1.1)
  refuses_words status.No cause refused = absurd (refused cause.1.0 cause.1.1)
  refuses_words status.Usage cause refused = inl refl
  refuses_words (status.BadText line k) cause refused = absurd (refused cause.0.0 cause.0.1)
  refuses_words (status.Shape h w) cause refused = absurd (refused cause.0.0 cause.0.1)
  refuses_words status.ReadFault cause refused = absurd (refused cause.0.0 cause.0.1)
  refuses_words status.WriteFault cause refused = absurd (refused cause.3.0 cause.3.1)
  refuses_words status.Memory cause refused = inr refl
  refuses_words (status.Wide h w) cause refused = absurd (refused cause.0.0 cause.0.1)

  -- a run that took this input, and ended for a cause, came to what it had to
  ran : (s : Status) → Takes s → Explains r input s → Ran r s
  ran s takes cause = record {
    input = input;
    draws = takes;
    cause = cause;
    complete = record {
      usage = refuses_words s cause;
      fault = λ c bytes line k offered fault. names_fault (endings c) (request c r.limit) OutputFailed bytes s line k fault (outcome c bytes offered s takes cause);
      shape = λ c bytes t offered is. refuses_shape (endings c) (request c r.limit) OutputFailed bytes s is.said is.reads t is.refused (outcome c bytes offered s takes cause);
      done = λ c bytes said offered has fits calm. answers_whole (endings c) (request c r.limit) OutputFailed bytes s said has fits calm (outcome c bytes offered s takes cause);
    };
  }

-- no answer was found
pub ran_without : (words : List (List ℕ)) (limit : ℕ) (old new : SourceState) (out : SinkState) (s : Status) → WasFound words limit (Err s) old new → Ran (run_between words limit old new out out) s
ran_without words limit old new out s was = ran (run_between words limit old new out out) was.input s was.draws (unwritten s was.found)
  where
    unwritten : (s : Status) → HasNoAnswer words limit was.input s → Explains (run_between words limit old new out out) was.input s
    unwritten status.Done none = absurd none
    unwritten status.No none = absurd none
    unwritten status.Usage none = (none, refl)
    unwritten (status.BadText line k) none = (none, refl)
    unwritten (status.Shape h w) none = (none, refl)
    unwritten status.ReadFault none = (none, refl)
    unwritten status.WriteFault none = absurd none
    unwritten status.Memory none = (none, refl)
    unwritten (status.Wide h w) none = (none, refl)

-- an answer leaves the run with Done or No
ends_done_or_no : (a : CommandAnswer) → (status_behind a ≡ status.Done) ⊎ (status_behind a ≡ status.No)
ends_done_or_no (answer.Rank r) = inl refl
ends_done_or_no (answer.Matrix A) = inl refl
ends_done_or_no (answer.Solution x) = inl refl
ends_done_or_no (answer.Refutation y) = inl refl
ends_done_or_no (answer.Inverse B) = inl refl
ends_done_or_no (answer.Singular v) = inl refl
ends_done_or_no (answer.Pivots pairs) = inl refl
ends_done_or_no (answer.Summary s) = inl refl
ends_done_or_no (answer.Certificate c) = inl refl
ends_done_or_no (answer.Trace t) = inl refl
ends_done_or_no (answer.Verdict true) = inl refl
ends_done_or_no (answer.Verdict false) = inr refl
ends_done_or_no (answer.Script answers) = inl refl

-- the answer was written
written : (r : Run) (input : Input) (a : CommandAnswer) (s : Status) → status_behind a ≡ s → IsAnswered r.words r.limit input (answer_text a) (status_behind a) → Gained (answer_text a) r.out r.out_after →
    HasWritten r input s
written r input a s e found gained = (answer_text a, subst (IsAnswered r.words r.limit input (answer_text a)) e found, gained)

ran_written : (words : List (List ℕ)) (limit : ℕ) (old new : SourceState) (out out' : SinkState) (a : CommandAnswer) → WasFound words limit (Ok a) old new → Gained (answer_text a) out out' →
    (status_behind a ≡ status.Done) ⊎ (status_behind a ≡ status.No) → Ran (run_between words limit old new out out') (status_behind a)
ran_written words limit old new out out' a was gained (inl e) =
    let r = run_between words limit old new out out' in
    subst (Ran r) (sym e) (ran r was.input status.Done was.draws (written r was.input a status.Done e was.found gained))
ran_written words limit old new out out' a was gained (inr e) =
    let r = run_between words limit old new out out' in
    subst (Ran r) (sym e) (ran r was.input status.No was.draws (written r was.input a status.No e was.found gained))

-- an answer was found and written, or a part of it
pub ran_done : (words : List (List ℕ)) (limit : ℕ) (old new : SourceState) (out out' : SinkState) (a : CommandAnswer) (s : Status) → s ≡ status_behind a → WasFound words limit (Ok a) old new →
    Gained (answer_text a) out out' → Ran (run_between words limit old new out out') s
ran_done words limit old new out out' a s is was gained =
    subst (Ran (run_between words limit old new out out')) (sym is) (ran_written words limit old new out out' a was gained (ends_done_or_no a))

pub ran_failed : (words : List (List ℕ)) (limit : ℕ) (old new : SourceState) (out out' : SinkState) (a : CommandAnswer) (fault : WriteFault) → WasFound words limit (Ok a) old new →
    Writes (Err fault) (answer_text a) out out' → Ran (run_between words limit old new out out') status.WriteFault
ran_failed words limit old new out out' a fault was (part, rest, cut, gained) =
    ran (run_between words limit old new out out') was.input status.WriteFault was.draws
    (part, rest, status_behind a, subst (λ t. IsAnswered words limit was.input t (status_behind a)) cut was.found, gained)

-- no run whose answer was written has a status of one that wrote nothing
pub behind_is_written : (a : CommandAnswer) → is_written (status_behind a) ≡ true
behind_is_written a = elim (ends_done_or_no a) [ inl e ↦ ap is_written e | inr e ↦ ap is_written e ]

-- what was found and how it was written tell what the run did
pub ran_of : (words : List (List ℕ)) (limit : ℕ) (old new : SourceState) (out out' : SinkState) (found : Result CommandAnswer Status) (s : Status) → WasFound words limit found old new →
    WasWritten found s out out' → Ran (run_between words limit old new out out') s
ran_of words limit old new out out' (Ok a) s was written = elim written [
  | inl w ↦ ran_done words limit old new out out' a s w.0 was w.1
  | inr w ↦ subst (Ran (run_between words limit old new out out')) (sym w.1) (ran_failed words limit old new out out' a w.0 was w.2)
]
ran_of words limit old new out out' (Err e) s was written = rw written.0 (rw written.1 (ran_without words limit old new out e was))

-- a whole text, and a first part of it, are what an answer that was found has written
pub whole_written : {found : Result CommandAnswer Status} {a : CommandAnswer} {s : Status} (old new : SinkState) → found ≡ Ok a → s ≡ status_behind a → Writes (Ok tt) (answer_text a) old new → WasWritten found s old new
whole_written {found} {a} {s} old new is ends writes = subst (λ f. WasWritten f s old new) (sym is) (inl (ends, writes))

pub part_written : {found : Result CommandAnswer Status} {a : CommandAnswer} {fault : WriteFault} (old new : SinkState) → found ≡ Ok a → Writes (Err fault) (answer_text a) old new → WasWritten found status.WriteFault old new
part_written {found} {a} {fault} old new is writes = subst (λ f. WasWritten f status.WriteFault old new) (sym is) (inr (fault, refl, writes))
