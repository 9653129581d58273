-- From what was found to what a batch did.
use Rattle.std.proofs.Common.{ℕ, Bool, true, false, ◌≡◌, ◌⊎◌, ◌+◌, ◌++◌, List, Some, Result, Ok, Err, Vec, refl, sym, subst, inl, inr}
use Rattle.std.specs.declared.alloc.Global.{Global}
use Rattle.std.specs.Result.{IsErrAnd}
use Rattle.std.proofs.lemmas.Result.{err_from_is_err_and}
use Rattle.residue_words.specs.Matrix.{Matrix}
use Rattle.byte_streams.specs.declared.write.WriteFault.{WriteFault}
use Rattle.sms_text.specs.declared.kind.Kind.{Kind}
use Rattle.sms_text.specs.declared.kind.TextError.{TextError}
use Rattle.sms_text.specs.declared.kind.TextError.TheVariants as error
use Rattle.sms_text.specs.Reading.{Draws, IsShort, untouched}
use Rattle.sms_text.specs.Stream.{SinkState, SourceState, Gained, Rose}
use Rattle.sms_text.specs.Text.{FirstFault}
use Rattle.sms_text.specs.Writing.{Writes}
use Rattle.sms_text.proofs.Moving.{draws_none, draws_with}
use Rattle.kernel_solve.specs.declared.prepared.Reply.{Reply}
use Rattle.spasm_run.specs.Contents.{Contents, matrices_alone}
use Rattle.spasm_run.specs.Input.{HasContents, Input, WasRead, supply_behind}
use Rattle.spasm_run.specs.Ran.{IsEither, Run, whole_input}
use Rattle.spasm_run.proofs.Input.{from_start, untaken}
use Rattle.spasm_run.proofs.Outcomes.{Answered, Endings, Faulty, Outcome, Refused, Wanting, answers_whole, contents_of_all, fault_of_all, names_fault, refuses_shape, run_between}
use Rattle.batch_solve.specs.declared.batch_status.BatchStatus.{BatchStatus}
use Rattle.batch_solve.specs.declared.batch_status.BatchStatus.TheVariants as status
use Rattle.batch_solve.specs.declared.batch_words.BatchCommand.{BatchCommand}
use Rattle.batch_solve.specs.BatchAnswers.{batch_misfit}
use Rattle.batch_solve.specs.BatchFound.{AreFoundIn, ComesOfBatch, WereFound, WereWritten, is_batch_unread, replies_text}
use Rattle.batch_solve.specs.BatchRan.{AreTooFewForBatch, BatchRan, ExplainsBatch, HasBatchAnswer, HasNoBatchAnswer, IsBatchAnswered, IsBatchMisfit, IsBatchOffered, batch_request}
use Rattle.batch_solve.specs.BatchStatus.{batch_status_of, is_read_fault}
use Rattle.batch_solve.specs.BatchWords.{AcceptedBatch, AskForNoBatch}
use Rattle.batch_solve.proofs.BatchOptions.{one_batch}
use Rattle.batch_solve.proofs.BatchReading.{texts_due}
use Rattle.batch_solve.proofs.BatchShapes.{IsRefusal, misfit_refused}

abbrev Replies : Type 0
Replies = Result (Vec Reply Global) BatchStatus

-- what comes of the matrices that were read for a batch is found for the words that ask for it
module _ (words : List (List ℕ)) (c : BatchCommand) (limit : ℕ) (accepted : AcceptedBatch words c) (old new : SourceState) where
  found_in : (values : List Matrix) (result : Replies) (input : Input) → ComesOfBatch c.modulus values result →
      HasContents (batch_request c limit) input (matrices_alone values) → AreFoundIn words limit input result
  found_in values (Ok replies) input comes reads = (c, accepted, record { said = matrices_alone values; reads = reads; fits = comes.fits; answers = comes.answers })
  found_in values (Err status.Done) input comes reads = absurd comes
  found_in values (Err status.Usage) input comes reads = absurd comes
  found_in values (Err (status.BadText line k)) input comes reads = absurd comes
  found_in values (Err (status.Shape q h w)) input comes reads = (c, accepted, record { said = matrices_alone values; reads = reads; refused = comes })
  found_in values (Err status.ReadFault) input comes reads = absurd comes
  found_in values (Err status.WriteFault) input comes reads = absurd comes
  found_in values (Err status.Memory) input comes reads = tt
  found_in values (Err (status.Wide h w)) input comes reads = (c, accepted, record { said = matrices_alone values; reads = reads; refused = comes })

  read_well : (values : List Matrix) (result : Replies) → ComesOfBatch c.modulus values result → false ≡ is_batch_unread result
  read_well values (Ok replies) comes = refl
  read_well values (Err status.Done) comes = refl
  read_well values (Err status.Usage) comes = refl
  read_well values (Err (status.BadText line k)) comes = refl
  read_well values (Err (status.Shape q h w)) comes = refl
  read_well values (Err status.ReadFault) comes = absurd comes
  read_well values (Err status.WriteFault) comes = refl
  read_well values (Err status.Memory) comes = refl
  read_well values (Err (status.Wide h w)) comes = refl

  few : (bytes : List ℕ) → IsShort (batch_request c limit) bytes → AreTooFewForBatch words limit bytes
  few bytes short = (c, accepted, short)

  -- the draws of a reading are those of the batch
  abbrev Moves : Input → Bool → Type 0
  Moves input x = Draws (AreTooFewForBatch words limit) x input.bytes (untouched old) (supply_behind input new)

  moved : (x : Bool) (input : Input) → Draws (IsShort (batch_request c limit)) x input.bytes (untouched old) (supply_behind input new) → Moves input x
  moved x input draws = draws_with (IsShort (batch_request c limit)) (AreTooFewForBatch words limit) x input.bytes (untouched old) (supply_behind input new) few draws

  batch_found : (values : List Matrix) (result : Replies) → WasRead (batch_request c limit) (Ok (matrices_alone values)) old new →
      ComesOfBatch c.modulus values result → WereFound words limit result old new
  batch_found values result was comes = record {
    input = was.input;
    draws = subst (Moves was.input) (read_well values result comes) (moved false was.input was.draws);
    found = found_in values result was.input comes was.says;
  }

  -- the input wasn't read
  batch_unread : (e : TextError) → WasRead (batch_request c limit) (Err e) old new → WereFound words limit (Err (batch_status_of e)) old new
  batch_unread (error.Bad line k) was = record { input = was.input; draws = moved false was.input was.draws; found = (c, accepted, was.says) }
  batch_unread error.Read was = record { input = was.input; draws = moved true was.input was.draws; found = (c, accepted, was.says) }
  batch_unread error.Memory was = record { input = was.input; draws = moved false was.input was.draws; found = tt }

-- what doesn't fit is refused by its shape
pub refused_comes : (p : ℕ) (values : List Matrix) (s : BatchStatus) → batch_misfit values ≡ Some s → ComesOfBatch p values (Err s)
refused_comes p values s e = go s e (misfit_refused values s e)
  where
    go : (s : BatchStatus) → batch_misfit values ≡ Some s → IsRefusal s → ComesOfBatch p values (Err s)
    go status.Done e is = absurd is
    go status.Usage e is = absurd is
    go (status.BadText line k) e is = absurd is
    go (status.Shape q h w) e is = e
    go status.ReadFault e is = absurd is
    go status.WriteFault e is = absurd is
    go status.Memory e is = absurd is
    go (status.Wide h w) e is = e

-- the texts were read, modulo a number that is the batch's, and something came of them
pub found_read : (words : List (List ℕ)) (c : BatchCommand) (p limit : ℕ) (old new : SourceState) (values : List Matrix) (result : Replies) →
    p ≡ c.modulus → AcceptedBatch words c → WasRead (from_start p limit (texts_due (c.count + 1))) (Ok (matrices_alone values)) old new → ComesOfBatch p values result →
    WereFound words limit result old new
found_read words c p limit old new values result modulus accepted was comes =
    let read : WasRead (batch_request c limit) (Ok (matrices_alone values)) old new = subst (λ q. WasRead (from_start q limit (texts_due (c.count + 1))) (Ok (matrices_alone values)) old new) modulus was in
    batch_found words c limit accepted old new values result read (subst (λ q. ComesOfBatch q values result) modulus comes)

-- they weren't
pub found_unread : (words : List (List ℕ)) (c : BatchCommand) (p limit : ℕ) (old new : SourceState) (e : TextError) (result : Replies) →
    p ≡ c.modulus → IsErrAnd result (λ s. s ≡ batch_status_of e) → AcceptedBatch words c → WasRead (from_start p limit (texts_due (c.count + 1))) (Err e) old new →
    WereFound words limit result old new
found_unread words c p limit old new e result modulus is accepted was =
    let read : WasRead (batch_request c limit) (Err e) old new = subst (λ q. WasRead (from_start q limit (texts_due (c.count + 1))) (Err e) old new) modulus was in
    let fault = err_from_is_err_and result is in
    let found : WereFound words limit (Err fault.0) old new = subst (λ s. WereFound words limit (Err s) old new) (sym fault.2) (batch_unread words c limit accepted old new e read) in
    subst (λ r. WereFound words limit r old new) (sym fault.1) found

-- nothing was asked of the source where no command is accepted, or memory was wanted for the words
pub found_refused : (words : List (List ℕ)) (limit : ℕ) (source : SourceState) → AskForNoBatch words → WereFound words limit (Err status.Usage) source source
found_refused words limit source refused = record { input = untaken; draws = draws_none (AreTooFewForBatch words limit) (untouched source); found = refused }

pub found_memory : (words : List (List ℕ)) (limit : ℕ) (source : SourceState) → WereFound words limit (Err status.Memory) source source
found_memory words limit source = record { input = untaken; draws = draws_none (AreTooFewForBatch words limit) (untouched source); found = tt }

-- how a batch ends
abbrev endings : Endings BatchStatus
endings = record { memory = status.Memory; bad_text = status.BadText; misfit = batch_misfit; Answers = λ said s. s ≡ status.Done }

module _ (r : Run) (input : Input) where
  abbrev Takes : BatchStatus → Type 0
  Takes s = Draws (AreTooFewForBatch r.words r.limit) (is_read_fault s) input.bytes (untouched r.source) (supply_behind input r.source_after)

  abbrev OutputFailed : Type 0
  OutputFailed = Rose r.out.faults r.out_after.faults

  module _ (c : BatchCommand) (bytes : List ℕ) (offered : IsBatchOffered r c bytes) where
    abbrev ComesTo : BatchStatus → Type 0
    ComesTo s = Outcome endings (batch_request c r.limit) OutputFailed bytes s

    all_fault : (s : BatchStatus) (d : BatchCommand) (line : ℕ) (k : Kind) → Takes s → AcceptedBatch r.words d → FirstFault (batch_request d r.limit) input.bytes input.ended line k →
        FirstFault (batch_request c r.limit) bytes true line k
    all_fault s d line k takes accepted fault =
        fault_of_all (batch_request c r.limit) input (AreTooFewForBatch r.words r.limit) (is_read_fault s) r.source r.source_after bytes takes offered.told line k
        (subst (λ d. FirstFault (batch_request d r.limit) input.bytes input.ended line k) (one_batch r.words d c accepted offered.accepted) fault)

    all_contents : (s : BatchStatus) (said : Contents) → Takes s → HasContents (batch_request c r.limit) input said → HasContents (batch_request c r.limit) (whole_input bytes) said
    all_contents s said takes has = contents_of_all (batch_request c r.limit) input (AreTooFewForBatch r.words r.limit) (is_read_fault s) r.source r.source_after bytes takes offered.told said has

    misfit_outcome : (s : BatchStatus) (d : BatchCommand) → Takes s → AcceptedBatch r.words d → IsBatchMisfit d r.limit input s → ComesTo s
    misfit_outcome s d takes accepted is =
        let at = subst (λ d. IsBatchMisfit d r.limit input s) (one_batch r.words d c accepted offered.accepted) is in
        Refused at.said (all_contents s at.said takes at.reads) at.refused

    answered_outcome : (s : BatchStatus) (text : List ℕ) → Takes s → IsBatchAnswered r.words r.limit input text → (s ≡ status.Done) ⊎ OutputFailed → ComesTo s
    answered_outcome s text takes (d, accepted, has) ends =
        let at = subst (λ d. HasBatchAnswer d r.limit input text) (one_batch r.words d c accepted offered.accepted) has in
        Answered at.said (all_contents s at.said takes at.reads) at.fits ends

    outcome : (s : BatchStatus) → Takes s → ExplainsBatch r input s → ComesTo s
    outcome status.Done takes cause = answered_outcome status.Done cause.0 takes cause.1 (inl refl)
    outcome status.Usage takes cause = absurd (cause.0 c offered.accepted)
    outcome (status.BadText line k) takes cause = Faulty line k (all_fault (status.BadText line k) cause.0.0 line k takes cause.0.1 cause.0.2) refl
    outcome (status.Shape q h w) takes cause = misfit_outcome (status.Shape q h w) cause.0.0 takes cause.0.1 cause.0.2
    outcome status.ReadFault takes cause = absurd (offered.steady takes.source.rose)
    outcome status.WriteFault takes cause = answered_outcome status.WriteFault (cause.0 ++ cause.1) takes cause.2 (inr cause.3.rose)
    outcome status.Memory takes cause = Wanting refl
    outcome (status.Wide h w) takes cause = misfit_outcome (status.Wide h w) cause.0.0 takes cause.0.1 cause.0.2

  -- words that ask for no batch
  refuses_words : (s : BatchStatus) → ExplainsBatch r input s → AskForNoBatch r.words → IsEither status.Usage status.Memory s
  refuses_words status.Done cause refused = absurd (refused cause.1.0 cause.1.1)
  refuses_words status.Usage cause refused = inl refl
  refuses_words (status.BadText line k) cause refused = absurd (refused cause.0.0 cause.0.1)
  refuses_words (status.Shape q h w) cause refused = absurd (refused cause.0.0 cause.0.1)
  refuses_words status.ReadFault cause refused = absurd (refused cause.0.0 cause.0.1)
  refuses_words status.WriteFault cause refused = absurd (refused cause.2.0 cause.2.1)
  refuses_words status.Memory cause refused = inr refl
  refuses_words (status.Wide h w) cause refused = absurd (refused cause.0.0 cause.0.1)

  -- a run that took this input, and ended for a cause, came to what it had to
  ran : (s : BatchStatus) → Takes s → ExplainsBatch r input s → BatchRan r s
  ran s takes cause = record {
    input = input;
    draws = takes;
    cause = cause;
    complete = record {
      usage = refuses_words s cause;
      fault = λ c bytes line k offered fault. names_fault endings (batch_request c r.limit) OutputFailed bytes s line k fault (outcome c bytes offered s takes cause);
      shape = λ c bytes t offered is. refuses_shape endings (batch_request c r.limit) OutputFailed bytes s is.said is.reads t is.refused (outcome c bytes offered s takes cause);
      done = λ c bytes said offered has fits calm. answers_whole endings (batch_request c r.limit) OutputFailed bytes s said has fits calm (outcome c bytes offered s takes cause);
    };
  }

-- no answer was found
pub ran_without : (words : List (List ℕ)) (limit : ℕ) (old new : SourceState) (out : SinkState) (s : BatchStatus) → WereFound words limit (Err s) old new → BatchRan (run_between words limit old new out out) s
ran_without words limit old new out s was = ran (run_between words limit old new out out) was.input s was.draws (unwritten s was.found)
  where
    unwritten : (s : BatchStatus) → HasNoBatchAnswer words limit was.input s → ExplainsBatch (run_between words limit old new out out) was.input s
    unwritten status.Done none = absurd none
    unwritten status.Usage none = (none, refl)
    unwritten (status.BadText line k) none = (none, refl)
    unwritten (status.Shape q h w) none = (none, refl)
    unwritten status.ReadFault none = (none, refl)
    unwritten status.WriteFault none = absurd none
    unwritten status.Memory none = (none, refl)
    unwritten (status.Wide h w) none = (none, refl)

-- the answer was found and written, or a part of it
pub ran_done : (words : List (List ℕ)) (limit : ℕ) (old new : SourceState) (out out' : SinkState) (replies : Vec Reply Global) → WereFound words limit (Ok replies) old new →
    Gained (replies_text replies.items) out out' → BatchRan (run_between words limit old new out out') status.Done
ran_done words limit old new out out' replies was gained =
    ran (run_between words limit old new out out') was.input status.Done was.draws (replies_text replies.items, was.found, gained)

pub ran_failed : (words : List (List ℕ)) (limit : ℕ) (old new : SourceState) (out out' : SinkState) (replies : Vec Reply Global) (fault : WriteFault) → WereFound words limit (Ok replies) old new →
    Writes (Err fault) (replies_text replies.items) out out' → BatchRan (run_between words limit old new out out') status.WriteFault
ran_failed words limit old new out out' replies fault was (part, rest, cut, gained) =
    ran (run_between words limit old new out out') was.input status.WriteFault was.draws (part, rest, subst (IsBatchAnswered words limit was.input) cut was.found, gained)

-- what was found and how it was written tell what the batch did
pub ran_of : (words : List (List ℕ)) (limit : ℕ) (old new : SourceState) (out out' : SinkState) (found : Replies) (s : BatchStatus) → WereFound words limit found old new →
    WereWritten found s out out' → BatchRan (run_between words limit old new out out') s
ran_of words limit old new out out' (Ok replies) s was written = elim written [
  | inl w ↦ subst (BatchRan (run_between words limit old new out out')) (sym w.0) (ran_done words limit old new out out' replies was w.1)
  | inr w ↦ subst (BatchRan (run_between words limit old new out out')) (sym w.1) (ran_failed words limit old new out out' replies w.0 was w.2)
]
ran_of words limit old new out out' (Err e) s was written = rw written.0 (rw written.1 (ran_without words limit old new out e was))

-- a whole text, and a first part of it, are what replies that were found have written
pub whole_written : {found : Replies} {replies : Vec Reply Global} (old new : SinkState) → found ≡ Ok replies → Writes (Ok tt) (replies_text replies.items) old new → WereWritten found status.Done old new
whole_written {found} {replies} old new is writes = subst (λ f. WereWritten f status.Done old new) (sym is) (inl (refl, writes))

pub part_written : {found : Replies} {replies : Vec Reply Global} {fault : WriteFault} (old new : SinkState) → found ≡ Ok replies → Writes (Err fault) (replies_text replies.items) old new → WereWritten found status.WriteFault old new
part_written {found} {replies} {fault} old new is writes = subst (λ f. WereWritten f status.WriteFault old new) (sym is) (inr (fault, refl, writes))
