-- What runs come to on a whole input, whatever their statuses are: those of a command, and of a batch.
use Rattle.std.proofs.Common.{ℕ, Bool, true, ◌≡◌, ◌⊎◌, List, Option, None, Some, sym, ap, ap₂, ◌∙◌, subst, inl, inr}
use Rattle.residue_words.specs.Matrix.{Matrix}
use Rattle.sms_text.specs.declared.kind.Kind.{Kind}
use Rattle.sms_text.specs.Reading.{Draws, untouched}
use Rattle.sms_text.specs.Stream.{SinkState, SourceState}
use Rattle.sms_text.specs.Text.{Got, Fault, FirstFault, Request}
use Rattle.spasm_run.specs.Contents.{Contents, contents}
use Rattle.spasm_run.specs.Input.{HasContents, Input, supply_behind}
use Rattle.spasm_run.specs.Ran.{Run, whole_input}
use Rattle.spasm_run.proofs.Stays.{told_of_all}

abbrev pub run_between : List (List ℕ) → ℕ → SourceState → SourceState → SinkState → SinkState → Run
run_between words limit old new out out' = record { words = words; limit = limit; source = old; source_after = new; out = out; out_after = out' }

-- an input is read as one thing, and then it has no fault
pub one_reading : (q : Request) (input : Input) (said said' : Contents) → HasContents q input said → HasContents q input said' → said ≡ said'
one_reading q input said said' a b =
    let both : Got a.items a.rest ≡ Got b.items b.rest = sym a.reads ∙ b.reads in
    let same : a.items ≡ b.items = cc in
    sym a.are ∙ ap (contents q.modulus) same ∙ b.are

no_fault : (q : Request) (input : Input) (said : Contents) (line : ℕ) (k : Kind) → HasContents q input said → FirstFault q input.bytes input.ended line k → ⊥
no_fault q input said line k a fault =
    let both : Got a.items a.rest ≡ Fault line k = sym a.reads ∙ fault in
    cc

-- what an input says, all bytes say that were left in the source
module _ (q : Request) (input : Input) (Few : List ℕ → Type 0) (failed : Bool) (old new : SourceState) (bytes : List ℕ) (draws : Draws Few failed input.bytes (untouched old) (supply_behind input new)) (told : old.left ≡ Some bytes) where
  pub fault_of_all : (line : ℕ) (k : Kind) → FirstFault q input.bytes input.ended line k → FirstFault q bytes true line k
  fault_of_all line k fault = told_of_all q input Few failed old new bytes (Fault line k) draws told fault

  pub contents_of_all : (said : Contents) → HasContents q input said → HasContents q (whole_input bytes) said
  contents_of_all said has =
      let all = told_of_all q input Few failed old new bytes (Got has.items has.rest) draws told has.reads in record { items = has.items; rest = all.0; reads = all.1; are = has.are }

-- how runs end: where memory is wanted, at a faulty line, with matrices of wrong shapes, and with an answer to what was read
pub record Endings (S : Type 0) : Type 1 where
  pub memory : S
  pub bad_text : ℕ → Kind → S
  pub misfit : List Matrix → Option S
  pub Answers : Contents → S → Type 0

-- what a run came to that had these bytes left, where its source did not fail
pub data Outcome {S : Type 0} (e : Endings S) (q : Request) (OutputFailed : Type 0) (bytes : List ℕ) (s : S) : Type 0 where
  Wanting : s ≡ e.memory → Outcome e q OutputFailed bytes s
  Faulty : (line : ℕ) (k : Kind) → FirstFault q bytes true line k → s ≡ e.bad_text line k → Outcome e q OutputFailed bytes s
  Refused : (said : Contents) → HasContents q (whole_input bytes) said → e.misfit said.matrices ≡ Some s → Outcome e q OutputFailed bytes s
  Answered : (said : Contents) → HasContents q (whole_input bytes) said → e.misfit said.matrices ≡ None → e.Answers said s ⊎ OutputFailed → Outcome e q OutputFailed bytes s

module _ {S : Type 0} (e : Endings S) (q : Request) (OutputFailed : Type 0) (bytes : List ℕ) (s : S) where
  -- a fault is named
  pub names_fault : (line : ℕ) (k : Kind) → FirstFault q bytes true line k → Outcome e q OutputFailed bytes s → (s ≡ e.bad_text line k) ⊎ (s ≡ e.memory)
  names_fault line k fault (Wanting memory) = inr memory
  names_fault line k fault (Faulty line' k' fault' is) =
      let both : Fault line' k' ≡ Fault line k = sym fault' ∙ fault in
      let lines : line' ≡ line = cc in
      let kinds : k' ≡ k = cc in
      inl (is ∙ ap₂ e.bad_text lines kinds)
  names_fault line k fault (Refused said has refused) = absurd (no_fault q (whole_input bytes) said line k has fault)
  names_fault line k fault (Answered said has fits ends) = absurd (no_fault q (whole_input bytes) said line k has fault)

  module _ (said : Contents) (has : HasContents q (whole_input bytes) said) where
    -- the matrices of one reading are one
    same_misfit : (said' : Contents) → HasContents q (whole_input bytes) said' → e.misfit said'.matrices ≡ e.misfit said.matrices
    same_misfit said' has' = ap (λ (x : Contents). e.misfit x.matrices) (one_reading q (whole_input bytes) said' said has' has)

    -- shapes are refused
    pub refuses_shape : (t : S) → e.misfit said.matrices ≡ Some t → Outcome e q OutputFailed bytes s → (s ≡ t) ⊎ (s ≡ e.memory)
    refuses_shape t refused (Wanting memory) = inr memory
    refuses_shape t refused (Faulty line k fault is) = absurd (no_fault q (whole_input bytes) said line k has fault)
    refuses_shape t refused (Refused said' has' refused') =
        let both : Some s ≡ Some t = sym refused' ∙ same_misfit said' has' ∙ refused in
        let one : s ≡ t = cc in
        inl one
    refuses_shape t refused (Answered said' has' fits ends) =
        let both : None ≡ Some t = sym fits ∙ same_misfit said' has' ∙ refused in
        absurd (let none : ⊥ = cc in none)

    -- and what fits is answered
    pub answers_whole : e.misfit said.matrices ≡ None → (OutputFailed → ⊥) → Outcome e q OutputFailed bytes s → e.Answers said s ⊎ (s ≡ e.memory)
    answers_whole fits calm (Wanting memory) = inr memory
    answers_whole fits calm (Faulty line k fault is) = absurd (no_fault q (whole_input bytes) said line k has fault)
    answers_whole fits calm (Refused said' has' refused) =
        let both : Some s ≡ None = sym refused ∙ same_misfit said' has' ∙ fits in
        absurd (let none : ⊥ = cc in none)
    answers_whole fits calm (Answered said' has' fits' (inl ends)) = inl (subst (λ x. e.Answers x s) (one_reading q (whole_input bytes) said' said has' has) ends)
    answers_whole fits calm (Answered said' has' fits' (inr failed)) = absurd (calm failed)
