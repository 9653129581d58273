-- Pieces added one after another to bytes that wait for a whole block.
use Rattle.std.proofs.Common.{◌≡◌, ℕ, List, [], ◌++◌, refl, sym, ap, ◌∙◌, append_assoc, append-nil}
use Rattle.std.specs.Prelude.{Result, Ok, Err}
use Rattle.byte_streams.specs.declared.write.WriteFault.{WriteFault}
use Rattle.byte_streams.specs.Stream.{SinkState, behind, Gained}
use Rattle.byte_streams.specs.Writing.{Writes, Adds, OutputState, output}
use Rattle.byte_streams.proofs.Puts.{behind_behind, behind_nothing, failed_on}

-- of a text to be written everything before the rest was added to what was waiting, and the first of it went to the sink
pub record IsAdded (text rest : List ℕ) (old new : OutputState) : Type 0 where
  pub done : List ℕ
  pub sent : List ℕ
  pub cut : text ≡ done ++ rest
  pub waits : old.waiting ++ done ≡ sent ++ new.waiting
  pub holds : Gained sent old.sink new.sink

-- nothing was added yet
pub added_nothing : (text waiting waiting' : List ℕ) (sink : SinkState) → waiting' ≡ waiting → IsAdded text text (output waiting sink) (output waiting' sink)
added_nothing text waiting waiting' sink e = record {
  done = [];
  sent = [];
  cut = refl;
  waits = append-nil waiting ∙ sym e;
  holds = behind_nothing sink;
}

-- one more piece was added
pub added_more : (text rest piece rest' : List ℕ) (old now new : OutputState) → rest ≡ piece ++ rest' → IsAdded text rest old now → Adds (Ok tt) piece now new → IsAdded text rest' old new
added_more text rest piece rest' old now new next is (sent, cut, holds) = record {
  done = is.done ++ piece;
  sent = is.sent ++ sent;
  cut = is.cut ∙ ap (λ r. is.done ++ r) next ∙ sym (append_assoc is.done piece rest');
  waits = sym (append_assoc old.waiting is.done piece) ∙ ap (λ x. x ++ piece) is.waits ∙ append_assoc is.sent now.waiting piece
      ∙ ap (λ x. is.sent ++ x) cut ∙ sym (append_assoc is.sent sent new.waiting);
  holds = holds ∙ ap (λ x. behind x sent) is.holds ∙ behind_behind old.sink is.sent sent;
}

-- a piece was not added: what the sink took is a first part of what was waiting and the whole text
pub added_fault : (text rest piece rest' : List ℕ) (fault : WriteFault) (old now : OutputState) (new : SinkState) → rest ≡ piece ++ rest'
    → IsAdded text rest old now → Writes (Err fault) (now.waiting ++ piece) now.sink new → Writes (Err fault) (old.waiting ++ text) old.sink new
added_fault text rest piece rest' fault old now new next is (part, left, cut, failed) = (
  is.sent ++ part,
  left ++ rest',
  ap (λ x. old.waiting ++ x) (is.cut ∙ ap (λ r. is.done ++ r) next) ∙ sym (append_assoc old.waiting is.done (piece ++ rest')) ∙ ap (λ x. x ++ (piece ++ rest')) is.waits
      ∙ append_assoc is.sent now.waiting (piece ++ rest') ∙ ap (λ x. is.sent ++ x) (sym (append_assoc now.waiting piece rest') ∙ ap (λ x. x ++ rest') cut ∙ append_assoc part left rest')
      ∙ sym (append_assoc is.sent part (left ++ rest')),
  failed_on is.sent part old.sink now.sink new is.holds failed,
)

-- the whole text was added
pub added_all : (text rest : List ℕ) (old new : OutputState) → rest ≡ [] → IsAdded text rest old new → Adds (Ok tt) text old new
added_all text rest old new none is =
    (is.sent, ap (λ x. old.waiting ++ x) (is.cut ∙ ap (λ r. is.done ++ r) none ∙ append-nil is.done) ∙ is.waits, is.holds)

-- the last piece was added, or wasn't
pub added_last : (text piece : List ℕ) (result : Result (Unit {0}) WriteFault) (old now new : OutputState) → IsAdded text piece old now → Adds result piece now new → Adds result text old new
added_last text piece (Ok done) old now new is h = added_all text [] old new refl (added_more text piece piece [] old now new (sym (append-nil piece)) is h)
added_last text piece (Err fault) old now new is h = added_fault text piece piece [] fault old now new.sink (sym (append-nil piece)) is h

-- the whole text was added to nothing, and then sent
pub added_sent : (text rest : List ℕ) (result : Result (Unit {0}) WriteFault) (start : SinkState) (now : OutputState) (new : SinkState) → rest ≡ []
    → IsAdded text rest (output [] start) now → Writes result now.waiting now.sink new → Writes result text start new
added_sent text rest (Ok done) start now new none is wrote =
    let all : text ≡ is.sent ++ now.waiting = is.cut ∙ ap (λ r. is.done ++ r) none ∙ append-nil is.done ∙ is.waits in
    wrote ∙ ap (λ x. behind x now.waiting) is.holds ∙ behind_behind start is.sent now.waiting ∙ ap (behind start) (sym all)
added_sent text rest (Err fault) start now new none is (part, left, cut, failed) =
    let all : text ≡ is.sent ++ now.waiting = is.cut ∙ ap (λ r. is.done ++ r) none ∙ append-nil is.done ∙ is.waits in (
      is.sent ++ part,
      left,
      all ∙ ap (λ x. is.sent ++ x) cut ∙ sym (append_assoc is.sent part left),
      failed_on is.sent part start now.sink new is.holds failed,
    )
