-- What a sink holds after puts.
use Rattle.std.proofs.Common.{◌≡◌, ℕ, ◌+◌, List, [], ◌++◌, take, drop, refl, sym, ap, subst, ◌∙◌, append_assoc, append-nil}
use Rattle.std.proofs.Math.Seq.{take-add}
use Rattle.std.proofs.lemmas.List.{take-append-drop}
use Rattle.std.specs.Prelude.{Option, None, Some, Err}
use Rattle.byte_streams.specs.declared.write.WriteFault.{WriteFault}
use Rattle.byte_streams.specs.Stream.{SinkState, at_back, behind, Rose, Gained, GainedAndFailed}
use Rattle.byte_streams.specs.Writing.{Writes}

-- what is put behind bytes that were put before is put behind them all
at_back_twice : (held : Option (List ℕ)) (a b : List ℕ) → at_back (at_back held a) b ≡ at_back held (a ++ b)
at_back_twice None a b = refl
at_back_twice (Some held) a b = ap Some (append_assoc held a b)

pub behind_behind : (sink : SinkState) (a b : List ℕ) → behind (behind sink a) b ≡ behind sink (a ++ b)
behind_behind sink a b = ap (λ h. record { held = h; faults = sink.faults }) (at_back_twice sink.held a b)

-- nothing put changes nothing
at_back_none : (held : Option (List ℕ)) → held ≡ at_back held []
at_back_none None = refl
at_back_none (Some held) = ap Some (sym (append-nil held))

pub behind_nothing : (sink : SinkState) → sink ≡ behind sink []
behind_nothing sink = ap (λ h. record { held = h; faults = sink.faults }) (at_back_none sink.held)

-- a put that failed after others
pub failed_on : (a b : List ℕ) (old now new : SinkState) → Gained a old now → GainedAndFailed b now new → GainedAndFailed (a ++ b) old new
failed_on a b old now new first next =
    let same : now.faults ≡ old.faults = ap (λ s. s.faults) first in
    record {
      held = next.held ∙ ap (λ h. at_back h b) (ap (λ s. s.held) first) ∙ at_back_twice old.held a b;
      rose = subst (λ f. Rose f new.faults) same next.rose;
    }

-- one more put of the bytes that are due
pub behind_take : (old now next : SinkState) (at n : ℕ) (piece : List ℕ)
    → now ≡ behind old (take at piece) → next ≡ behind now (take n (drop at piece)) → next ≡ behind old (take (at + n) piece)
behind_take old now next at n piece e f =
    f ∙ ap (λ h. behind h (take n (drop at piece))) e ∙ behind_behind old (take at piece) (take n (drop at piece))
    ∙ ap (behind old) (sym (take-add at n piece))

-- a put of them that failed
pub fault_take : (fault : WriteFault) (old now new : SinkState) (at : ℕ) (piece : List ℕ)
    → now ≡ behind old (take at piece) → GainedAndFailed [] now new → Writes (Err fault) piece old new
fault_take fault old now new at piece e failed =
    (take at piece, drop at piece, sym (take-append-drop at piece), subst (λ part. GainedAndFailed part old new) (append-nil (take at piece)) (failed_on (take at piece) [] old now new e failed))

-- a first part of what was waiting is one of it and of the piece behind it
pub fault_before_piece : (fault : WriteFault) (waiting piece : List ℕ) (old new : SinkState)
    → Writes (Err fault) waiting old new → Writes (Err fault) (waiting ++ piece) old new
fault_before_piece fault waiting piece old new (part, rest, cut, failed) =
    (part, rest ++ piece, ap (λ bytes. bytes ++ piece) cut ∙ append_assoc part rest piece, failed)
