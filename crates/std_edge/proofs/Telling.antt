-- What streams tell, before a call and after it.
use Rattle.std.proofs.Common.{ℕ, ◌≡◌, ◌++◌, List, [], Option, None, Some, refl, sym, ap, ◌∙◌, append-nil}
use Rattle.std.specs.Io.KnownBytes.{Keeps, Appends}
use Rattle.sms_text.specs.Stream.{Gained, SinkState, at_back}
use Rattle.std_edge.specs.Edge.{CountedReader, CountedWriter, Holds, StaysTold, fresh_sink, fresh_source, sink_of, source_of, still_known}

abbrev sink_with : Option (List ℕ) → ℕ → SinkState
sink_with held faults = record { held = held; faults = faults }

pub known_at_first : (now : Option (List ℕ)) → still_known now now ≡ now
known_at_first None = refl
known_at_first (Some x) = refl

-- streams are a source and a sink

pub source_at_first : {R : Type 0} (remaining : R → Option (List ℕ)) (reader : R) (s : CountedReader R) →
    s ≡ record { first = reader; stream = reader; faults = 0 } → source_of remaining s ≡ fresh_source (remaining reader)
source_at_first remaining reader s is = ap (source_of remaining) is ∙ ap fresh_source (known_at_first (remaining reader))

pub sink_at_first : {W : Type 0} (contents : W → Option (List ℕ)) (writer : W) (s : CountedWriter W) →
    s ≡ record { first = writer; good = writer; stream = writer; faults = 0 } → sink_of contents s ≡ fresh_sink (contents writer)
sink_at_first contents writer s is = ap (sink_of contents) is ∙ ap fresh_sink (known_at_first (contents writer))

-- a reader has what its source tells
pub keeps_known : (first now : Option (List ℕ)) → Keeps (still_known first now) now
keeps_known None now = tt
keeps_known (Some x) None = tt
keeps_known (Some x) (Some y) = refl

-- a writer has what its sink tells
pub holds_all : (now : Option (List ℕ)) (faults : ℕ) → Holds now (record { held = now; faults = faults })
holds_all None faults = ([], tt, λ none. refl)
holds_all (Some x) faults = ([], sym (append-nil x), λ none. refl)

-- a put went well: the writer gained these bytes
pub took_known : (first good old new : Option (List ℕ)) (bytes : List ℕ) → StaysTold first good →
    Holds old (fresh_sink (still_known first good)) → Appends old new bytes → still_known first new ≡ at_back (still_known first good) bytes
took_known None good old new bytes told holds took = refl
took_known (Some x) None old new bytes told holds took = absurd told
took_known (Some x) (Some y) None new bytes told holds took = absurd holds.1
took_known (Some x) (Some y) (Some z) None bytes told holds took = absurd took
took_known (Some x) (Some y) (Some z) (Some w) bytes told holds took =
    ap Some (took ∙ ap (λ l. l ++ bytes) (holds.1 ∙ ap (λ l. y ++ l) (holds.2 refl) ∙ append-nil y))

pub took_gained : (held held' : Option (List ℕ)) (faults : ℕ) (bytes : List ℕ) → held' ≡ at_back held bytes →
    Gained bytes (record { held = held; faults = faults }) (record { held = held'; faults = faults })
took_gained held held' faults bytes known = ap (λ h. sink_with h faults) known
