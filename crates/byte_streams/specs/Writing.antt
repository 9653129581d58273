-- What a writer does to a sink.
use Rattle.std.specs.Prelude.{◌≡◌, ℕ, List, ◌++◌, Result, Ok, Err}
use Rattle.byte_streams.specs.declared.write.WriteFault.{WriteFault}
use Rattle.byte_streams.specs.Stream.{SinkState, Gained, GainedAndFailed}

-- at Ok the sink gained exactly the piece; at a fault it gained a first part of it, and failed
abbrev pub Writes : Result (Unit {0}) WriteFault → List ℕ → SinkState → SinkState → Type 0
Writes (Ok done) piece old new = Gained piece old new
Writes (Err fault) piece old new =
    (part : List ℕ) × (rest : List ℕ) × (piece ≡ part ++ rest) × GainedAndFailed part old new

-- bytes that wait for a whole block, and the sink that they are for
pub record OutputState : Type 0 where
  pub waiting : List ℕ
  pub sink : SinkState

abbrev pub output : List ℕ → SinkState → OutputState
output waiting sink = record { waiting = waiting; sink = sink }

-- A piece came behind the bytes that were waiting: at Ok the first of them went to the sink, and the others wait; at a fault the sink gained
-- a first part of them, and failed.
abbrev pub Adds : Result (Unit {0}) WriteFault → List ℕ → OutputState → OutputState → Type 0
Adds (Ok done) piece old new =
    (sent : List ℕ) × (old.waiting ++ piece ≡ sent ++ new.waiting) × Gained sent old.sink new.sink
Adds (Err fault) piece old new = Writes (Err fault) (old.waiting ++ piece) old.sink new.sink
