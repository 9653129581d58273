-- What a call does to a source and to a sink. What is left of a source, and what a sink holds, is told or not told,
-- which never changes: None is not told. Each has a count of its faults, which never falls.
use Rattle.std.specs.Prelude.{◌≡◌, ◌<◌, ◌≤◌, ◌+◌, ◌++◌, Bool, true, false, ℕ, List, [], Option, None, Some, length, min, take}
use Rattle.byte_streams.specs.declared.stream.Pulled.{Pulled}
use Rattle.byte_streams.specs.declared.stream.Pulled.TheVariants as pulled
use Rattle.byte_streams.specs.declared.stream.Put.{Put}
use Rattle.byte_streams.specs.declared.stream.Put.TheVariants as put

-- what is left of a source, where it tells, and how often it has failed
pub record SourceState : Type 0 where
  pub left : Option (List ℕ)
  pub faults : ℕ

-- what a sink holds, where it tells, and how often it has failed
pub record SinkState : Type 0 where
  pub held : Option (List ℕ)
  pub faults : ℕ

-- bytes in front of those that are told, and behind them
abbrev pub in_front : List ℕ → Option (List ℕ) → Option (List ℕ)
in_front bytes None = None
in_front bytes (Some rest) = Some (bytes ++ rest)

abbrev pub at_back : Option (List ℕ) → List ℕ → Option (List ℕ)
at_back None bytes = None
at_back (Some held) bytes = Some (held ++ bytes)

-- the source before it gave these bytes, and the sink once it took these bytes: their counts of faults are the same
abbrev pub before : List ℕ → SourceState → SourceState
before bytes source = record { left = in_front bytes source.left; faults = source.faults }

abbrev pub behind : SinkState → List ℕ → SinkState
behind sink bytes = record { held = at_back sink.held bytes; faults = sink.faults }

-- nothing is left, where that is told
abbrev pub IsNothing : Option (List ℕ) → Type 0
IsNothing None = Unit {0}
IsNothing (Some rest) = rest ≡ []

abbrev pub IsSpent : SourceState → Type 0
IsSpent source = IsNothing source.left

-- a count of faults rose by one; at its last value it stays
abbrev pub Rose : ℕ → ℕ → Type 0
Rose old new = new ≡ min (old + 1) 18446744073709551615

-- a source gave these bytes and did not fail
abbrev pub Gave : List ℕ → SourceState → SourceState → Type 0
Gave bytes old new = old ≡ before bytes new

-- it gave these bytes, and then it failed once
pub record GaveAndFailed (bytes : List ℕ) (old new : SourceState) : Type 0 where
  pub left : old.left ≡ in_front bytes new.left
  pub rose : Rose old.faults new.faults

-- it gave these bytes, and then it failed or did not
abbrev pub Drew : Bool → List ℕ → SourceState → SourceState → Type 0
Drew true bytes old new = GaveAndFailed bytes old new
Drew false bytes old new = Gave bytes old new

-- a sink took these bytes and did not fail
abbrev pub Gained : List ℕ → SinkState → SinkState → Type 0
Gained bytes old new = new ≡ behind old bytes

-- it took these bytes, and then it failed once
pub record GainedAndFailed (bytes : List ℕ) (old new : SinkState) : Type 0 where
  pub held : new.held ≡ at_back old.held bytes
  pub rose : Rose old.faults new.faults

-- a pull gave the first bytes of what was left, at least one; or found the end; or failed and took nothing
abbrev pub PullDid : Pulled → List ℕ → SourceState → SourceState → Type 0
PullDid (pulled.Got n) buffer old new = (0 < n) × (n ≤ length buffer) × Gave (take n buffer) old new
PullDid pulled.End buffer old new = (new ≡ old) × IsSpent old
PullDid pulled.Failed buffer old new = GaveAndFailed [] old new

-- a put took the first bytes of the piece, at least one; or failed and took none
abbrev pub PutDid : Put → List ℕ → SinkState → SinkState → Type 0
PutDid (put.Took n) piece old new = (0 < n) × (n ≤ length piece) × Gained (take n piece) old new
PutDid put.Failed piece old new = GainedAndFailed [] old new
