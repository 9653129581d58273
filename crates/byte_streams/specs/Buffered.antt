-- The bytes taken and not yet used.
use Rattle.std.specs.Prelude.{◌≡◌, ◌<◌, ◌≤◌, ◌==◌, ℕ, List, [], ◌++◌, length, drop, Result, Ok, Err}
use Rattle.std.specs.List.{position_or_len}
use Rattle.byte_streams.specs.declared.buffer.TheConstants.{PULL_SIZE}
use Rattle.byte_streams.specs.declared.stream.Pulled.{Pulled}
use Rattle.byte_streams.specs.declared.stream.Pulled.TheVariants as pulled
use Rattle.byte_streams.specs.Stream.{SourceState, Gave, GaveAndFailed, IsSpent}

-- how many bytes stand before the first byte 10: all, if there is none
abbrev pub line_length : List ℕ → ℕ
line_length bytes = position_or_len (λ b. b == 10) bytes

-- no line ends in the first bytes from start on
abbrev pub IsScanned : List ℕ → ℕ → ℕ → Type 0
IsScanned items start scanned = (start ≤ length items) × (scanned ≤ line_length (drop start items))

-- as many bytes as one pull may give
abbrev pub IsOnePull : List ℕ → Type 0
IsOnePull piece = (0 < length piece) × (length piece ≤ PULL_SIZE)

-- what one pull added to the bytes; where memory was wanted nothing was done
abbrev pub FillDid : {E : Type 0} → Result Pulled E → List ℕ → List ℕ → SourceState → SourceState → Type 0
FillDid (Ok (pulled.Got n)) old new source source' =
    (piece : List ℕ) × IsOnePull piece × (new ≡ old ++ piece) × Gave piece source source'
FillDid (Ok pulled.End) old new source source' = (new ≡ old) × (source' ≡ source) × IsSpent source
FillDid (Ok pulled.Failed) old new source source' = (new ≡ old) × GaveAndFailed [] source source'
FillDid (Err e) old new source source' = (new ≡ old) × (source' ≡ source)

-- how many bytes were given
abbrev pub pulled_count : Pulled → ℕ
pulled_count (pulled.Got n) = n
pulled_count pulled.End = 0
pulled_count pulled.Failed = 0

-- room for one pull stands behind the bytes; or nothing was done
abbrev pub AppendsRoom : {T E : Type 0} → Result T E → List ℕ → List ℕ → Type 0
AppendsRoom (Ok _) old new = (room : List ℕ) × (length room ≡ PULL_SIZE) × (new ≡ old ++ room)
AppendsRoom (Err e) old new = new ≡ old
