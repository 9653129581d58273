-- Sources and sinks in memory: what they hold, and exactly what a call does.
use Rattle.std.specs.Prelude.{◌+◌, ◌-◌, ◌^◌, ◌==◌, Bool, if◌then◌else◌, ℕ, List, Some, ◌++◌, length, take, drop, min}
use Rattle.std.specs.List.{list_any}
use Rattle.byte_streams.specs.declared.stream.Pulled.{Pulled}
use Rattle.byte_streams.specs.declared.stream.Pulled.TheVariants as pulled
use Rattle.byte_streams.specs.declared.stream.Put.{Put}
use Rattle.byte_streams.specs.declared.stream.Put.TheVariants as put
use Rattle.byte_streams.specs.Stream.{SourceState, SinkState}

-- one more, but a count of 64 bits stays at its last value
abbrev pub one_more : ℕ → ℕ
one_more n = min (n + 1) (2 ^ 64 - 1)

-- whether the call after this many calls is to fail; calls are numbered from 1
abbrev pub is_to_fail : List ℕ → ℕ → Bool
is_to_fail fails calls = list_any (λ k. k == one_more calls) fails

-- what is left, the most bytes of a call, the numbers of the calls that fail, the calls so far, and how many failed
pub record MemorySourceState : Type 0 where
  pub left : List ℕ
  pub piece : ℕ
  pub fails : List ℕ
  pub calls : ℕ
  pub faults : ℕ

abbrev pub source_state : MemorySourceState → SourceState
source_state s = record { left = Some s.left; faults = s.faults }

-- how many bytes a pull gives into a buffer of this length, where it doesn't fail
abbrev pub share : ℕ → ℕ → List ℕ → ℕ
share piece room left = min (min piece room) (length left)

abbrev pub got : ℕ → Pulled
got n = if n == 0 then pulled.End else pulled.Got n

abbrev pub answer : MemorySourceState → ℕ → Pulled
answer s room = if is_to_fail s.fails s.calls then pulled.Failed else got (share s.piece room s.left)

abbrev pub after_pull : MemorySourceState → ℕ → MemorySourceState
after_pull s room =
    if is_to_fail s.fails s.calls then record s { calls = one_more s.calls; faults = one_more s.faults }
    else record s { calls = one_more s.calls; left = drop (share s.piece room s.left) s.left }

-- what is left of a source that never fails, and the most bytes of a call
pub record SteadySourceState : Type 0 where
  pub left : List ℕ
  pub piece : ℕ

abbrev pub steady_state : SteadySourceState → SourceState
steady_state s = record { left = Some s.left; faults = 0 }

-- what a sink holds, how many more bytes it takes, the most of a call, the calls that fail, the calls so far, and how many failed
pub record MemorySinkState : Type 0 where
  pub held : List ℕ
  pub room : ℕ
  pub piece : ℕ
  pub fails : List ℕ
  pub calls : ℕ
  pub faults : ℕ

abbrev pub sink_state : MemorySinkState → SinkState
sink_state s = record { held = Some s.held; faults = s.faults }

-- how many bytes a put takes of these, where the call isn't to fail
abbrev pub portion : MemorySinkState → List ℕ → ℕ
portion s bytes = min (min s.piece (length bytes)) s.room

abbrev pub took : ℕ → Put
took n = if n == 0 then put.Failed else put.Took n

abbrev pub put_answer : MemorySinkState → List ℕ → Put
put_answer s bytes = if is_to_fail s.fails s.calls then put.Failed else took (portion s bytes)

abbrev pub failed_put : MemorySinkState → MemorySinkState
failed_put s = record s { calls = one_more s.calls; faults = one_more s.faults }

abbrev pub after_put : MemorySinkState → List ℕ → MemorySinkState
after_put s bytes =
    if is_to_fail s.fails s.calls then failed_put s else
    if portion s bytes == 0 then failed_put s else
    record s {
      calls = one_more s.calls;
      held = s.held ++ take (portion s bytes) bytes;
      room = s.room - portion s bytes;
    }
