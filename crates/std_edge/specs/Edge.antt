-- Readers and writers of std as sources and sinks: what is told of them, and what a pull and a put do to them; and the words of a command
-- line.
use Rattle.std.specs.Prelude.{◌≡◌, ◌<◌, ◌≤◌, ⊤, ℕ, List, [], Option, None, Some, Result, Ok, Err, String, codes, drop, length, map, string_bytes, take}
use Rattle.std.specs.declared.alloc.Global.{Global}
use Rattle.std.specs.declared.io.Error.{Error}
use Rattle.std.specs.declared.io.ErrorKind.{ErrorKind}
use Rattle.std.specs.declared.io.ErrorKind.TheVariants as kind
use Rattle.std.specs.declared.vec.IntoIter.{IntoIter}
use Rattle.std.specs.declared.vec.Vec.{Vec}
use Rattle.std.specs.Io.KnownBytes.{Keeps, Appends, Consumes, IsAtEnd}
use Rattle.std.specs.IoError.{error_kind}
use Rattle.std.specs.Vec.Iter.{into_iter_items}
use Rattle.byte_streams.specs.declared.stream.Pulled.{Pulled}
use Rattle.byte_streams.specs.declared.stream.Pulled.TheVariants as pulled
use Rattle.byte_streams.specs.declared.stream.Put.{Put}
use Rattle.byte_streams.specs.declared.stream.Put.TheVariants as put
use Rattle.byte_streams.specs.declared.write.WriteFault.{WriteFault}
use Rattle.sms_text.specs.Stream.{SourceState, SinkState}
use Rattle.sms_text.specs.Writing.{Writes}
use Rattle.std_edge.specs.declared.streams.Streams.{Streams}
use Rattle.std_edge.specs.declared.words.NoWords.{NoWords}
use Rattle.std_edge.specs.declared.words.NoWords.TheVariants as none

-- a reader of std, as it is and as it was at first, and how many of its errors were counted
pub record CountedReader (R : Type 0) : Type 0 where
  pub first : R
  pub stream : R
  pub faults : ℕ

-- a writer of std, as it is, as it was at first, and as it was after the last put that went well; and how many of its errors were counted
pub record CountedWriter (W : Type 0) : Type 0 where
  pub first : W
  pub good : W
  pub stream : W
  pub faults : ℕ

-- what is known now of a stream that told this at first: of one that told nothing, nothing
abbrev pub still_known : Option (List ℕ) → Option (List ℕ) → Option (List ℕ)
still_known None now = None
still_known (Some first) now = now

-- a stream that told something at first does so now
abbrev pub StaysTold : Option (List ℕ) → Option (List ℕ) → Type 0
StaysTold None now = ⊤
StaysTold (Some first) None = ⊥
StaysTold (Some first) (Some now) = ⊤

-- the source that a reader is, and the sink that a writer is, by what these tell
abbrev pub source_of : {R : Type 0} → (R → Option (List ℕ)) → CountedReader R → SourceState
source_of remaining s =
    record { left = still_known (remaining s.first) (remaining s.stream); faults = s.faults }

abbrev pub sink_of : {W : Type 0} → (W → Option (List ℕ)) → CountedWriter W → SinkState
sink_of contents s =
    record { held = still_known (contents s.first) (contents s.good); faults = s.faults }

-- the source and the sink that streams are at first, of which this is told
abbrev pub fresh_source : Option (List ℕ) → SourceState
fresh_source left = record { left = left; faults = 0 }

abbrev pub fresh_sink : Option (List ℕ) → SinkState
fresh_sink held = record { held = held; faults = 0 }

-- what a writer holds is what the sink tells; and, only if a put failed, perhaps some bytes more
abbrev pub Holds : Option (List ℕ) → SinkState → Type 0
Holds now sink =
    (more : List ℕ) × Appends sink.held now more × (sink.faults ≡ 0 → more ≡ [])

-- the bytes given are those that the reader lost; at the end it has none
abbrev pub ReaderDid : Pulled → Option (List ℕ) → Option (List ℕ) → List ℕ → Type 0
ReaderDid (pulled.Got n) old new buffer = Consumes old new (take n buffer)
ReaderDid pulled.End old new buffer = IsAtEnd new
ReaderDid pulled.Failed old new buffer = Keeps old new

-- the bytes taken are those that the writer gained; where a put failed it gained some first bytes of the piece, or none
abbrev pub WriterDid : Put → Option (List ℕ) → Option (List ℕ) → List ℕ → Type 0
WriterDid (put.Took n) old new piece = Appends old new (take n piece)
WriterDid put.Failed old new piece = (n : ℕ) × (n ≤ length piece) × Appends old new (take n piece)

-- at least one byte, and at most so many, were taken where a put went well
abbrev pub IsCount : Put → ℕ → Type 0
IsCount (put.Took n) most = (0 < n) × (n ≤ most)
IsCount put.Failed most = ⊤

-- the bytes of each word
abbrev pub texts_of : List (String Global) → List (List ℕ)
texts_of words = map string_bytes words

-- why there are no words, if reading them ended with an error of this kind
abbrev pub reason_of : ErrorKind → NoWords
reason_of kind.OutOfMemory = none.Memory
reason_of _ = none.NotText

-- the words behind the program's name, in their order
abbrev pub words_behind : IntoIter (String Global) Global → List (String Global)
words_behind args = drop 1 (into_iter_items args)

-- the words behind the program's name, or why there are none: the error's reason, or that memory for them is refused
abbrev pub AreWordsOf :
    Result (IntoIter (String Global) Global) Error → Result (Vec (String Global) Global) NoWords → Type 0
AreWordsOf (Ok args) (Ok words) = words.items ≡ words_behind args
AreWordsOf (Ok args) (Err reason) = reason ≡ none.Memory
AreWordsOf (Err error) result = result ≡ Err (reason_of (error_kind error))

-- the line for the error stream if there are no words to run on, and the exit status
abbrev pub line_without : NoWords → List ℕ
line_without none.NotText = codes "error 2 usage\n"
line_without none.Memory = codes "error 8 memory\n"

abbrev pub status_without : NoWords → ℕ
status_without none.NotText = 2
status_without none.Memory = 8

-- A program that has no words to run on ends with this status. Its error stream, of which this was told and is told, gained the line, or a
-- part of it where it failed.
pub record EndsWithout (reason : NoWords) (before after : Option (List ℕ)) (code : ℕ) : Type 0 where
  pub errors : SinkState
  pub written : Result (Unit {0}) WriteFault
  pub says : Writes written (line_without reason) (fresh_sink before) errors
  pub held : Holds after errors
  pub code_is : code ≡ status_without reason

-- what the standard streams tell
pub record Told : Type 0 where
  pub input : Option (List ℕ)
  pub output : Option (List ℕ)
  pub errors : Option (List ℕ)

abbrev pub told : {I O E : Type 0} → (I → Option (List ℕ)) → (O → Option (List ℕ)) → (E → Option (List ℕ)) →
    Streams I O E → Told
told remaining contents contents_of_errors s = record {
  input = remaining s.input;
  output = contents s.output;
  errors = contents_of_errors s.errors;
}

-- the streams are what a source and two sinks left of them
pub record AreLeft (after : Told) (source : SourceState) (out err : SinkState) : Type 0 where
  pub input : Keeps source.left after.input
  pub output : Holds after.output out
  pub errors : Holds after.errors err
