-- The numbers of the kinds of fault.
use Rattle.std.specs.Prelude.{ℕ}
use Rattle.sms_text.specs.declared.kind.Kind.{Kind}
use Rattle.sms_text.specs.declared.kind.Kind.TheVariants as kind

-- the number of a kind of fault, by which reports name it
abbrev pub kind_number : Kind → ℕ
kind_number kind.Words = 1
kind_number kind.Number = 2
kind_number kind.Size = 3
kind_number kind.Row = 4
kind_number kind.Column = 5
kind_number kind.NoHeader = 6
kind_number kind.NoEnd = 7
kind_number kind.Long = 8
kind_number kind.Certificate = 9
kind_number kind.Divisor = 10
kind_number kind.Trace = 11
kind_number kind.Script = 12
