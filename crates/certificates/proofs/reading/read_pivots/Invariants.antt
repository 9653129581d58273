-- So many pivots were read.
use Rattle.std.proofs.Common.{ℕ}
use Rattle.std.specs.Prelude.{All}
use Rattle.sms_text.specs.OuterLines.{Pivot}
use Rattle.sms_text.specs.Reading.{input}
use Rattle.sms_text.proofs.CountedLines.{LinesRead}
use Rattle.certificates.specs.CertificateText.{IsTextPlace, pivot_of}
use Rattle.certificates.proofs.reading.read_pivots.Given as goal

abbrev pub invariant-loop : goal.invariant-loop
invariant-loop g l = All IsTextPlace l.pivots
    × ((p : ℕ) → LinesRead Pivot pivot_of p l.rank l.counter l.pivots (input l.fn.reader (g.S.Source.state l.fn.source)) (input l.reader (g.S.Source.state l.source)))
