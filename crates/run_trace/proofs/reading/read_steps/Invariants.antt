-- So many publications were read.
use Rattle.std.proofs.Common.{ℕ}
use Rattle.std.specs.Prelude.{All}
use Rattle.sms_text.specs.OuterLines.{Step}
use Rattle.sms_text.specs.Reading.{input}
use Rattle.sms_text.proofs.CountedLines.{LinesRead}
use Rattle.run_trace.specs.TraceText.{IsTextPublication, publication_of}
use Rattle.run_trace.proofs.reading.read_steps.Given as goal

abbrev pub invariant-loop : goal.invariant-loop
invariant-loop g l = All IsTextPublication l.publications
    × ((p : ℕ) → LinesRead Step publication_of p l.count l.counter l.publications (input l.fn.reader (g.S.Source.state l.fn.source)) (input l.reader (g.S.Source.state l.source)))
