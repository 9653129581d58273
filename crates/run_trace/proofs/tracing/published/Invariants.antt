-- The pairs before k were listed, with their versions.
use Rattle.std.proofs.Common.{◌≡◌, take}
use Rattle.run_trace.specs.Lawful.{history_of, versions_of}
use Rattle.run_trace.proofs.tracing.published.Given as goal

abbrev pub invariant-loop-k : goal.invariant-loop-k
invariant-loop-k l = (history_of l.publications ≡ take l.k l.pairs) × (versions_of l.publications ≡ take l.k l.versions)
