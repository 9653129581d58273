use Rattle.optimistic_search.specs.Versions.{AreStarted}
use Rattle.optimistic_search.proofs.versions.started.Given as goal

abbrev pub invariant-loop-place : goal.invariant-loop-place
invariant-loop-place l = AreStarted l.starts l.place l.versions.items
