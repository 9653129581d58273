use Rattle.optimistic_search.specs.Versions.{AreOwnPlaces}
use Rattle.optimistic_search.proofs.versions.own_places.Given as goal

abbrev pub invariant-loop-place : goal.invariant-loop-place
invariant-loop-place l = AreOwnPlaces l.place l.versions.items
