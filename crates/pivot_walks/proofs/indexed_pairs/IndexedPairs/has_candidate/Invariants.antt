use Rattle.pivot_walks.proofs.Looking.{IsLooking}
use Rattle.pivot_walks.proofs.indexed_pairs.IndexedPairs.has_candidate.Given as goal

abbrev pub invariant-loop-k : goal.invariant-loop-k
invariant-loop-k l = IsLooking l.self.pairs l.row l.cols l.free l.k
