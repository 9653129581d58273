use Rattle.sparse_rows.proofs.Adding.{IsAddingTo}
use Rattle.lead_rows.proofs.accumulator.Accumulator.add_products.Given as goal

abbrev pub invariant-loop-k : goal.invariant-loop-k
invariant-loop-k l = IsAddingTo l.by l.cols l.vals l.k l.fn.self l.self
