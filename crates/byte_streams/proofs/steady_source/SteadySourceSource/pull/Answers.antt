use Rattle.std.proofs.Common.{arith}
use Rattle.byte_streams.proofs.Pulls.{gave_nothing, gave_first}
use Rattle.byte_streams.proofs.steady_source.SteadySourceSource.pull.Goals.{then-count-eq0, else-count-eq0}
use Rattle.byte_streams.proofs.steady_source.SteadySourceSource.pull.Goals as goal

pub returns-clause-did : goal.returns-clause-did
returns-clause-did c =
    let count = rw c.deref.ensures.value at c.give-count.ensures.count in
    let given = rw c.deref.ensures.value at c.give-count.ensures.given in
    elim c.if-count-eq0.branch [
      | then-count-eq0 w ↦ rw (w.result-is, ← c.self.view_is) (gave_nothing _ _ _ _ _ c.self.invariant.1 c.requires count w.if-count-eq0.true)
      | else-count-eq0 w ↦ rw (w.result-is, ← c.self.view_is) (gave_first _ _ _ _ _ _ count (omega arith) c.give-count.auto.buffer given)
    ]
