-- The cost of a walk, worked on the 3 x 3 example of histories.
use Rattle.std.specs.Prelude.{[], ◌∷◌}
use Rattle.pivot_table.specs.History.{pair}
use Rattle.pivot_table.specs.Example.{pivot_example, other_history}
use Rattle.pivot_walks.specs.Cost.{IsCost}

-- row 1 has three entries and reaches row 0, which has one; once row 2 has the second pair, row 1 reaches its three entries too
pub record IsWorkedCost : Type 0 where
  pub begun : IsCost pivot_example (pair 0 0 ∷ []) 1 4
  pub overtaken : IsCost pivot_example other_history 1 7
