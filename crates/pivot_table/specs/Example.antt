-- The 3 x 3 example modulo 7 on which the definitions are worked.
use Rattle.std.specs.Prelude.{List, [], ◌∷◌}
use Rattle.residue_words.specs.declared.plain.Pair.{Pair}
use Rattle.residue_words.specs.Matrix.{Matrix}
use Rattle.pivot_table.specs.History.{pair, Dead, Grown, LeastAlive, Maximal}
use Rattle.pivot_table.specs.Order.{IsOrder, Triangular}
use Rattle.pivot_table.specs.Greedy.{IsGreedy}

abbrev pub pivot_example : Matrix
pivot_example = record {
  height = 3;
  width = 3;
  rows = (1 ∷ 0 ∷ 0 ∷ []) ∷ (1 ∷ 1 ∷ 1 ∷ []) ∷ (1 ∷ 1 ∷ 2 ∷ []) ∷ [];
}

-- a history of it, in which row 1 was taken before row 2, and one in which row 2 was taken before row 1
abbrev pub first_history : List Pair
first_history = pair 0 0 ∷ pair 1 1 ∷ []

abbrev pub other_history : List Pair
other_history = pair 0 0 ∷ pair 2 1 ∷ []

-- what holds of them
pub record AreWorkedHistories : Type 0 where
  pub grown : Grown pivot_example first_history
  pub least : LeastAlive pivot_example (pair 0 0 ∷ []) 1 1
  pub other_least : LeastAlive pivot_example (pair 0 0 ∷ []) 2 1
  pub overtaken : Dead pivot_example other_history 1
  pub maximal : Maximal pivot_example first_history
  pub other_maximal : Maximal pivot_example other_history
  pub greedy : IsGreedy pivot_example (pair 0 0 ∷ []) first_history
  pub order : IsOrder pivot_example first_history (pair 1 1 ∷ pair 0 0 ∷ [])
  pub triangular : Triangular pivot_example (pair 1 1 ∷ pair 0 0 ∷ [])
