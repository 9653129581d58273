-- Replies to right-hand sides, worked on the 3 x 3 example modulo 7.
use Rattle.std.specs.Prelude.{◌≡◌, ℕ, List, [], ◌∷◌}
use Rattle.residue_words.specs.Matrix.{Matrix}
use Rattle.sparse_rows.specs.Rows.{ResidueMatrix}
use Rattle.row_space.specs.Example.{example, example_kernel, example_left, example_pivots, example_rref}
use Rattle.kernel_solve.specs.declared.prepared.Reply.TheVariants.{Solution, Refuted}
use Rattle.kernel_solve.specs.Column.{column, column_matrix}
use Rattle.kernel_solve.specs.Prepared.{FitTogether, RepliesTo}

abbrev pub modulo_seven : Matrix → ResidueMatrix
modulo_seven A = record { modulus = 7; matrix = A }

-- the one row y with y A = 0 that is reduced: the third row of A is the sum of the others
abbrev pub example_relations : Matrix
example_relations = record { height = 1; width = 3; rows = (6 ∷ 6 ∷ 1 ∷ []) ∷ [] }

pub record AreWorkedReplies : Type 0 where
  pub column : column (column_matrix (1 ∷ 0 ∷ 1 ∷ [])) ≡ 1 ∷ 0 ∷ 1 ∷ []
  pub solved : RepliesTo 7 example (1 ∷ 0 ∷ 1 ∷ []) (Solution (modulo_seven (column_matrix (0 ∷ 0 ∷ 1 ∷ []))))
  pub refuted : RepliesTo 7 example (0 ∷ 0 ∷ 1 ∷ []) (Refuted (modulo_seven example_relations))
  pub together : FitTogether example_pivots (modulo_seven example_left) (modulo_seven example_rref)
      (modulo_seven example_kernel) (modulo_seven example_relations)
