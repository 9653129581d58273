-- What callers see of a board and of a seat.
use Rattle.std.specs.Prelude.{◌≡◌, ℕ, List}
use Rattle.residue_words.specs.Matrix.{Matrix}
use Rattle.residue_words.specs.declared.plain.Pair.{Pair}
use Rattle.sparse_rows.specs.Rows.{ResidueMatrix}
use Rattle.atomic_table.specs.Seated.{TableId}
use Rattle.pivot_table.specs.Core.{Chair}

-- a board: its own name, the matrix, and the pairs that it was made with
pub record BoardState : Type 0 where
  pub table : TableId
  pub rows : ResidueMatrix
  pub pairs : List Pair

-- a seat: the name of its board, the matrix, its number among the seats, and what it knows
pub record SeatState : Type 0 where
  pub table : TableId
  pub matrix : Matrix
  pub number : ℕ
  pub chair : Chair

-- the seat is one of this board
abbrev pub IsSeatOf : BoardState → SeatState → Type 0
IsSeatOf b s = (s.table ≡ b.table) × (s.matrix ≡ b.rows.matrix)
