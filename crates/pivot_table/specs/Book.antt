-- What callers see of a book.
use Rattle.std.specs.Prelude.{◌≤◌, ◌+◌, ℕ, List, length, min}
use Rattle.residue_words.specs.Matrix.{Matrix}
use Rattle.sparse_rows.specs.Rows.{ResidueMatrix}
use Rattle.residue_words.specs.declared.plain.Pair.{Pair}

-- a matrix of residues, pairs of it in the order in which they came, and how many more there is room for
pub record BookState : Type 0 where
  pub rows : ResidueMatrix
  pub pairs : List Pair
  pub spare : ℕ

-- with the spare places of the book there is room for all pairs that there can be
abbrev pub HasRoom : Matrix → BookState → Type 0
HasRoom A b = min A.height A.width ≤ length b.pairs + b.spare
