-- Pieces of rows in a queue that workers share.
use Rattle.std.specs.Prelude.{◌≡◌, ℕ, Bool, true, List, All}
use mathlib.Core.Option.{some}
use lib.ListN.{get_elem?}
use Rattle.dense_panels.specs.Pieces.{IsPieceOf, RowsFrom}
use Rattle.dense_panels.specs.declared.shared_pieces.Known.{Known}

abbrev pub known : Bool → List (List ℕ) → Known
known alone rows = record { alone = alone; rows = rows }

-- all pieces are of the same rows, which all workers know; who is alone is the only one
pub record ArePieces (items : List RowsFrom) (views : List Known) : Type 0 where
  pub rows : List (List ℕ)
  pub pieces : All (IsPieceOf rows) items
  pub same : (port : ℕ) (v : Known) → get_elem? views port ≡ some v → v.rows ≡ rows
  pub alone : (port other : ℕ) (v w : Known) → get_elem? views port ≡ some v →
      get_elem? views other ≡ some w → v.alone ≡ true → other ≡ port
