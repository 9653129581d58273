-- Answers in the room that a caller gives for them.
use Rattle.std.specs.Prelude.{◌≡◌, ◌<◌, ◌⊎◌, length, take}
use Rattle.residue_words.specs.Matrix.{Matrix}
use Rattle.sparse_rows.specs.Rows.{ResidueMatrix, triples_of}
use Rattle.spasm_c.specs.Given.{entries}
use Rattle.spasm_c.specs.declared.room.Room.{Room}

-- the arrays and what is told are as they were
pub record IsRoomKept (old new : Room) : Type 0 where
  pub rows : new.rows.now ≡ old.rows.now
  pub columns : new.columns.now ≡ old.columns.now
  pub values : new.values.now ≡ old.values.now
  pub needed : new.needed ≡ old.needed
  pub height : new.height ≡ old.height

-- E was written: the first places have its entries other than 0, row by row and by ascending columns, and it is told
-- how many there are, and the height
pub record IsMatrixWritten (E : Matrix) (new : Room) : Type 0 where
  pub needed : new.needed ≡ length (triples_of E)
  pub height : new.height ≡ E.height
  pub entries : entries (take new.needed new.rows.now) (take new.needed new.columns.now)
      (take new.needed new.values.now) ≡ triples_of E

-- an array is too short for E: it is told how many entries there are, and the height, and the arrays are as they were
pub record IsTold (E : Matrix) (old new : Room) : Type 0 where
  pub needed : new.needed ≡ length (triples_of E)
  pub height : new.height ≡ E.height
  pub short : (length old.rows.now < new.needed) ⊎ (length old.columns.now < new.needed)
      ⊎ (length old.values.now < new.needed)
  pub rows : new.rows.now ≡ old.rows.now
  pub columns : new.columns.now ≡ old.columns.now
  pub values : new.values.now ≡ old.values.now

-- a matrix of which P holds was written
abbrev pub HoldsMatrix : (ResidueMatrix → Type 0) → Room → Type 0
HoldsMatrix P new = (E : ResidueMatrix) × P E × IsMatrixWritten E.matrix new

-- there is no room for a matrix of which P holds
abbrev pub LacksMatrix : (ResidueMatrix → Type 0) → Room → Room → Type 0
LacksMatrix P old new = (E : ResidueMatrix) × P E × IsTold E.matrix old new
