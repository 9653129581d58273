-- What the rows of a left factor are made in.
use Rattle.std.specs.Prelude.{◌≡◌, ℕ, length}
use Rattle.std.specs.List.{range_with_len}
use Rattle.dense_finish.specs.declared.row_room.RowRoom.{RowRoom}

-- rows of n residues modulo p can be made in this room
pub record ServesRows (p n : ℕ) (room : RowRoom) : Type 0 where
  pub places : room.places.items ≡ range_with_len 0 n
  pub values : length room.values.items ≡ n
  pub modulus : room.sparse.modulus ≡ p
  pub long : length room.sparse.row ≡ n
