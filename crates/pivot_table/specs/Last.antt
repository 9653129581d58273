-- The last state of a board.
use Rattle.std.specs.Prelude.{◌≡◌, List, length, map, drop}
use Rattle.residue_words.specs.Matrix.{Matrix}
use Rattle.residue_words.specs.declared.plain.Pair.{Pair}
use Rattle.pivot_table.specs.Board.{SeatState}
use Rattle.pivot_table.specs.Core.{Core, HasSeat, Reached}
use Rattle.pivot_table.specs.Closing.{is_done, start_in}
use Rattle.pivot_table.specs.declared.closed_board.Closed.{Closed}

-- what is left of a board spells the last state of the core, of which s is a seat: its history, which rows are done, and
-- the starts of the rows at the places behind the pairs that it began with
pub record IsLast (A : Matrix) (h0 : List Pair) (s : SeatState) (left : Closed) : Type 0 where
  pub last : Core
  pub reached : Reached A h0 last
  pub seat : HasSeat last.seats s.number s.chair
  pub history : last.history ≡ left.book.pairs
  pub tall : length last.rows ≡ A.height
  pub done : left.done ≡ map is_done last.rows
  pub first : left.starts.first ≡ length h0
  pub starts : left.starts.starts ≡ map (start_in last.rows) (drop (length h0) left.book.pairs)
