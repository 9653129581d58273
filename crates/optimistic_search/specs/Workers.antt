-- Workers that share a board, and what their search leaves.
use Rattle.std.specs.Prelude.{◌≡◌, ◌≤◌, ℕ, All, Bool, List, Option, None, Some}
use Rattle.residue_words.specs.Matrix.{Matrix}
use Rattle.residue_words.specs.declared.plain.Pair.{Pair}
use Rattle.pivot_table.specs.Board.{BoardState, SeatState, IsSeatOf}
use Rattle.pivot_table.specs.Book.{BookState}
use Rattle.pivot_table.specs.Core.{Chair}
use Rattle.pivot_table.specs.History.{StandsOrIsDead}
use Rattle.pivot_table.specs.Closing.{IsDone}
use Rattle.optimistic_search.specs.Taking.{IsIdle}
use Rattle.pivot_walks.specs.Walked.{Walked}
use Rattle.optimistic_search.specs.declared.team_search.Team.{Team}
use Rattle.optimistic_search.specs.declared.search_worker.SearchWorker.{SearchWorker}

-- seat and walk are idle
abbrev pub AreIdle : BoardState → SeatState → Option Walked → Type 0
AreIdle b s None = ⊥
AreIdle b s (Some w) = IsIdle b s w

-- a worker that stands before its first row, or has gone through all rows
abbrev pub IsWorkerOf : BoardState → SearchWorker → Type 0
IsWorkerOf b w = AreIdle b w.seat w.walk × (w.from ≤ b.rows.matrix.height)

-- the seat was split so often
abbrev pub with_parted : Chair → ℕ → Chair
with_parted s n = record s { parted = n }

-- board, seat and walk of a book, and workers at the board
pub record IsTeamOf (b : BookState) (t : Team) : Type 0 where
  pub rows : t.board.rows ≡ b.rows
  pub pairs : t.board.pairs ≡ b.pairs
  pub seat : IsSeatOf t.board t.seat
  pub walk : t.rest ≡ record { rows = b.rows; pairs = b.pairs; current = None }
  pub workers : All (IsWorkerOf t.board) t.workers.items

-- the rows that are done stand in the history or are dead in it
abbrev pub DoneAreSettled : Matrix → List Pair → List Bool → Type 0
DoneAreSettled A h marks = (r : ℕ) → IsDone marks r → StandsOrIsDead A h r
