-- What a search does to a book.
use Rattle.std.specs.Prelude.{◌≡◌, None}
use Rattle.pivot_table.specs.Book.{BookState, HasRoom}
use Rattle.pivot_table.specs.Greedy.{IsGreedy}
use Rattle.pivot_table.specs.History.{Grown}
use Rattle.pivot_walks.specs.Levels.{Leveled}
use Rattle.pivot_walks.specs.Walked.{Walked}

-- the rows were tried in ascending order, beginning with the pairs of the first book, and the second has what came of it
abbrev pub IsGreedyFrom : BookState → BookState → Type 0
IsGreedyFrom start b = IsGreedy start.rows.matrix start.pairs b.pairs

-- the walk is over the pairs of the book, and no row is open
abbrev pub IsOverBook : BookState → Walked → Type 0
IsOverBook b w = w ≡ record { rows = b.rows; pairs = b.pairs; current = None }

-- between two rows of a search the walk is over the book, which was grown and has room for all pairs that there can be
pub record IsBetweenRows (b : BookState) (w : Walked) : Type 0 where
  pub walk : IsOverBook b w
  pub room : HasRoom b.rows.matrix b
  pub grown : Grown b.rows.matrix b.pairs

-- the same of a walk by levels
pub record IsLeveled (b : BookState) (w : Leveled) : Type 0 where
  pub rows : w.rows ≡ b.rows
  pub pairs : w.pairs ≡ b.pairs
  pub room : HasRoom b.rows.matrix b
  pub grown : Grown b.rows.matrix b.pairs
