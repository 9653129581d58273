-- What became of a row that a worker took up.
use Rattle.std.specs.Prelude.{◌≡◌, ℕ, false, None, Some, List, ◌++◌, length, take}
use Rattle.residue_words.specs.Matrix.{Matrix}
use Rattle.residue_words.specs.declared.plain.Pair.{Pair}
use Rattle.pivot_table.specs.History.{pair, Dead, LeastAlive}
use Rattle.pivot_table.specs.Core.{Chair, claiming, publishing, finishing, meeting}
use Rattle.pivot_table.specs.Board.{BoardState, SeatState, IsSeatOf}
use Rattle.pivot_walks.specs.Walked.{Walked}
use Rattle.optimistic_search.specs.declared.taken_row.Taken.{Taken}
use Rattle.optimistic_search.specs.declared.taken_row.Taken.TheVariants as taken

-- the seat and the walk are of this board and have the same list; the row is in hand, unpublished, and open
pub record IsTrying (b : BoardState) (s : SeatState) (w : Walked) (r : ℕ) : Type 0 where
  pub seat : IsSeatOf b s
  pub rows : w.rows ≡ b.rows
  pub pairs : w.pairs ≡ s.chair.seen
  pub hand : s.chair.hand ≡ Some r
  pub unpublished : s.chair.published ≡ false
  pub current : w.current ≡ Some r

-- the seat and the walk are of this board and have the same list; no row is in hand, and none is open
pub record IsIdle (b : BoardState) (s : SeatState) (w : Walked) : Type 0 where
  pub seat : IsSeatOf b s
  pub rows : w.rows ≡ b.rows
  pub pairs : w.pairs ≡ s.chair.seen
  pub hand : s.chair.hand ≡ None
  pub current : w.current ≡ None

abbrev pub with_seen : Chair → List Pair → Chair
with_seen s seen = record s { seen = seen }

-- the row in hand was let go at once: published at the end of what was seen, at its least alive column, or dead in it
abbrev pub LetsGo : Matrix → ℕ → Chair → Taken → Chair → Type 0
LetsGo A r s taken.Busy t = ⊥
LetsGo A r s (taken.Published k) t =
    (j : ℕ) × LeastAlive A s.seen r j × (k ≡ length s.seen) × (t ≡ finishing (publishing s (pair r j)) r)
LetsGo A r s taken.Dropped t = Dead A s.seen r × (t ≡ finishing s r)

-- the row was claimed, more pairs were seen, and then it was let go
abbrev pub TakesUp : Matrix → ℕ → Chair → Taken → Chair → Type 0
TakesUp A r s result t = (more : List Pair) × LetsGo A r (with_seen (claiming s r) (s.seen ++ more)) result t

-- the row was met; or it was taken up, and published or dropped
abbrev pub TakesRow : Matrix → ℕ → Chair → Taken → Chair → Type 0
TakesRow A r s taken.Busy t = t ≡ meeting s r
TakesRow A r s result t = TakesUp A r s result t

-- what the seat has seen at the end, without the row's own pair
abbrev pub others_seen : Taken → Chair → List Pair
others_seen taken.Busy t = t.seen
others_seen (taken.Published k) t = take k t.seen
others_seen taken.Dropped t = t.seen

-- where the row was only met, no step was taken
abbrev pub NoneIfBusy : Taken → ℕ → ℕ → Type 0
NoneIfBusy taken.Busy before after = after ≡ before
NoneIfBusy (taken.Published k) before after = Unit {0}
NoneIfBusy taken.Dropped before after = Unit {0}
