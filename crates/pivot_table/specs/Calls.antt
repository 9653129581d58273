-- What the calls of a board need and tell: of what a seat knows before the call and after it.
use Rattle.std.specs.Prelude.{◌≡◌, ◌≢◌, ◌⊎◌, ℕ, true, Some, length}
use Rattle.residue_words.specs.Matrix.{Matrix}
use Rattle.residue_words.specs.declared.plain.Pair.{Pair}
use Rattle.pivot_table.specs.History.{pair, Alive, Dead, HasRow, LeastAlive}
use Rattle.pivot_table.specs.Core.{Chair, claiming, finishing, publishing, seeing}
use Rattle.pivot_table.specs.declared.board.Outcome.{Outcome}
use Rattle.pivot_table.specs.declared.board.Outcome.TheVariants as told

-- the row came in hand; it is in no pair that the seat has seen
abbrev pub Claims : Chair → ℕ → Chair → Type 0
Claims s r t = (t ≡ claiming s r) × (¬ HasRow s.seen r)

-- the column is the least alive one for the row in hand in what the seat has seen
abbrev pub MayPublish : Matrix → Chair → ℕ → Type 0
MayPublish A s j = (r : ℕ) × (s.hand ≡ Some r) × LeastAlive A s.seen r j

-- the row in hand was published at the column, at the place behind what the seat had seen
abbrev pub Publishes : Chair → ℕ → ℕ → Chair → Type 0
Publishes s j k t = (k ≡ length s.seen) × ((r : ℕ) × (s.hand ≡ Some r) × (t ≡ publishing s (pair r j)))

-- the next pair was seen: it was alive in what the seat had seen, and isn't of the row in hand
abbrev pub Sees : Matrix → Chair → Pair → Chair → Type 0
Sees A s q t = Alive A s.seen q.row q.col × (s.hand ≢ Some q.row) × (t ≡ seeing s q)

-- what a try to publish came to
abbrev pub IsOutcome : Matrix → Chair → ℕ → Outcome → Chair → Type 0
IsOutcome A s j (told.Published k) t = Publishes s j k t
IsOutcome A s j (told.Newer q) t = Sees A s q t

-- the row in hand is published, or dead in what the seat has seen
abbrev pub MayFinish : Matrix → Chair → Type 0
MayFinish A s = (r : ℕ) × (s.hand ≡ Some r) × ((s.published ≡ true) ⊎ Dead A s.seen r)

-- the row in hand was let go
abbrev pub Finishes : Chair → Chair → Type 0
Finishes s t = (r : ℕ) × (s.hand ≡ Some r) × (t ≡ finishing s r)
