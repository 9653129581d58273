-- What a closed board leaves.
use Rattle.std.specs.Prelude.{◌≡◌, ◌<◌, ◌≤◌, ◌+◌, ◌-◌, ℕ, Bool, true, false, Option, None, Some, List, length, map, slice_index, slice_index_or, nat_lt, if◌then◌else◌}
use mathlib.Core.Option.{some}
use lib.ListN.{get_elem?}
use Rattle.residue_words.specs.declared.plain.Pair.{Pair}
use Rattle.pivot_table.specs.Core.{Mark, free, held, done, PublishedPlace}
use Rattle.std.specs.List.{Contains}
use Rattle.pivot_table.specs.Rule.{mark_word, pair_word}

-- whether a row is done, and the start that it carries
abbrev pub is_done : Mark → Bool
is_done free = false
is_done (held n) = false
is_done (done n) = true

abbrev pub start_of : Mark → ℕ
start_of free = 0
start_of (held n) = n
start_of (done n) = n

abbrev pub start_in : List Mark → Pair → ℕ
start_in rows q = start_of (slice_index_or rows q.row free)

-- what callers see of starts: those of the rows at the places from `first` on
pub record StartsState : Type 0 where
  pub first : ℕ
  pub starts : List ℕ

abbrev pub start_at : StartsState → ℕ → Option ℕ
start_at b k = if nat_lt k b.first then None
    else (if nat_lt (k - b.first) (length b.starts) then Some (slice_index b.starts (k - b.first)) else None)

abbrev pub IsDone : List Bool → ℕ → Type 0
IsDone marks r = slice_index_or marks r false ≡ true

-- the starts are those of the places from `from` up to `to`, and none is above its place
pub record AreStartsFrom (from to : ℕ) (b : StartsState) : Type 0 where
  pub first : b.first ≡ from
  pub long : b.first + length b.starts ≡ to
  pub low : (k n : ℕ) → start_at b k ≡ Some n → n ≤ k

-- the places that a seat published are among them, with their starts
abbrev pub AreAmongStarts : List PublishedPlace → StartsState → Type 0
AreAmongStarts places b = (x : PublishedPlace) → Contains places x → start_at b x.place ≡ Some x.start

-- what words say: the cells before c say the history, the words from c on the rows
pub record CellsSay (words : List ℕ) (c : ℕ) (h : List Pair) : Type 0 where
  pub full : (k : ℕ) (q : Pair) → get_elem? h k ≡ some q →
      (slice_index words k ≡ pair_word q) × (q.col < 4294967296)
  pub empty : (k : ℕ) → length h ≤ k → k < c → slice_index words k ≡ 0
  pub short : length h ≤ c

pub record MarksSay (words : List ℕ) (c height : ℕ) (rows : List Mark) : Type 0 where
  pub tall : length rows ≡ height
  pub each : (r : ℕ) (x : Mark) → get_elem? rows r ≡ some x → slice_index words (c + r) ≡ mark_word x

-- whatever rows the words say, these tell which of them are done
abbrev pub SayDone : List ℕ → ℕ → ℕ → List Bool → Type 0
SayDone words c height marks = (rows : List Mark) → MarksSay words c height rows → marks ≡ map is_done rows

-- and these are the starts of the rows of the pairs, where the rows are the last of n words
abbrev pub SayStarts : List ℕ → ℕ → ℕ → List Pair → List ℕ → Type 0
SayStarts words n c pairs starts = (height : ℕ) (rows : List Mark) → MarksSay words c height rows →
    c + height ≡ n → starts ≡ map (start_in rows) pairs
