-- What holds of the core at each moment.
use Rattle.std.specs.Prelude.{◌≡◌, ◌≢◌, ◌<◌, ◌≤◌, ◌⊎◌, ℕ, true, false, Some, List, [], ◌∷◌, ◌++◌, length}
use Rattle.std.specs.List.{Contains}
use Rattle.residue_words.specs.Matrix.{Matrix}
use Rattle.residue_words.specs.declared.plain.Pair.{Pair}
use Rattle.pivot_table.specs.History.{HasRow, HasCol, Grown, StandsOrIsDead, StartsWith}
use Rattle.pivot_table.specs.Core.{Mark, free, held, done, PublishedPlace, Chair, Core, HasSeat, HasMark, StandsAt, Carries, Turn, Goes, Reached}

abbrev pub HaveDistinctPlaces : List PublishedPlace → Type 0
HaveDistinctPlaces [] = Unit {0}
HaveDistinctPlaces (x ∷ xs) = ((y : PublishedPlace) → Contains xs y → x.place ≢ y.place) × HaveDistinctPlaces xs

-- what holds of each seat
pub record Sound (h : List Pair) (rows : List Mark) (s : Chair) : Type 0 where
  pub seen_first : StartsWith h s.seen
  pub hand_held : (r : ℕ) → s.hand ≡ Some r → HasMark rows r (held s.start)
  pub hand_start : (r : ℕ) → s.hand ≡ Some r → s.start ≤ length s.seen
  pub hand_in : (r : ℕ) → s.hand ≡ Some r → s.published ≡ true → HasRow h r
  pub hand_out : (r : ℕ) → s.hand ≡ Some r → s.published ≡ false → ¬ HasRow h r
  pub met_not_free : (r : ℕ) → s.met ≡ Some r → ¬ HasMark rows r free
  pub finished_done : (r : ℕ) → Contains s.finished r → (n : ℕ) × HasMark rows r (done n)
  pub places_below : (x : PublishedPlace) → Contains s.places x → x.place < length s.seen
  pub places_distinct : HaveDistinctPlaces s.places
  pub places_start : (x : PublishedPlace) → Contains s.places x →
      (q : Pair) × StandsAt h x.place q × Carries rows q.row x.start

-- what holds of two seats: they have no row in hand and no place in common
pub record Apart (s t : Chair) : Type 0 where
  pub hands : (r : ℕ) → s.hand ≡ Some r → t.hand ≢ Some r
  pub places : (x y : PublishedPlace) → Contains s.places x → Contains t.places y → x.place ≢ y.place

pub record Lawful (A : Matrix) (c : Core) : Type 0 where
  pub grown : Grown A c.history
  pub free_is_fresh : (r : ℕ) → HasMark c.rows r free → ¬ HasRow c.history r
  pub done_is_settled : (r n : ℕ) → HasMark c.rows r (done n) → StandsOrIsDead A c.history r
  pub held_in_hand : (r n : ℕ) → HasMark c.rows r (held n) →
      (i : ℕ) × (s : Chair) × HasSeat c.seats i s × (s.hand ≡ Some r)
  pub started : (k : ℕ) (q : Pair) → StandsAt c.history k q → (n : ℕ) × Carries c.rows q.row n × (n ≤ k)
  pub each : (i : ℕ) (s : Chair) → HasSeat c.seats i s → Sound c.history c.rows s
  pub apart : (i j : ℕ) (s t : Chair) → HasSeat c.seats i s → HasSeat c.seats j t → i ≢ j → Apart s t

-- the history begins with the one of the opening, and each place that a seat published lies behind it
pub record After (h : List Pair) (c : Core) : Type 0 where
  pub begins : StartsWith c.history h
  pub behind : (i : ℕ) (s : Chair) (x : PublishedPlace) → HasSeat c.seats i s → Contains s.places x →
      length h ≤ x.place

-- the laws of runs
abbrev pub RunsAreLawful : Type 0
RunsAreLawful = (A : Matrix) (h : List Pair) (c : Core) → Reached A h c → Lawful A c

-- a turn leaves the history as it was, or it gets one pair more, with a row and a column that were fresh
abbrev pub IsSameOrOneMore : List Pair → List Pair → Type 0
IsSameOrOneMore h g = (g ≡ h) ⊎ ((q : Pair) × (g ≡ h ++ q ∷ []) × (¬ HasRow h q.row) × (¬ HasCol h q.col))

abbrev pub HistoryOnlyGrows : Type 0
HistoryOnlyGrows = (A : Matrix) (c d : Core) (e : Turn) → Goes A c e d → IsSameOrOneMore c.history d.history

abbrev pub RunsBeginWithOpening : Type 0
RunsBeginWithOpening = (A : Matrix) (h : List Pair) (c : Core) → Reached A h c → After h c
