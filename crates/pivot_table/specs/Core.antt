-- The core of a board: a history, the state of each row, and the seats; the events and moves of a seat, and runs of them.
use Rattle.std.specs.Prelude.{◌≡◌, ◌≢◌, ◌+◌, ◌-◌, ◌⊎◌, ℕ, zero, suc, Bool, true, false, Option, None, Some, List, [], ◌∷◌, ◌++◌, length, map, replicate, slice_set}
use mathlib.Core.Option.{some}
use lib.ListN.{get_elem?}
use Rattle.residue_words.specs.Matrix.{Matrix}
use Rattle.residue_words.specs.declared.plain.Pair.{Pair}
use Rattle.pivot_table.specs.History.{pair, LeastAlive, Dead, Grown, StartsWith}

-- the state of a row: held and done carry the seen length of the seat at the claim
pub data Mark : Type 0 where
  free : Mark
  held : ℕ → Mark
  done : ℕ → Mark

-- a place of the history at which a seat published, with the start of the row there
pub record PublishedPlace : Type 0 where
  pub place : ℕ
  pub start : ℕ

-- A `Seat` is what code steps with, and its chair is what it knows; the table keeps that in a `View`, and callers see it in a
-- `SeatState`. A chair has the pairs that it has seen, the row in hand with its start (0 where there is none) and a note whether it
-- is published, the row that it last met, the rows that it finished, the places that it published, and how often it was split
pub record Chair : Type 0 where
  pub seen : List Pair
  pub hand : Option ℕ
  pub start : ℕ
  pub published : Bool
  pub met : Option ℕ
  pub finished : List ℕ
  pub places : List PublishedPlace
  pub parted : ℕ

-- the seats by their numbers; None stands for one that is spent
pub record Core : Type 0 where
  pub history : List Pair
  pub rows : List Mark
  pub seats : List (Option Chair)

abbrev pub core : List Pair → List Mark → List (Option Chair) → Core
core history rows seats = record { history = history; rows = rows; seats = seats }

-- seat i, row r, the pair at place k
abbrev pub HasSeat : List (Option Chair) → ℕ → Chair → Type 0
HasSeat seats i s = get_elem? seats i ≡ some (Some s)

abbrev pub HasMark : List Mark → ℕ → Mark → Type 0
HasMark rows r x = get_elem? rows r ≡ some x

abbrev pub StandsAt : List Pair → ℕ → Pair → Type 0
StandsAt h k q = get_elem? h k ≡ some q

-- the row carries this start
abbrev pub Carries : List Mark → ℕ → ℕ → Type 0
Carries rows r n = HasMark rows r (held n) ⊎ HasMark rows r (done n)

-- what each event and move makes of a seat
abbrev pub claiming : Chair → ℕ → Chair
claiming s r = record s { hand = Some r; start = length s.seen; published = false }

abbrev pub seeing : Chair → Pair → Chair
seeing s q = record s { seen = s.seen ++ q ∷ [] }

abbrev pub published_place : ℕ → ℕ → PublishedPlace
published_place k n = record { place = k; start = n }

abbrev pub publishing : Chair → Pair → Chair
publishing s q = record s {
  seen = s.seen ++ q ∷ [];
  published = true;
  places = s.places ++ published_place (length s.seen) s.start ∷ [];
}

abbrev pub finishing : Chair → ℕ → Chair
finishing s r = record s { hand = None; start = 0; published = false; finished = s.finished ++ r ∷ [] }

abbrev pub meeting : Chair → ℕ → Chair
meeting s r = record s { met = Some r }

-- a seat that is split: what becomes of it, and the new one
abbrev pub parting : Chair → Chair
parting s = record s { parted = s.parted + 1 }

abbrev pub splitting : Chair → Chair
splitting s = record s {
  hand = None;
  start = 0;
  published = false;
  met = None;
  finished = [];
  places = [];
  parted = 0;
}

-- the longer of two lists, the first where they are as long, and the other one
abbrev pub longer_by : ℕ → List Pair → List Pair → List Pair
longer_by zero xs ys = xs
longer_by (suc n) xs ys = ys

abbrev pub longer : List Pair → List Pair → List Pair
longer xs ys = longer_by (length ys - length xs) xs ys

abbrev pub shorter_by : ℕ → List Pair → List Pair → List Pair
shorter_by zero xs ys = ys
shorter_by (suc n) xs ys = xs

abbrev pub shorter : List Pair → List Pair → List Pair
shorter xs ys = shorter_by (length ys - length xs) xs ys

abbrev pub joining : Chair → Chair → Chair
joining s t = record s {
  seen = longer s.seen t.seen;
  finished = s.finished ++ t.finished;
  places = s.places ++ t.places;
}

-- the opening: the rows of the history are done, the others free; one seat has seen the history and finished its rows
abbrev pub rows_of : List Pair → List ℕ
rows_of h = map (λ q. q.row) h

abbrev pub opened : List Pair → Chair
opened h = record {
  seen = h;
  hand = None;
  start = 0;
  published = false;
  met = None;
  finished = rows_of h;
  places = [];
  parted = 0;
}

abbrev pub with_done : List Pair → List Mark → List Mark
with_done [] rows = rows
with_done (q ∷ qs) rows = with_done qs (slice_set rows q.row (done 0))

abbrev pub opening_marks : Matrix → List Pair → List Mark
opening_marks A h = with_done h (replicate A.height free)

abbrev pub opening : Matrix → List Pair → Core
opening A h = core h (opening_marks A h) (Some (opened h) ∷ [])

-- the four events and the three moves: of seat i, with the row r or the column j; joining spends seat j
pub data Turn : Type 0 where
  claim : ℕ → ℕ → Turn
  see : ℕ → Turn
  publish : ℕ → ℕ → Turn
  finish : ℕ → Turn
  meet : ℕ → ℕ → Turn
  split : ℕ → Turn
  join : ℕ → ℕ → Turn

abbrev pub seated : Core → ℕ → Chair → List (Option Chair)
seated c i s = slice_set c.seats i (Some s)

-- the turn is allowed in the state c, and leads to d
abbrev pub Goes : Matrix → Core → Turn → Core → Type 0
Goes A c (claim i r) d = (s : Chair)
    × HasSeat c.seats i s × (s.hand ≡ None) × HasMark c.rows r free
    × (d ≡ core c.history (slice_set c.rows r (held (length s.seen))) (seated c i (claiming s r)))
Goes A c (see i) d = (s : Chair) × (q : Pair)
    × HasSeat c.seats i s × StartsWith c.history (s.seen ++ q ∷ [])
    × (d ≡ core c.history c.rows (seated c i (seeing s q)))
Goes A c (publish i j) d = (s : Chair) × (r : ℕ)
    × HasSeat c.seats i s × (s.hand ≡ Some r) × (s.published ≡ false)
    × (c.history ≡ s.seen) × LeastAlive A c.history r j
    × (d ≡ core (c.history ++ pair r j ∷ []) c.rows (seated c i (publishing s (pair r j))))
Goes A c (finish i) d = (s : Chair) × (r : ℕ)
    × HasSeat c.seats i s × (s.hand ≡ Some r) × ((s.published ≡ true) ⊎ Dead A s.seen r)
    × (d ≡ core c.history (slice_set c.rows r (done s.start)) (seated c i (finishing s r)))
Goes A c (meet i r) d = (s : Chair)
    × HasSeat c.seats i s × (¬ HasMark c.rows r free)
    × (d ≡ core c.history c.rows (seated c i (meeting s r)))
Goes A c (split i) d = (s : Chair)
    × HasSeat c.seats i s
    × (d ≡ core c.history c.rows (seated c i (parting s) ++ Some (splitting s) ∷ []))
Goes A c (join i j) d = (s : Chair) × (t : Chair)
    × HasSeat c.seats i s × HasSeat c.seats j t × (j ≢ i) × (t.hand ≡ None)
    × (d ≡ core c.history c.rows (slice_set (seated c i (joining s t)) j None))

-- the turns lead from c to d
abbrev pub IsRun : Matrix → Core → List Turn → Core → Type 0
IsRun A c [] d = c ≡ d
IsRun A c (e ∷ es) d = (b : Core) × Goes A c e b × IsRun A b es d

-- some run leads there from the opening with a grown history
abbrev pub Reached : Matrix → List Pair → Core → Type 0
Reached A h c = Grown A h × ((es : List Turn) × IsRun A (opening A h) es c)
