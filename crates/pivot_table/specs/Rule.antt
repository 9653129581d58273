-- The words of the table, and the rule over them and the views.
use Rattle.std.specs.Prelude.{◌≡◌, ◌≢◌, ℕ, ◌<◌, ◌≤◌, ◌+◌, ◌-◌, ◌*◌, ◌/◌, ◌%◌, min, Bool, true, false, Option, None, Some, List, [], length, map, slice_index}
use mathlib.Core.Option.{some}
use lib.ListN.{get_elem?}
use Rattle.atomic_table.specs.Table.{State, Me, Step}
use Rattle.residue_words.specs.Matrix.{Matrix}
use Rattle.residue_words.specs.declared.plain.Pair.{Pair}
use Rattle.pivot_table.specs.History.{pair, HasRow, Alive, StartsWith}
use Rattle.pivot_table.specs.Core.{Mark, free, held, done, Chair, core, Reached, claiming, meeting, seeing, publishing, finishing, parting, splitting, joining, shorter, opened, opening_marks}
use Rattle.pivot_table.specs.declared.view.View.{View}

abbrev pub view : Matrix → Bool → Chair → View
view a live s = record { matrix = a; live = live; chair = s; heard = [] }

-- the seat of a view; none where it is spent
abbrev pub seat_by : Bool → Chair → Option Chair
seat_by true s = Some s
seat_by false s = None

abbrev pub seat_of : View → Option Chair
seat_of v = seat_by v.live v.chair

abbrev pub mark_word : Mark → ℕ
mark_word free = 0
mark_word (held n) = 2 * n + 1
mark_word (done n) = 2 * n + 2

abbrev pub pair_word : Pair → ℕ
pair_word q = (q.row + 1) * 4294967296 + q.col

abbrev pub pair_of : ℕ → Pair
pair_of n = pair (n / 4294967296 - 1) (n % 4294967296)

-- the first word of the rows: before it stand the cells of the history and one that stays empty
abbrev pub rows_at : Matrix → ℕ
rows_at A = min A.height A.width + 1

pub record Spells (A : Matrix) (words : List ℕ) (h : List Pair) (rows : List Mark) : Type 0 where
  pub cells : (k : ℕ) (q : Pair) → get_elem? h k ≡ some q → slice_index words k ≡ pair_word q
  pub empty : (k : ℕ) → length h ≤ k → k < rows_at A → slice_index words k ≡ 0
  pub marks : (r : ℕ) (x : Mark) → get_elem? rows r ≡ some x → slice_index words (rows_at A + r) ≡ mark_word x
  pub height : length rows ≡ A.height
  pub size : length words ≡ rows_at A + A.height

-- the words of a board with this history, on which nothing was done yet
abbrev pub SpellsOpening : Matrix → List ℕ → List Pair → Type 0
SpellsOpening A words h = Spells A words h (opening_marks A h)

-- a view that is not spent names the board's matrix
abbrev pub OfBoard : Matrix → List View → Type 0
OfBoard A views = (i : ℕ) (v : View) → get_elem? views i ≡ some v → v.live ≡ true → v.matrix ≡ A

-- what a seat has heard of is a beginning of what it has seen
abbrev pub HaveHeard : List View → Type 0
HaveHeard views = (i : ℕ) (v : View) → get_elem? views i ≡ some v → StartsWith v.chair.seen v.heard

-- The rule: the words and the views that are not spent spell a state of the core that a run reached from the opening
pub record SpellsRun (A : Matrix) (h0 : List Pair) (s : State (Unit {0}) View) : Type 0 where
  pub history : List Pair
  pub rows : List Mark
  pub reached : Reached A h0 (core history rows (map seat_of s.views))
  pub spells : Spells A s.words history rows
  pub of_board : OfBoard A s.views
  pub heard : HaveHeard s.views
  pub narrow : A.width ≤ 4294967296

abbrev pub TableSeat : Type 0
TableSeat = Me (Unit {0}) View

abbrev pub with_chair : TableSeat → Chair → TableSeat
with_chair m s = (view m.0.matrix m.0.live s, m.1)

-- what a step tells: of the step, the seat before, the number found and the seat after
abbrev pub row_of_step : Step (Unit {0}) → TableSeat → ℕ
row_of_step st m = st.word - rows_at m.0.matrix

abbrev pub claimed : Step (Unit {0}) → TableSeat → ℕ → TableSeat → Type 0
claimed st m n m' =
    (n ≡ 0 → (m' ≡ with_chair m (claiming m.0.chair (row_of_step st m)))
    × (¬ HasRow m.0.chair.seen (row_of_step st m)))
    × (n ≢ 0 → m' ≡ with_chair m (meeting m.0.chair (row_of_step st m)))

abbrev pub finished : Step (Unit {0}) → TableSeat → ℕ → TableSeat → Type 0
finished st m n m' = m' ≡ with_chair m (finishing m.0.chair (row_of_step st m))

-- the pair found was alive in what was seen, and its row is not the one in hand
abbrev pub published : Step (Unit {0}) → TableSeat → ℕ → TableSeat → Type 0
published st m n m' = (length m'.0.chair.seen < rows_at m.0.matrix)
    × (n ≡ 0 → m' ≡ with_chair m (publishing m.0.chair (pair_of st.second)))
    × (n ≢ 0 → (m' ≡ with_chair m (seeing m.0.chair (pair_of n))) × (4294967296 ≤ n)
    × Alive m.0.matrix m.0.chair.seen (pair_of n).row (pair_of n).col
    × (m.0.chair.hand ≢ Some (pair_of n).row))

-- a seat that only looks learns that what it heard of is a beginning of what it has seen
abbrev pub looked : Step (Unit {0}) → TableSeat → ℕ → TableSeat → Type 0
looked st m n m' = (m' ≡ with_chair m m.0.chair) × StartsWith m.0.chair.seen m.0.heard

-- the second of two views is spent
abbrev pub spent_view : View
spent_view = view (record { height = 0; width = 0; rows = [] }) false (opened [])

abbrev pub joined : View → View → View
joined v w = record {
  matrix = v.matrix;
  live = v.live;
  chair = joining v.chair w.chair;
  heard = shorter v.chair.seen w.chair.seen;
}

-- the view of a seat that is split, and that of the new one
abbrev pub old_part : View → View
old_part v = view v.matrix v.live (parting v.chair)

abbrev pub new_part : View → View
new_part v = view v.matrix v.live (splitting v.chair)
