-- Where the rows of cells begin.
use Rattle.std.proofs.Common.{ℕ, suc, ◌≡◌, ◌≢◌, ◌+◌, ◌-◌, ◌<◌, ◌≤◌, ◌⊎◌, inl, inr, List, [], ◌∷◌, ◌++◌, length, replicate, drop, get_or, slice_index, slice_range, refl, ap, ◌∙◌, arith}
use Rattle.std.specs.List.{All}
use Rattle.std.proofs.lemmas.Bool.{cases_eq, cases_lt}
use Rattle.std.proofs.lemmas.List.{get_or_append_left, get_or-append_right, get_or-drop, get_or-replicate, get_or-take, get_or_default, length-append, length-drop, length-replicate, length-take-le}
use Rattle.std.proofs.lemmas.List.Elements.{All-cons, All-get_or, All-nil}
use Rattle.matrix_cells.specs.declared.values_at_places.Cell.{Cell}
use Rattle.matrix_cells.specs.Cells.{AreCuts, IsByRows, IsCut, row_of}
use Rattle.column_lists.specs.Parts.{AreStarts}

-- what holds of each item of a list, and of x at the places behind it, holds of the list with n times x more
pub each_resized : (P : ℕ → ℕ → Type 0) (xs : List ℕ) (n x : ℕ) → ((i : ℕ) → i < length xs → P i (slice_index xs i)) → ((i : ℕ) → length xs ≤ i → i < length xs + n → P i x) →
    (i : ℕ) → i < length xs + n → P i (slice_index (xs ++ replicate n x) i)
each_resized P xs n x old new i l = elim (cases_lt i (length xs)) [
  | inl b ↦ rw (get_or_append_left xs (replicate n x) 0 i b) (old i b)
  | inr b ↦ rw (get_or-append_right xs (replicate n x) (length xs) i 0 refl b, get_or-replicate n (i - length xs) x 0 (omega arith)) (new i b l)
]

-- the rows of the first k cells begin at `starts`
pub record AreCutsSoFar (m : ℕ) (cells : List Cell) (k : ℕ) (starts : List ℕ) : Type 0 where
  pub few : length starts ≤ m
  pub passed : (t : ℕ) (d : Cell) → t < k → t < length cells → row_of (get_or cells t d) < length starts
  pub ahead : (t : ℕ) (d : Cell) → k ≤ t → t < length cells → length starts ≤ row_of (get_or cells t d) + 1
  pub each : (i : ℕ) → i < length starts → IsCut cells i (slice_index starts i)

pub cuts_none : (m : ℕ) (cells : List Cell) → AreCutsSoFar m cells 0 []
cuts_none m cells = record { few = omega arith; passed = λ t d l b. absurd (omega arith); ahead = λ t d l b. omega arith; each = λ i l. absurd (omega arith) }

-- a cell's row, whatever stands for a cell that isn't there
pub row_default : (cells : List Cell) (k : ℕ) (d e : Cell) → k < length cells → row_of (get_or cells k d) ≡ row_of (get_or cells k e)
row_default cells k d e l = ap row_of (get_or_default cells k d e l)

-- rows up to that of cell k begin before it, where no earlier cell lies in the row or behind
pub cut_here : (m : ℕ) (cells : List Cell) (k : ℕ) (d : Cell) (starts : List ℕ) → AreCutsSoFar m cells k starts → IsByRows cells → k < length cells →
    (i : ℕ) → length starts ≤ i → i ≤ row_of (get_or cells k d) → IsCut cells i k
cut_here m cells k d starts s up l i a b = record {
  inside = omega arith;
  before = λ t e u. omega (arith, s.passed t e u (omega arith));
  behind = λ t e u w. omega (arith, up k t e u w, row_default cells k d e l);
}

-- cell k is taken up
pub cuts_more : (m : ℕ) (cells : List Cell) (k row n : ℕ) (d : Cell) (starts : List ℕ) → AreCutsSoFar m cells k starts → All (λ c. row_of c < m) cells → IsByRows cells → k < length cells →
    row ≡ row_of (get_or cells k d) → length starts + n ≡ row + 1 → AreCutsSoFar m cells (k + 1) (starts ++ replicate n k)
cuts_more m cells k row n d starts s within up l at e =
    let long : length (starts ++ replicate n k) ≡ row + 1 = length-append starts (replicate n k) ∙ ap (λ t. length starts + t) (length-replicate n k) ∙ e in
    record {
      few = omega (arith, All-get_or (λ c. row_of c < m) cells k d l within);
      passed = λ t f a b. omega (arith, up t k f (omega arith) l, row_default cells k d f l);
      ahead = λ t f a b. omega (arith, up k t f (omega arith) b, row_default cells k d f l);
      each = λ i b. each_resized (IsCut cells) starts n k s.each (λ j a u. cut_here m cells k d starts s up l j a (omega arith)) i (omega arith);
    }

-- rows behind the last cell begin at its end
pub cuts_all : (m : ℕ) (cells : List Cell) (k n : ℕ) (starts : List ℕ) → AreCutsSoFar m cells k starts → length cells ≤ k → length starts + n ≡ m + 1 →
    AreCuts m cells (starts ++ replicate n (length cells))
cuts_all m cells k n starts s l e =
    let x : ℕ = length cells in
    record {
      long = length-append starts (replicate n x) ∙ ap (λ t. length starts + t) (length-replicate n x) ∙ e;
      each = λ i b. each_resized (IsCut cells) starts n x s.each (λ j a u. record {
        inside = omega arith;
        before = λ t d w. omega (arith, s.passed t d (omega arith) w);
        behind = λ t d u w. absurd (omega arith);
      }) i (omega arith);
    }

-- a list's part is read in the list
pub at_range : {X : Type 0} (xs : List X) (a b k : ℕ) (d : X) → k < b - a → get_or (slice_range xs a b) k d ≡ get_or xs (a + k) d
at_range {X} xs a b k d l = get_or-take (b - a) (drop a xs) k d l ∙ get_or-drop a xs k d

-- how long it is
pub length_range : {X : Type 0} (xs : List X) (a b : ℕ) → b ≤ length xs → length (slice_range xs a b) ≡ b - a
length_range {X} xs a b l = length-take-le (b - a) (drop a xs) (omega (arith, length-drop a xs))

-- there is no cell at the place, or one
pub cell_at : (t : ℕ) (cells : List Cell) → All (λ c. c.place ≢ t) cells ⊎ ((k : ℕ) × (k < length cells) × ((d : Cell) → (get_or cells k d).place ≡ t))
cell_at t [] = inl (All-nil (λ c. c.place ≢ t))
cell_at t (c ∷ cells) = elim (cases_eq c.place t) [
  | inl e ↦ inr (0, omega arith, λ d. e)
  | inr d ↦ elim (cell_at t cells) [
    | inl none ↦ inl (All-cons (λ c. c.place ≢ t) c cells d none)
    | inr w ↦ inr (suc w.0, omega (arith, w.1), λ d. w.2 d)
  ]
]

-- where the first cells of row 0, 1, .. stand
pub are_starts : (m : ℕ) (cells : List Cell) (starts : List ℕ) → Cell → AreCuts m cells starts → All (λ c. row_of c < m) cells → AreStarts m (length cells) starts
are_starts m cells starts d cuts within = record {
  long = cuts.long;
  first = elim (cases_eq (slice_index starts 0) 0) [
    | inl z ↦ z
    | inr n ↦ absurd (omega (arith, (cuts.each 0 (omega arith)).before 0 d (omega arith)))
  ];
  rising = λ i l. elim (cases_lt (slice_index starts (i + 1)) (slice_index starts i)) [
    | inl b ↦
        let t : ℕ = slice_index starts (i + 1) in
        absurd (omega (arith, (cuts.each i (omega arith)).before t d b, (cuts.each (i + 1) (omega arith)).behind t d (omega arith) (omega (arith, (cuts.each i (omega arith)).inside))))
    | inr b ↦ b
  ];
  last = elim (cases_lt (slice_index starts m) (length cells)) [
    | inl b ↦ absurd (omega (arith, (cuts.each m (omega arith)).behind (slice_index starts m) d (omega arith) b, All-get_or (λ c. row_of c < m) cells (slice_index starts m) d b within))
    | inr b ↦ omega (arith, (cuts.each m (omega arith)).inside)
  ];
}
