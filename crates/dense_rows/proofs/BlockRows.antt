-- Rows that change one after another.
use Rattle.std.proofs.Common.{ℕ, ◌≡◌, ◌+◌, ◌-◌, ◌<◌, ◌≤◌, drop, inl, inr, length-drop, take, List, [], ◌∷◌, ◌++◌, length, slice_index_or, slice_set, sym, ap, subst, ◌∙◌, arith, length-append}
use Rattle.std.proofs.Math.ListN.{get_or-append}
use Rattle.std.proofs.Math.Seq.{get_or-append_seam}
use Rattle.std.proofs.lemmas.Bool.{cases_eq}
use borrow.Rule.Slice.PartMut.{post_of, put_mid}
use Rattle.std.proofs.lemmas.List.{get_or-append_right, get_or-drop, get_or-set_other, get_or-set_same, get_or-take, get_or_append_left, get_or_default, length-take-le}
use Rattle.std.proofs.lemmas.Slice.{drop-put_mid}
use Rattle.dense_rows.specs.Rows.{block_row}

-- what holds of the rows before k and of v, holds with v put at k
pub each_more : (P : List ℕ → List ℕ → Type 0) (xs ys : List (List ℕ)) (k : ℕ) (v : List ℕ) → k < length ys → P (block_row xs k) v →
    ((t : ℕ) → t < k → P (block_row xs t) (block_row ys t)) → (t : ℕ) → t < k + 1 → P (block_row xs t) (block_row (slice_set ys k v) t)
each_more P xs ys k v l here before t lt =
    elim (cases_eq t k) [
      | inl e ↦ subst (P (block_row xs t)) (sym (ap (block_row (slice_set ys k v)) e ∙ get_or-set_same ys k v [] l)) (subst (λ s. P (block_row xs s) v) (sym e) here)
      | inr d ↦ subst (P (block_row xs t)) (sym (get_or-set_other ys k t v [] d)) (before t (omega arith))
    ]

-- a row that is read is this row
pub read_row : (rows : List (List ℕ)) (k : ℕ) (v : List ℕ) → k < length rows → slice_index_or rows k v ≡ block_row rows k
read_row rows k v l = get_or_default rows k v [] l

-- what holds of each row and of v, holds with v behind them
pub appended : (P : ℕ → List ℕ → Type 0) (xs : List (List ℕ)) (v : List ℕ) → P (length xs) v → ((t : ℕ) → t < length xs → P t (block_row xs t)) →
    (t : ℕ) → t < length (xs ++ v ∷ []) → P t (block_row (xs ++ v ∷ []) t)
appended P xs v here before t l =
    elim (cases_eq t (length xs)) [
      | inl e ↦ subst (P t) (sym (ap (block_row (xs ++ v ∷ [])) e ∙ get_or-append_seam xs v [] [])) (subst (λ s. P s v) (sym e) here)
      | inr d ↦ let less : t < length xs = omega (arith, length-append xs (v ∷ [])) in subst (P t) (sym (get_or-append xs (v ∷ []) [] t less)) (before t less)
    ]

-- a part of the rows, and the rows when the part is put back changed
pub part_row : (a k : ℕ) (rows : List (List ℕ)) (t : ℕ) → t < k → block_row (take k (drop a rows)) t ≡ block_row rows (a + t)
part_row a k rows t l = get_or-take k (drop a rows) t [] l ∙ get_or-drop a rows t []

pub put_row_below : (a k : ℕ) (rows part : List (List ℕ)) (t : ℕ) → a ≤ length rows → t < a → block_row (put_mid a k rows part) t ≡ block_row rows t
put_row_below a k rows part t within l = get_or_append_left (take a rows) _ [] t (omega (arith, length-take-le a rows within)) ∙ get_or-take a rows t [] l

pub put_row_at : (a k : ℕ) (rows part : List (List ℕ)) (t : ℕ) → a ≤ length rows → t < length part → block_row (put_mid a k rows part) (a + t) ≡ block_row part t
put_row_at a k rows part t within l =
    let back : a + t - a ≡ t = omega arith in
    get_or-append_right (take a rows) _ a (a + t) [] (length-take-le a rows within) (omega arith) ∙ ap (λ i. slice_index_or (part ++ post_of a k rows) i []) back ∙ get_or_append_left part _ [] t l

pub put_row_behind : (a k : ℕ) (rows part : List (List ℕ)) (t : ℕ) → a ≤ length rows → length part ≡ k → a + k ≤ t → block_row (put_mid a k rows part) t ≡ block_row rows t
put_row_behind a k rows part t within long le =
    let place : a + k + (t - (a + k)) ≡ t = omega arith in
    ap (block_row (put_mid a k rows part)) (sym place) ∙ sym (get_or-drop (a + k) (put_mid a k rows part) (t - (a + k)) [])
    ∙ ap (λ l. slice_index_or l (t - (a + k)) []) (drop-put_mid a k rows part (a + k) (omega arith) within long) ∙ get_or-drop (a + k) rows (t - (a + k)) [] ∙ ap (block_row rows) place

-- what holds of each row of the last part and what it becomes
pub put_each : (P : List ℕ → List ℕ → Type 0) (a : ℕ) (rows part : List (List ℕ)) → a ≤ length rows → length part ≡ length (take (length rows - a) (drop a rows)) →
    ((t : ℕ) → t < length (take (length rows - a) (drop a rows)) → P (block_row (take (length rows - a) (drop a rows)) t) (block_row part t)) →
    (t : ℕ) → a ≤ t → t < length rows → P (block_row rows t) (block_row (put_mid a (length rows - a) rows part) t)
put_each P a rows part within same each t le l =
    let k : ℕ = length rows - a in
    let long : length (take k (drop a rows)) ≡ k = length-take-le k (drop a rows) (omega (arith, length-drop a rows)) in
    let place : a + (t - a) ≡ t = omega arith in
    let less : t - a < k = omega arith in
    let old = part_row a k rows (t - a) less ∙ ap (block_row rows) place in
    let now = sym (put_row_at a k rows part (t - a) within (omega arith)) ∙ ap (block_row (put_mid a k rows part)) place in
    subst (P (block_row rows t)) now (subst (λ v. P v (block_row part (t - a))) old (each (t - a) (omega arith)))
