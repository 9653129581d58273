-- Row spaces, and rows with places of their own (echelon forms and kernel bases alike).
use Rattle.std.proofs.Common.{ℕ, zero, suc, ◌≡◌, ◌≢◌, ◌*◌, ◌%◌, ◌<◌, ◌≤◌, inl, inr, List, slice_index, sym, refl, ap, subst, ◌∙◌, arith, mod-eq_of_lt, mul-one, mul-zero}
use Rattle.std.proofs.lemmas.Bool.{cases_lt, cases_eq}
use Rattle.residue_words.specs.Residues.{sum_below}
use Rattle.residue_words.specs.Matrix.{Matrix, IsVector, IsMatrix, IsCombination, row, entry, combine, zeros}
use Rattle.residue_words.proofs.Sums.{sum_single, sum_has}
use Rattle.residue_words.proofs.Vectors.{at_combine, at_zeros, zeros_vector, vector_equal, combination_through, combine_single, matrix_equal}
use Rattle.row_space.specs.Echelon.{HasPlaces, SameSpan, IsIndependent}

-- to have the same row space goes both ways, and on
pub same_span_turned : (p : ℕ) (A B : Matrix) → SameSpan p A B → SameSpan p B A
same_span_turned p A B s v = let e = s v in (e.1, e.0)

pub same_span_chained : (p : ℕ) (A B C : Matrix) → SameSpan p A B → SameSpan p B C → SameSpan p A C
same_span_chained p A B C s t v = let e = s v in let f = t v in (λ a. f.0 (e.0 a), λ c. e.1 (f.1 c))

-- two matrices have the same row space where the rows of each are combinations of the other's
pub same_span_of_rows : (p : ℕ) (A B : Matrix) → 0 < p → A.width ≡ B.width → ((i : ℕ) → i < A.height → IsCombination p B (row A i)) →
    ((k : ℕ) → k < B.height → IsCombination p A (row B k)) → SameSpan p A B
same_span_of_rows p A B pos width to from v = (combination_through p A B v pos width to, combination_through p B A v pos (sym width) from)

-- rows that agree on r rows and n columns have the same places
pub places_equal : (Past : ℕ → ℕ → Type 0) (r n : ℕ) (e f : ℕ → ℕ → ℕ) (place at : ℕ → ℕ) → HasPlaces Past r n e place →
    ((k j : ℕ) → k < r → j < n → e k j ≡ f k j) → ((k : ℕ) → k < r → place k ≡ at k) → HasPlaces Past r n f at
places_equal Past r n e f place at h same moved = record {
  inside = λ k l. subst (λ x. x < n) (moved k l) (h.inside k l);
  one = λ k l. subst (λ x. f k x ≡ 1) (moved k l) (sym (same k (place k) l (h.inside k l)) ∙ h.one k l);
  past = λ k j l m past. sym (same k j l m) ∙ h.past k j l m (subst (λ x. Past j x) (sym (moved k l)) past);
  rising = λ k t a b. let l : k < r = omega arith in omega (arith, h.rising k t a b, moved k l, moved t b);
  alone = λ k t a b d. subst (λ x. f t x ≡ 0) (moved k a) (sym (same t (place k) b (h.inside k a)) ∙ h.alone k t a b d);
}

-- places that rise are equal only for equal rows
pub places_apart : (Past : ℕ → ℕ → Type 0) (r n : ℕ) (e : ℕ → ℕ → ℕ) (place : ℕ → ℕ) → HasPlaces Past r n e place → (k t : ℕ) → k < r → t < r → k ≢ t → place k ≢ place t
places_apart Past r n e place h k t a b d same =
    elim (cases_lt k t) [ inl less ↦ omega (arith, h.rising k t less b) | inr more ↦ omega (arith, h.rising t k (omega arith) a) ]

-- a combination of rows with places, read at a place, is its coefficient there
pub place_sum : (Past : ℕ → ℕ → Type 0) (r n : ℕ) (e : ℕ → ℕ → ℕ) (place : ℕ → ℕ) → HasPlaces Past r n e place → (y : ℕ → ℕ) (k : ℕ) → k < r →
    sum_below r (λ i. y i * e i (place k)) ≡ y k
place_sum Past r n e place h y k l =
    sum_single r (λ i. y i * e i (place k)) k l (λ i li d. ap (λ x. y i * x) (h.alone k i l li d) ∙ mul-zero (y i))
    ∙ ap (λ x. y k * x) (h.one k l) ∙ mul-one (y k)

pub place_coefficient : (p : ℕ) (Past : ℕ → ℕ → Type 0) (F : Matrix) (place : ℕ → ℕ) → HasPlaces Past F.height F.width (entry F) place →
    (y : List ℕ) → IsVector p F.height y → (k : ℕ) → k < F.height → slice_index (combine p y F) (place k) ≡ slice_index y k
place_coefficient p Past F place h y vector k l =
    at_combine p y F (place k) (h.inside k l) ∙ ap (λ x. x % p) (place_sum Past F.height F.width (entry F) place h (slice_index y) k l)
    ∙ mod-eq_of_lt (vector.residues k l)

-- rows with places are independent
pub places_independent : (p : ℕ) (Past : ℕ → ℕ → Type 0) (F : Matrix) (place : ℕ → ℕ) → 0 < p → HasPlaces Past F.height F.width (entry F) place → IsIndependent p F
places_independent p Past F place pos h y vector zero_sum =
    vector_equal p F.height y (zeros F.height) vector (zeros_vector p F.height pos) (λ k l.
    sym (place_coefficient p Past F place h y vector k l) ∙ ap (λ u. slice_index u (place k)) zero_sum ∙ at_zeros F.width (place k) (h.inside k l) ∙ sym (at_zeros F.height k l))

-- two rising lists with the same members are equal
pub rising_equal : (r s : ℕ) (a b : ℕ → ℕ) → ((k t : ℕ) → k < t → t < r → a k < a t) → ((k t : ℕ) → k < t → t < s → b k < b t) →
    ((k : ℕ) → k < r → (t : ℕ) × (t < s) × (a k ≡ b t)) → ((t : ℕ) → t < s → (k : ℕ) × (k < r) × (b t ≡ a k)) → (r ≡ s) × ((k : ℕ) → k < r → a k ≡ b k)
rising_equal zero zero a b up down to from = (refl, λ k l. absurd (omega arith))
rising_equal zero (suc s) a b up down to from = let w = from 0 (omega arith) in absurd (omega (arith, w.1))
rising_equal (suc r) zero a b up down to from = let w = to 0 (omega arith) in absurd (omega (arith, w.1))
rising_equal (suc r) (suc s) a b up down to from =
    let most_a : (k : ℕ) → k < suc r → a k ≤ a r = λ k l. elim (cases_eq k r) [ inl e ↦ omega (arith, ap a e) | inr d ↦ omega (arith, up k r (omega arith) (omega arith)) ] in
    let most_b : (t : ℕ) → t < suc s → b t ≤ b s = λ t l. elim (cases_eq t s) [ inl e ↦ omega (arith, ap b e) | inr d ↦ omega (arith, down t s (omega arith) (omega arith)) ] in
    let w = to r (omega arith) in
    let v = from s (omega arith) in
    let top : a r ≡ b s = omega (arith, most_b w.0 w.1, most_a v.0 v.1, w.2, v.2) in
    let rest : (r ≡ s) × ((k : ℕ) → k < r → a k ≡ b k) = rising_equal r s a b (λ k t m n. up k t m (omega arith)) (λ k t m n. down k t m (omega arith))
    (λ k l. let x = to k (omega arith) in
    elim (cases_eq x.0 s) [ inl e ↦ absurd (omega (arith, up k r l (omega arith), ap b e, x.2)) | inr d ↦ (x.0, omega (arith, x.1), x.2) ])
    (λ t l. let x = from t (omega arith) in
    elim (cases_eq x.0 r) [ inl e ↦ absurd (omega (arith, down t s l (omega arith), ap a e, x.2)) | inr d ↦ (x.0, omega (arith, x.1), x.2) ]) in
    (ap suc rest.0, λ k l. elim (cases_eq k r) [ inl e ↦ ap a e ∙ top ∙ ap b (sym (e ∙ rest.0)) | inr d ↦ rest.1 k (omega arith) ])

-- a place of a row in the space of F is a place of F
shared_place : (p : ℕ) (Past : ℕ → ℕ → Type 0) → ((i j : ℕ) → (Past i j → ⊥) → (Past j i → ⊥) → i ≡ j) →
    (E F : Matrix) (place at : ℕ → ℕ) → 0 < p → IsMatrix p F → E.width ≡ F.width → HasPlaces Past E.height E.width (entry E) place →
    HasPlaces Past F.height F.width (entry F) at → (k : ℕ) → k < E.height → IsCombination p F (row E k) → (t : ℕ) × (t < F.height) × (place k ≡ at t)
shared_place p Past apart E F place at pos m width he hf k l c =
    let y : List ℕ = c.0 in
    let j : ℕ = place k in
    let inside : j < F.width = omega (arith, he.inside k l) in
    let read : (i : ℕ) → i < F.width → entry E k i ≡ slice_index (combine p y F) i = λ i li. ap (λ u. slice_index u i) c.2 in
    let total : sum_below F.height (λ i. slice_index y i * entry F i j) % p ≡ 1 = sym (at_combine p y F j inside) ∙ sym (read j inside) ∙ he.one k l in
    let term = sum_has F.height (λ i. slice_index y i * entry F i j) (λ z. let small : 0 % p ≡ 0 = omega arith in omega (arith, ap (λ x. x % p) z)) in
    let t : ℕ = term.0 in
    let factor : slice_index y t ≢ 0 = λ z. term.2 (ap (λ x. x * entry F t j) z ∙ omega arith) in
    let other : entry F t j ≢ 0 = λ z. term.2 (ap (λ x. slice_index y t * x) z ∙ omega arith) in
    let same : entry E k (at t) ≡ slice_index y t = read (at t) (hf.inside t term.1) ∙ place_coefficient p Past F at hf y c.1 t term.1 in (
      t,
      term.1,
      apart j (at t)
          (λ past. other (hf.past t j term.1 inside past))
          (λ past. factor (sym same ∙ he.past k (at t) l (omega (arith, hf.inside t term.1)) past)),
    )

-- two matrices of one row space whose rows have places are equal
pub places_unique : (p : ℕ) (Past : ℕ → ℕ → Type 0) → ((i j : ℕ) → (Past i j → ⊥) → (Past j i → ⊥) → i ≡ j) →
    (E F : Matrix) (place at : ℕ → ℕ) → 2 ≤ p → IsMatrix p E → IsMatrix p F → E.width ≡ F.width → HasPlaces Past E.height E.width (entry E) place →
    HasPlaces Past F.height F.width (entry F) at → ((k : ℕ) → k < E.height → IsCombination p F (row E k)) → ((k : ℕ) → k < F.height → IsCombination p E (row F k)) → E ≡ F
places_unique p Past apart E F place at two me mf width he hf to from =
    let pos : 0 < p = omega arith in
    let members : (E.height ≡ F.height) × ((k : ℕ) → k < E.height → place k ≡ at k) = rising_equal E.height F.height place at he.rising hf.rising
    (λ k l. shared_place p Past apart E F place at pos mf width he hf k l (to k l))
    (λ t l. shared_place p Past apart F E at place pos me (sym width) hf he t l (from t l)) in
    matrix_equal p E F me mf members.0 width (λ i j li lj.
    let c = to i li in
    let y : List ℕ = c.0 in
    let read : (t : ℕ) → t < E.height → slice_index y t ≡ entry E i (place t) = λ t lt.
    sym (place_coefficient p Past F at hf y c.1 t (omega (arith, members.0))) ∙ ap (λ u. slice_index u (at t)) (sym c.2) ∙ ap (entry E i) (sym (members.1 t lt)) in
    let single : combine p y F ≡ row F i = combine_single p y F i two mf (omega (arith, members.0)) (read i li ∙ he.one i li)
    (λ t lt d. let inside : t < E.height = omega (arith, members.0) in read t inside ∙ he.alone t i inside li (λ e. d (sym e))) in
    ap (λ u. slice_index u j) (c.2 ∙ single))
