-- Matrices as lists of rows: one row more, rows reduced by others, and rows that stand in steps.
use Rattle.std.proofs.Common.{ℕ, zero, suc, ◌≡◌, ◌+◌, ◌*◌, ◌-◌, ◌%◌, ◌<◌, ◌≤◌, inl, inr, List, [], ◌∷◌, ◌++◌, length, slice_index, sym, refl, ap, subst, ◌∙◌, arith, mod-eq_of_lt, mul-one, mul-zero, zero-mul, length-append}
use native.Mathlib.Nat.{mod-mod, zero-mod}
use Rattle.std.proofs.Math.ListN.{get_or-append}
use Rattle.std.proofs.Math.Seq.{get_or-append_seam}
use Rattle.std.proofs.lemmas.Nat.{mul-mod_second}
use Rattle.std.proofs.lemmas.Bool.{cases_lt, cases_eq}
use Rattle.residue_words.specs.Residues.{IsPrime, sum_below}
use Rattle.residue_words.specs.Matrix.{Matrix, IsVector, IsMatrix, IsCombination, row, entry, combine, zeros}
use Rattle.residue_words.proofs.Residues.{add_same, mul_same, right_zero, minus_one}
use Rattle.residue_words.proofs.Sums.{sum_single, sum_zero}
use Rattle.residue_words.proofs.Vectors.{mix, at_mix, length_list_of, list_equal, vector_equal, at_combine, at_zeros, zeros_vector, combination_mix, combination_through, combination_vector, row_combination}
use Rattle.row_space.specs.Echelon.{HasRank, IsIndependent, SameSpan}
use Rattle.row_space.specs.Rows.{DiffersBy, HasSteps, of_rows}
use Rattle.row_space.specs.Laws.{RrefExists, SpanFixesHeight}
use Rattle.row_space.proofs.Spans.{places_independent, same_span_of_rows, same_span_chained, same_span_turned}

-- the matrix with these rows, and the row v behind them
abbrev pub with_row : ℕ → List (List ℕ) → List ℕ → Matrix
with_row width rows v = of_rows width (rows ++ v ∷ [])

-- its rows: those before, and v
pub row_before : (n : ℕ) (rows : List (List ℕ)) (v : List ℕ) (i : ℕ) → i < length rows → row (with_row n rows v) i ≡ row (of_rows n rows) i
row_before n rows v i l = get_or-append rows (v ∷ []) [] i l

pub row_last : (n : ℕ) (rows : List (List ℕ)) (v : List ℕ) → row (with_row n rows v) (length rows) ≡ v
row_last n rows v = get_or-append_seam rows v [] []

-- there is one row more
pub with_row_height : (n : ℕ) (rows : List (List ℕ)) (v : List ℕ) → (with_row n rows v).height ≡ length rows + 1
with_row_height n rows v = length-append rows (v ∷ [])

-- what holds of the rows before and of v holds of each row
pub each_with_row : (P : List ℕ → Type 0) (n : ℕ) (rows : List (List ℕ)) (v : List ℕ) → ((i : ℕ) → i < length rows → P (row (of_rows n rows) i)) → P v →
    (i : ℕ) → i < (with_row n rows v).height → P (row (with_row n rows v) i)
each_with_row P n rows v before last i l =
    elim (cases_eq i (length rows)) [
      | inl e ↦ subst P (sym (row_last n rows v) ∙ ap (row (with_row n rows v)) (sym e)) last
      | inr d ↦ let inside : i < length rows = omega (arith, with_row_height n rows v) in subst P (sym (row_before n rows v i inside)) (before i inside)
    ]

-- with a vector of residues behind it a matrix stays one
pub matrix_with_row : (p n : ℕ) (rows : List (List ℕ)) (v : List ℕ) → IsMatrix p (of_rows n rows) → IsVector p n v → IsMatrix p (with_row n rows v)
matrix_with_row p n rows v m vector = record { len = refl; each = each_with_row (IsVector p n) n rows v m.each vector }

-- a row more keeps what is in the row space
pub combination_more : (p n : ℕ) (rows : List (List ℕ)) (v u : List ℕ) → 2 ≤ p → IsMatrix p (of_rows n rows) → IsVector p n v →
    IsCombination p (of_rows n rows) u → IsCombination p (with_row n rows v) u
combination_more p n rows v u two m vector c =
    combination_through p (of_rows n rows) (with_row n rows v) u (omega arith) refl
    (λ i l. subst (IsCombination p (with_row n rows v)) (row_before n rows v i l)
    (row_combination p (with_row n rows v) i two (matrix_with_row p n rows v m vector) (omega (arith, with_row_height n rows v)))) c

-- and puts itself into it
pub combination_last : (p n : ℕ) (rows : List (List ℕ)) (v : List ℕ) → 2 ≤ p → IsMatrix p (of_rows n rows) → IsVector p n v → IsCombination p (with_row n rows v) v
combination_last p n rows v two m vector =
    subst (IsCombination p (with_row n rows v)) (row_last n rows v)
    (row_combination p (with_row n rows v) (length rows) two (matrix_with_row p n rows v m vector) (omega (arith, with_row_height n rows v)))

-- a row that is already in the row space leaves it as it is
pub span_with_old : (p n : ℕ) (rows kept : List (List ℕ)) (v : List ℕ) → 2 ≤ p → IsMatrix p (of_rows n rows) → IsMatrix p (of_rows n kept) → IsVector p n v →
    SameSpan p (of_rows n rows) (of_rows n kept) → IsCombination p (of_rows n kept) v → SameSpan p (with_row n rows v) (of_rows n kept)
span_with_old p n rows kept v two mr mk vector same c =
    same_span_of_rows p (with_row n rows v) (of_rows n kept) (omega arith) refl
    (each_with_row (IsCombination p (of_rows n kept)) n rows v (λ i l. (same _).0 (row_combination p (of_rows n rows) i two mr l)) c)
    (λ k l. combination_more p n rows v _ two mr vector ((same _).1 (row_combination p (of_rows n kept) k two mk l)))

-- rows of one row space keep it with rows behind them that are combinations of the other's
pub span_with_new : (p n : ℕ) (rows kept : List (List ℕ)) (v x : List ℕ) → 2 ≤ p → IsMatrix p (of_rows n rows) → IsMatrix p (of_rows n kept) → IsVector p n v → IsVector p n x →
    SameSpan p (of_rows n rows) (of_rows n kept) → IsCombination p (with_row n kept x) v → IsCombination p (with_row n rows v) x →
    SameSpan p (with_row n rows v) (with_row n kept x)
span_with_new p n rows kept v x two mr mk vector other same to from =
    same_span_of_rows p (with_row n rows v) (with_row n kept x) (omega arith) refl
    (each_with_row (IsCombination p (with_row n kept x)) n rows v
    (λ i l. combination_more p n kept x _ two mk other ((same _).0 (row_combination p (of_rows n rows) i two mr l))) to)
    (each_with_row (IsCombination p (with_row n rows v)) n kept x
    (λ k l. combination_more p n rows v _ two mr vector ((same _).1 (row_combination p (of_rows n kept) k two mk l))) from)

-- a row is itself and the zero combination
pub differs_by_none : (p : ℕ) (A : Matrix) (v : List ℕ) → 2 ≤ p → IsVector p A.width v → DiffersBy p A v v
differs_by_none p A v two vector = record {
  part = combine p (zeros A.height) A;
  combination = (zeros A.height, zeros_vector p A.height (omega arith), refl);
  sum = λ j l.
      let none : slice_index (combine p (zeros A.height) A) j % p ≡ 0 =
      ap (λ t. t % p) (at_combine p (zeros A.height) A j l) ∙ mod-mod _ p
      ∙ ap (λ t. t % p) (sum_zero A.height (λ i. slice_index (zeros A.height) i * entry A i j) (λ i li. ap (λ t. t * entry A i j) (at_zeros A.height i li) ∙ zero-mul (entry A i j)))
      ∙ zero-mod p in
      sym (right_zero p (slice_index v j) (slice_index (combine p (zeros A.height) A) j) none ∙ mod-eq_of_lt (vector.residues j l));
}

-- a w-entry less a multiple of a row's, and the part with this multiple, have the same sum
differ_more : (p v w x u a k : ℕ) → v ≡ (w + u) % p → w ≡ (x + a * k) % p → v ≡ (x + (1 * u + a * k) % p) % p
differ_more p v w x u a k e f =
    let inner : (w + u) % p ≡ (x + a * k + u) % p = add_same p w (x + a * k) u u (ap (λ t. t % p) f ∙ mod-mod (x + a * k) p) refl in
    let turn : x + a * k + u ≡ x + (1 * u + a * k) = omega arith in
    e ∙ inner ∙ ap (λ t. t % p) turn ∙ add_same p x x (1 * u + a * k) ((1 * u + a * k) % p) refl (sym (mod-mod (1 * u + a * k) p))

-- a row less a multiple of a row of A
pub differs_more : (p : ℕ) (A : Matrix) (v w x : List ℕ) (a k : ℕ) → 2 ≤ p → IsMatrix p A → k < A.height → DiffersBy p A v w →
    ((j : ℕ) → j < A.width → slice_index w j ≡ (slice_index x j + a * entry A k j) % p) → DiffersBy p A v x
differs_more p A v w x a k two m l d step = record {
  part = mix p A.width 1 a d.part (row A k);
  combination = combination_mix p 1 a A d.part (row A k) (omega arith) d.combination (row_combination p A k two m l);
  sum = λ j lj. differ_more p (slice_index v j) (slice_index w j) (slice_index x j) (slice_index d.part j) a (entry A k j) (d.sum j lj) (step j lj)
      ∙ ap (λ t. (slice_index x j + t) % p) (sym (at_mix p A.width 1 a d.part (row A k) j lj));
}

-- where nothing is left of it, v is in the row space
pub differs_by_zero : (p : ℕ) (A : Matrix) (v w : List ℕ) → 2 ≤ p → IsVector p A.width v → DiffersBy p A v w → ((j : ℕ) → j < A.width → slice_index w j ≡ 0) → IsCombination p A v
differs_by_zero p A v w two vector d zero_left =
    let u : IsVector p A.width d.part = combination_vector p A d.part (omega arith) d.combination in
    subst (IsCombination p A) (vector_equal p A.width d.part v u vector (λ j l.
    let small : slice_index d.part j < p = u.residues j l in
    let none : slice_index w j + slice_index d.part j ≡ slice_index d.part j = omega (arith, zero_left j l) in
    sym (d.sum j l ∙ ap (λ t. t % p) none ∙ mod-eq_of_lt small))) d.combination

-- a times b w is w where a b is one
scaled_back : (p a b w u : ℕ) → 2 ≤ p → (a * b) % p ≡ 1 → (a * ((b * w) % p) + 1 * u) % p ≡ (w + u) % p
scaled_back p a b w u two one =
    let turn : a * (b * w) ≡ (a * b) * w = omega arith in
    let plain : 1 * w ≡ w = omega arith in
    let same : (a * ((b * w) % p)) % p ≡ w % p =
    mul-mod_second a (b * w) p ∙ ap (λ t. t % p) turn ∙ mul_same p (a * b) 1 w w (one ∙ sym (mod-eq_of_lt (omega arith))) refl ∙ ap (λ t. t % p) plain in
    let right : 1 * u ≡ u = omega arith in
    add_same p (a * ((b * w) % p)) w (1 * u) u same (ap (λ t. t % p) right)

-- b (w + u) less b u is b w
scaled_forth : (p q b w u : ℕ) → p ≡ suc q → (b * ((w + u) % p) + (b * q) * u) % p ≡ (b * w) % p
scaled_forth p q b w u e =
    let turn : b * (w + u) + (b * q) * u ≡ b * w + (q * (b * u) + b * u) = omega arith in
    add_same p (b * ((w + u) % p)) (b * (w + u)) ((b * q) * u) ((b * q) * u) (mul-mod_second b (w + u) p) refl
    ∙ ap (λ t. t % p) turn ∙ right_zero p (b * w) (q * (b * u) + b * u) (minus_one p q (b * u) e)

-- What is left of a row, scaled by a unit, stands for the row: the row spaces of the rows before stay the same with either.
pub span_with_scaled : (p n a b : ℕ) (rows kept : List (List ℕ)) (v w x : List ℕ) → 2 ≤ p → (a * b) % p ≡ 1 →
    IsMatrix p (of_rows n rows) → IsMatrix p (of_rows n kept) → IsVector p n v → IsVector p n x →
    SameSpan p (of_rows n rows) (of_rows n kept) → DiffersBy p (of_rows n kept) v w → ((j : ℕ) → j < n → slice_index x j ≡ (b * slice_index w j) % p) →
    SameSpan p (with_row n rows v) (with_row n kept x)
span_with_scaled p n a b rows kept v w x two one mr mk vector other same d scaled =
    let pos : 0 < p = omega arith in
    let q : ℕ = p - 1 in
    let next : p ≡ suc q = omega arith in
    let u : List ℕ = d.part in
    let to : mix p n a 1 x u ≡ v = list_equal n (mix p n a 1 x u) v (length_list_of n _) vector.len (λ j l.
    at_mix p n a 1 x u j l ∙ ap (λ t. (a * t + 1 * slice_index u j) % p) (scaled j l) ∙ scaled_back p a b (slice_index w j) (slice_index u j) two one ∙ sym (d.sum j l)) in
    let from : mix p n b (b * q) v u ≡ x = list_equal n (mix p n b (b * q) v u) x (length_list_of n _) other.len (λ j l.
    at_mix p n b (b * q) v u j l ∙ ap (λ t. (b * t + (b * q) * slice_index u j) % p) (d.sum j l) ∙ scaled_forth p q b (slice_index w j) (slice_index u j) next ∙ sym (scaled j l)) in
    span_with_new p n rows kept v x two mr mk vector other same
    (subst (IsCombination p (with_row n kept x)) to
    (combination_mix p a 1 (with_row n kept x) x u pos (combination_last p n kept x two mk other) (combination_more p n kept x u two mk other d.combination)))
    (subst (IsCombination p (with_row n rows v)) from
    (combination_mix p b (b * q) (with_row n rows v) v u pos (combination_last p n rows v two mr vector)
    (combination_more p n rows v u two mr vector ((same u).1 d.combination))))

-- a zero combination of rows in steps has no coefficient before k
steps_before : (p : ℕ) (F : Matrix) (place : ℕ → ℕ) → HasSteps F.height F.width (entry F) place → (y : List ℕ) → IsVector p F.height y → combine p y F ≡ zeros F.width →
    (k : ℕ) → k ≤ F.height → (i : ℕ) → i < k → slice_index y i ≡ 0
steps_before p F place h y vector none zero le i l = absurd (omega arith)
steps_before p F place h y vector none (suc k) le i l =
    let before : (i : ℕ) → i < k → slice_index y i ≡ 0 = λ i l. steps_before p F place h y vector none k (omega arith) i l in
    let inside : k < F.height = omega arith in
    let alone : sum_below F.height (λ i. slice_index y i * entry F i (place k)) ≡ slice_index y k =
    sum_single F.height (λ i. slice_index y i * entry F i (place k)) k inside (λ i li d.
    elim (cases_lt i k) [
      | inl less ↦ ap (λ t. t * entry F i (place k)) (before i less) ∙ zero-mul (entry F i (place k))
      | inr more ↦ ap (λ t. slice_index y i * t) (h.later k i (omega arith) li) ∙ mul-zero (slice_index y i)
    ])
    ∙ ap (λ t. slice_index y k * t) (h.one k inside) ∙ mul-one (slice_index y k) in
    let last : slice_index y k ≡ 0 =
    sym (mod-eq_of_lt (vector.residues k inside)) ∙ ap (λ t. t % p) (sym alone) ∙ sym (at_combine p y F (place k) (h.inside k inside))
    ∙ ap (λ v. slice_index v (place k)) none ∙ at_zeros F.width (place k) (h.inside k inside) in
    elim (cases_eq i k) [ inl e ↦ ap (slice_index y) e ∙ last | inr d ↦ before i (omega arith) ]

-- rows in steps are independent
pub steps_independent : (p : ℕ) (F : Matrix) (place : ℕ → ℕ) → 0 < p → HasSteps F.height F.width (entry F) place → IsIndependent p F
steps_independent p F place pos h y vector none =
    vector_equal p F.height y (zeros F.height) vector (zeros_vector p F.height pos) (λ i l.
    steps_before p F place h y vector none F.height (omega arith) i l ∙ sym (at_zeros F.height i l))

-- a row behind them that is 0 at their places, and 1 at a place of its own, continues the steps
pub steps_more : (n : ℕ) (rows : List (List ℕ)) (v : List ℕ) (place at : ℕ → ℕ) → HasSteps (length rows) n (entry (of_rows n rows)) place →
    ((k : ℕ) → k < length rows → at k ≡ place k) → at (length rows) < n → slice_index v (at (length rows)) ≡ 1 → ((k : ℕ) → k < length rows → slice_index v (place k) ≡ 0) →
    HasSteps (with_row n rows v).height n (entry (with_row n rows v)) at
steps_more n rows v place at h same inside one clear = record {
  inside = λ k l. elim (cases_eq k (length rows)) [
    | inl e ↦ subst (λ t. at t < n) (sym e) inside
    | inr d ↦ let less : k < length rows = omega (arith, high) in subst (λ t. t < n) (sym (same k less)) (h.inside k less)
  ];
  one = λ k l. elim (cases_eq k (length rows)) [
    | inl e ↦ subst (λ t. entry (with_row n rows v) t (at t) ≡ 1) (sym e) (ap (λ u. slice_index u (at (length rows))) (row_last n rows v) ∙ one)
    | inr d ↦ let less : k < length rows = omega (arith, high) in
        ap (λ u. slice_index u (at k)) (row_before n rows v k less) ∙ ap (entry (of_rows n rows) k) (same k less) ∙ h.one k less
  ];
  later = λ k t a b. let below : k < length rows = omega (arith, high) in
      elim (cases_eq t (length rows)) [
        | inl e ↦ ap (λ i. entry (with_row n rows v) i (at k)) e ∙ ap (λ u. slice_index u (at k)) (row_last n rows v) ∙ ap (slice_index v) (same k below) ∙ clear k below
        | inr d ↦ let less : t < length rows = omega (arith, high) in
            ap (λ u. slice_index u (at k)) (row_before n rows v t less) ∙ ap (entry (of_rows n rows) t) (same k below) ∙ h.later k t a less
      ];
}
  where
    high : (with_row n rows v).height ≡ length rows + 1
    high = with_row_height n rows v

-- independent rows of A's row space that span it are as many as its rank
pub rank_of_independent : RrefExists → SpanFixesHeight → (p : ℕ) (A K : Matrix) → IsPrime p → IsMatrix p A → IsMatrix p K → A.width ≡ K.width →
    IsIndependent p K → SameSpan p A K → HasRank p A K.height
rank_of_independent exists fixes p A K prime ma mk width free same =
    let two : 2 ≤ p = prime.two_or_more in
    let form = exists p A prime ma in
    let E : Matrix = form.0 in (
      E,
      form.1,
      fixes p E K two form.1.matrix mk (form.1.width ∙ width)
          (places_independent p (λ j lead. j < lead) E (slice_index form.1.form.0) (omega arith) form.1.form.1.1) free
          (same_span_chained p E A K (same_span_turned p A E form.1.span) same),
    )
