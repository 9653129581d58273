-- Rows of zeros, and entries that are looked at and are 0.
use Rattle.std.proofs.Common.{ℕ, ◌≡◌, ◌≢◌, ◌<◌, ◌≤◌, ◌+◌, ◌-◌, Bool, true, false, not, eqb, ◌||◌, ◌&&◌, inl, inr, List, [], ◌++◌, map, replicate, slice_index, slice_index_or, take, sym, ap, ap₂, ◌∙◌, arith}
use Rattle.std.proofs.lemmas.Bool.{and_cases, cases_eq, eqb-false, eqb-true, not-false, or_parts}
use Rattle.std.proofs.lemmas.List.{get_or-map, get_or-replicate, length-map, length-replicate, take_all}
use Rattle.residue_words.specs.Matrix.{zeros}
use Rattle.residue_words.proofs.Vectors.{at_zeros, length_list_of, list_equal}

-- a row that is filled with what stands for 0
pub filled_zeros : {X : Type 0} (f : X → ℕ) (n : ℕ) (x : X) → f x ≡ 0 → map f (replicate n x) ≡ zeros n
filled_zeros f n x is = list_equal n (map f (replicate n x)) (zeros n) (length-map (replicate n x) f ∙ length-replicate n x) (length_list_of n (λ j. 0))
    (λ j l. get_or-map f (replicate n x) j x 0 (omega (arith, length-replicate n x)) ∙ ap f (get_or-replicate n j x x l) ∙ is ∙ sym (at_zeros n j l))

-- an empty `Vec` that was resized
pub resized_empty : {X : Type 0} (n m : ℕ) (x : X) (old : List X) → old ≡ [] → m ≡ 0 → take n old ++ replicate (n - m) x ≡ replicate n x
resized_empty n m x old empty none =
    let whole : n - m ≡ n = omega arith in
    ap₂ (λ l k. l ++ replicate k x) (ap (take n) empty ∙ take_all n [] (omega arith)) whole

-- one entry more is looked at, and still none is found that is not 0
pub zero_more : {any : Bool} {start j x : ℕ} (v : List ℕ) → x ≡ slice_index v j → (any ≡ false → (t : ℕ) → start ≤ t → t < j → slice_index v t ≡ 0) → (any || not (eqb x 0)) ≡ false →
    (t : ℕ) → start ≤ t → t < j + 1 → slice_index v t ≡ 0
zero_more {any} {start} {j} {x} v is before e t le l =
    let both = or_parts any (not (eqb x 0)) e in
    elim (cases_eq t j) [
      | inl same ↦ ap (slice_index v) same ∙ sym is ∙ eqb-true x 0 (not-false (eqb x 0) both.1)
      | inr d ↦ before both.0 t le (omega arith)
    ]

-- or none that is 0
pub positive_more : {any : Bool} {start j x : ℕ} (v : List ℕ) → x ≡ slice_index v j → (any ≡ false → (t : ℕ) → start ≤ t → t < j → 0 < slice_index v t) → (any || eqb x 0) ≡ false →
    (t : ℕ) → start ≤ t → t < j + 1 → 0 < slice_index v t
positive_more {any} {start} {j} {x} v is before e t le l =
    let both = or_parts any (eqb x 0) e in
    elim (cases_eq t j) [
      | inl same ↦ let some : x ≢ 0 = eqb-false x 0 both.1 in omega (arith, ap (slice_index v) same)
      | inr d ↦ before both.0 t le (omega arith)
    ]

-- or none at a free column
pub zero_free_more : {any : Bool} {start j x : ℕ} (taken : List Bool) (v : List ℕ) → x ≡ slice_index v j →
    (any ≡ false → (t : ℕ) → start ≤ t → t < j → slice_index_or taken t false ≡ false → slice_index v t ≡ 0) → (any || (not (slice_index_or taken j false) && not (eqb x 0))) ≡ false →
    (t : ℕ) → start ≤ t → t < j + 1 → slice_index_or taken t false ≡ false → slice_index v t ≡ 0
zero_free_more {any} {start} {j} {x} taken v is before e t le l free =
    let here : Bool = slice_index_or taken j false in
    let both = or_parts any (not here && not (eqb x 0)) e in
    elim (cases_eq t j) [
      | inl same ↦ elim (and_cases (not here) (not (eqb x 0)) both.1) [
        | inl is_taken ↦ let no : true ≡ false = sym (not-false here is_taken) ∙ ap (λ k. slice_index_or taken k false) (sym same) ∙ free in cc
        | inr zero ↦ ap (slice_index v) same ∙ sym is ∙ eqb-true x 0 (not-false (eqb x 0) zero)
      ]
      | inr d ↦ before both.0 t le (omega arith) free
    ]
