-- Where the rows of a kernel basis and their combinations end.
use Rattle.std.proofs.Common.{ℕ, ◌≡◌, ◌*◌, ◌%◌, ◌<◌, inl, inr, List, slice_index, sym, ap, ◌∙◌, arith, mul-zero, zero-mul}
use native.Mathlib.Nat.{zero-mod}
use Rattle.std.proofs.lemmas.Bool.{cases_eq, cases_lt}
use Rattle.residue_words.specs.Residues.{sum_below}
use Rattle.residue_words.specs.Matrix.{Matrix, IsVector, combine, entry, row}
use Rattle.residue_words.proofs.Sums.{sum_has}
use Rattle.residue_words.proofs.Vectors.{at_combine}
use Rattle.row_space.specs.Kernel.{EndsAt, HasEnds}
use Rattle.row_space.proofs.Spans.{place_coefficient}

-- a row ends at its own end
pub row_ends : (K : Matrix) (ends : List ℕ) → HasEnds K ends → (k : ℕ) → k < K.height → EndsAt K.width (row K k) (slice_index ends k)
row_ends K ends has k l = record {
  inside = has.1.inside k l;
  nonzero = λ z. let one = has.1.one k l in absurd (omega (arith, one, z));
  last = λ i after inside. has.1.past k i l inside after;
}

-- a list has one end
pub ends_once : {n i j : ℕ} {v : List ℕ} → EndsAt n v i → EndsAt n v j → i ≡ j
ends_once {n} {i} {j} {v} a b = elim (cases_lt i j) [
  | inl l ↦ absurd (b.nonzero (a.last j l b.inside))
  | inr l ↦ elim (cases_eq i j) [
    | inl e ↦ e
    | inr d ↦ absurd (a.nonzero (b.last i (omega arith) a.inside))
  ]
]

-- a combination ends at the end of the last row that it has
module _ (p : ℕ) (K : Matrix) (ends c z : List ℕ) (j : ℕ) (has : HasEnds K ends) (vector : IsVector p K.height c) (is : z ≡ combine p c K) (e : EndsAt K.width z j) where
  at : (x : ℕ) → x < K.width → slice_index z x ≡ sum_below K.height (λ t. slice_index c t * entry K t x) % p
  at x l = ap (λ u. slice_index u x) is ∙ at_combine p c K x l

  pub coefficient : (t : ℕ) → t < K.height → slice_index z (slice_index ends t) ≡ slice_index c t
  coefficient t l = ap (λ u. slice_index u (slice_index ends t)) is ∙ place_coefficient p (λ j end. end < j) K (slice_index ends) has.1 c vector t l

  pub none_behind : (t : ℕ) → t < K.height → j < slice_index ends t → slice_index c t ≡ 0
  none_behind t l b = sym (coefficient t l) ∙ e.last (slice_index ends t) b (has.1.inside t l)

  pub end_found : (t : ℕ) × (t < K.height) × (slice_index ends t ≡ j)
  end_found =
      let w = sum_has K.height (λ t. slice_index c t * entry K t j) (λ s. e.nonzero (at j e.inside ∙ ap (λ x. x % p) s ∙ zero-mod p)) in (
        w.0,
        w.1,
        elim (cases_lt (slice_index ends w.0) j) [
          | inl l ↦ absurd (w.2 (ap (λ x. slice_index c w.0 * x) (has.1.past w.0 j w.1 e.inside l) ∙ mul-zero (slice_index c w.0)))
          | inr l ↦ elim (cases_eq (slice_index ends w.0) j) [
            | inl same ↦ same
            | inr o ↦ absurd (w.2 (ap (λ x. x * entry K w.0 j) (none_behind w.0 w.1 (omega arith)) ∙ zero-mul (entry K w.0 j)))
          ]
        ],
      )
