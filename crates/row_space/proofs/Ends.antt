-- Last nonzero places, and differences of vectors.
use Rattle.std.proofs.Common.{ℕ, zero, suc, ◌≡◌, ◌+◌, ◌*◌, ◌%◌, ◌<◌, ◌≤◌, ◌⊎◌, inl, inr, List, slice_index, sym, ap, ◌∙◌, arith}
use Rattle.std.proofs.lemmas.Bool.{cases_eq}
use Rattle.residue_words.specs.Matrix.{zeros, IsVector}
use Rattle.residue_words.proofs.Residues.{minus_one, add_cancel, residue_equal}
use Rattle.residue_words.proofs.Vectors.{mix, at_mix, list_of_equal, vector_equal}
use Rattle.row_space.specs.Kernel.{EndsAt}

-- a vector is zero or has a last nonzero place
pub zero_or_end : (n : ℕ) (v : List ℕ) → ((j : ℕ) → j < n → slice_index v j ≡ 0) ⊎ ((j : ℕ) × EndsAt n v j)
zero_or_end zero v = inl (λ j l. absurd (omega arith))
zero_or_end (suc n) v =
    elim (cases_eq (slice_index v n) 0) [
      | inr d ↦ inr (n, record { inside = omega arith; nonzero = d; last = λ i a b. absurd (omega arith) })
      | inl z ↦ elim (zero_or_end n v) [
        | inl all ↦ inl (λ j l. elim (cases_eq j n) [ inl e ↦ ap (slice_index v) e ∙ z | inr d ↦ all j (omega arith) ])
        | inr w ↦ inr (
          w.0,
          record {
            inside = omega (arith, w.1.inside);
            nonzero = w.1.nonzero;
            last = λ i a b. elim (cases_eq i n) [ inl e ↦ ap (slice_index v) e ∙ z | inr d ↦ w.1.last i a (omega arith) ];
          },
        )
      ]
    ]

-- u - u is zero
pub difference_self : (p q n : ℕ) (u : List ℕ) → p ≡ suc q → mix p n 1 q u u ≡ zeros n
difference_self p q n u e = list_of_equal n _ (λ j. 0) (λ j l.
    let turn : 1 * slice_index u j + q * slice_index u j ≡ q * slice_index u j + slice_index u j = omega arith in
    ap (λ x. x % p) turn ∙ minus_one p q (slice_index u j) e)

-- residues whose difference is zero are equal
pub difference_zero : (p q x y : ℕ) → 2 ≤ p → p ≡ suc q → x < p → y < p → (1 * x + q * y) % p ≡ 0 → x ≡ y
difference_zero p q x y two e lx ly zero_sum =
    let one : x + q * y ≡ 1 * x + q * y = omega arith in
    let turn : q * y + y ≡ y + q * y = omega arith in
    residue_equal p x y lx ly (add_cancel p x y (q * y) two (ap (λ t. t % p) one ∙ zero_sum ∙ sym (minus_one p q y e) ∙ ap (λ t. t % p) turn))

-- vectors that are zero wherever their difference ends are equal
pub difference_ends : (p q n : ℕ) (x y : List ℕ) → 2 ≤ p → p ≡ suc q → IsVector p n x → IsVector p n y →
    ((j : ℕ) → EndsAt n (mix p n 1 q x y) j → slice_index x j ≡ 0) → ((j : ℕ) → EndsAt n (mix p n 1 q x y) j → slice_index y j ≡ 0) → x ≡ y
difference_ends p q n x y two e vx vy zx zy =
    elim (zero_or_end n (mix p n 1 q x y)) [
      | inl all ↦ vector_equal p n x y vx vy (λ j l.
          difference_zero p q (slice_index x j) (slice_index y j) two e (vx.residues j l) (vy.residues j l) (sym (at_mix p n 1 q x y j l) ∙ all j l))
      | inr w ↦
          let a : slice_index x w.0 ≡ 0 = zx w.0 w.1 in
          let b : slice_index y w.0 ≡ 0 = zy w.0 w.1 in
          let none : 1 * slice_index x w.0 + q * slice_index y w.0 ≡ 0 = omega (arith, ap (λ t. q * t) b) in
          let small : 0 % p ≡ 0 = omega arith in
          absurd (w.1.nonzero (at_mix p n 1 q x y w.0 w.1.inside ∙ ap (λ t. t % p) none ∙ small))
    ]
