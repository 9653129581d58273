-- The script of the example answered.
use Rattle.std.proofs.Common.{ℕ, zero, suc, ◌≡◌, ◌<◌, [], ◌∷◌, codes, slice_index, inl, inr, refl, arith, ◌≢◌}
use Rattle.residue_words.specs.Residues.{sum_below}
use Rattle.residue_words.specs.Matrix.{Matrix, IsCombination, IsVector, entry, row}
use Rattle.row_space.specs.Echelon.{IsRref}
use Rattle.row_space.proofs.Spans.{same_span_of_rows}
use Rattle.grow_form.specs.Example.{IsWorkedScript}
use Rattle.grow_form.specs.Scripts.{rank_line}
use Rattle.lead_rows.proofs.Appending.{combination_zero}

-- the matrix of the one row (x, 0)
abbrev one_row : ℕ → Matrix
one_row x = record { height = 1; width = 2; rows = (x ∷ 0 ∷ []) ∷ [] }

one_vector : (x : ℕ) → x < 7 → IsVector 7 1 (x ∷ [])
one_vector x small = record { len = refl; residues = residues }
  where
    residues : (j : ℕ) → j < 1 → slice_index (x ∷ []) j < 7
    residues zero l = small
    residues (suc j) l = absurd (omega (arith, l))

two_vector : (x : ℕ) → x < 7 → IsVector 7 2 (x ∷ 0 ∷ [])
two_vector x small = record { len = refl; residues = residues }
  where
    residues : (j : ℕ) → j < 2 → slice_index (x ∷ 0 ∷ []) j < 7
    residues zero l = small
    residues (suc zero) l = omega arith
    residues (suc (suc j)) l = absurd (omega (arith, l))

three_of_one : (i : ℕ) → i < 1 → IsCombination 7 (one_row 1) (row (one_row 3) i)
unfolding sum_below
three_of_one zero l = (3 ∷ [], one_vector 3 (omega arith), refl)
three_of_one (suc i) l = absurd (omega (arith, l))

one_of_three : (i : ℕ) → i < 1 → IsCombination 7 (one_row 3) (row (one_row 1) i)
unfolding sum_below
one_of_three zero l = (5 ∷ [], one_vector 5 (omega arith), refl)
one_of_three (suc i) l = absurd (omega (arith, l))

form : IsRref 7 (one_row 3) (one_row 1)
form = record {
  matrix = record { len = refl; each = each };
  width = refl;
  form = (0 ∷ [], (refl, record { inside = inside; one = one; past = λ k j l b before. past k j l before; rising = λ k t a b. absurd (omega (arith, a, b)); alone = alone }));
  span = same_span_of_rows 7 (one_row 3) (one_row 1) (omega arith) refl three_of_one one_of_three;
}
  where
    each : (i : ℕ) → i < 1 → IsVector 7 2 (row (one_row 1) i)
    each zero l = two_vector 1 (omega arith)
    each (suc i) l = absurd (omega (arith, l))

    inside : (k : ℕ) → k < 1 → slice_index (0 ∷ []) k < 2
    inside zero l = omega arith
    inside (suc k) l = absurd (omega (arith, l))

    one : (k : ℕ) → k < 1 → entry (one_row 1) k (slice_index (0 ∷ []) k) ≡ 1
    one zero l = refl
    one (suc k) l = absurd (omega (arith, l))

    past : (k j : ℕ) → k < 1 → j < slice_index (0 ∷ []) k → entry (one_row 1) k j ≡ 0
    past zero j l before = absurd (omega (arith, before))
    past (suc k) j l before = absurd (omega (arith, l))

    alone : (k t : ℕ) → k < 1 → t < 1 → t ≢ k → entry (one_row 1) t (slice_index (0 ∷ []) k) ≡ 0
    alone k t a b d = absurd (d (omega (arith, a, b)))

-- (0, 1) is no multiple of (3, 0)
none : ¬ IsCombination 7 (one_row 3) (0 ∷ 1 ∷ [])
none c = let zero_there : 1 ≡ 0 = combination_zero (one_row 3) c 1 (omega arith) zeros in omega (arith, zero_there)
  where
    zeros : (i : ℕ) → i < 1 → entry (one_row 3) i 1 ≡ 0
    zeros zero l = refl
    zeros (suc i) l = absurd (omega (arith, l))

pub worked : IsWorkedScript
worked = (
  rank_line 1,
  codes "yes\nno\n",
  (1, (one_row 1, form, refl), refl),
  (codes "yes\n", codes "no\n", inl (one_of_three 0 (omega arith), refl), (codes "no\n", [], inr (none, refl), refl, refl), refl),
  refl,
)
