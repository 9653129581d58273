-- A block in two parts.
use Rattle.std.proofs.Common.{ℕ, ◌≡◌, ◌-◌, ◌<◌, ◌≤◌, ◌∙◌, inl, inr, List, [], ◌++◌, ap, arith, length, length-append, refl, slice_index, subst, sym}
use Rattle.std.proofs.lemmas.Bool.{cases_lt}
use Rattle.std.proofs.lemmas.List.{get_or-append_right, get_or_append_left}
use Rattle.residue_words.specs.Matrix.{Matrix, IsVector, entry}
use Rattle.dense_finish.specs.Block.{IsBlock}
use Rattle.dense_rows.specs.Rows.{block_row}

-- the entries of some rows, and below them those of others
pub block_joined : {p : ℕ} {A : Matrix} {a b columns : List ℕ} {x y : List (List ℕ)} → IsBlock p A a columns x → IsBlock p A b columns y → IsBlock p A (a ++ b) columns (x ++ y)
block_joined {p} {A} {a} {b} {columns} {x} {y} first second = record {
  long = length-append x y ∙ omega (arith, first.long, second.long, length-append a b);
  vectors = λ t l. elim (cases_lt t (length x)) [
    | inl less ↦ subst (IsVector p (length columns)) (sym (in_first t less)) (first.vectors t less)
    | inr more ↦ subst (IsVector p (length columns)) (sym (in_second t more)) (second.vectors (t - length x) (omega (arith, length-append x y)))
  ];
  each = λ t j l lj. elim (cases_lt t (length x)) [
    | inl less ↦
        let name : slice_index (a ++ b) t ≡ slice_index a t = get_or_append_left a b 0 t (omega (arith, first.long)) in
        ap (λ v. slice_index v j) (in_first t less) ∙ first.each t j less lj ∙ ap (λ i. entry A i (slice_index columns j)) (sym name)
    | inr more ↦
        let name : slice_index (a ++ b) t ≡ slice_index b (t - length x) = get_or-append_right a b (length x) t 0 (sym first.long) more in
        ap (λ v. slice_index v j) (in_second t more) ∙ second.each (t - length x) j (omega (arith, length-append x y)) lj
        ∙ ap (λ i. entry A i (slice_index columns j)) (sym name)
  ];
}
  where
    in_first : (t : ℕ) → t < length x → block_row (x ++ y) t ≡ block_row x t
    in_first t l = get_or_append_left x y [] t l

    in_second : (t : ℕ) → length x ≤ t → block_row (x ++ y) t ≡ block_row y (t - length x)
    in_second t l = get_or-append_right x y (length x) t [] refl l
