-- The support of a row of a matrix has just the columns with a nonzero entry.
use Rattle.std.proofs.Common.{ℕ, ◌≢◌, ◌<◌, length, slice_index, ⊎_elim, sym, subst, ◌∙◌, arith}
use Rattle.std.specs.List.{Contains}
use Rattle.residue_words.specs.Matrix.{Matrix, IsMatrix, row, entry}
use Rattle.residue_words.proofs.Lists.{contains_at, place_in}
use Rattle.sparse_rows.specs.Rows.{support, nonzeros}
use Rattle.sparse_rows.specs.Stored.{IsSparse}
use Rattle.sparse_rows.proofs.Spread.{entry_support, entry_cover, entry_here, support_sparse}

module _ {p : ℕ} {A : Matrix} (m : IsMatrix p A) (r : ℕ) (l : r < A.height) where
  pub row_sparse : IsSparse p A.width (support (row A r)) (nonzeros (row A r))
  row_sparse = support_sparse (m.each r l)

  pub in_support : (j : ℕ) → entry A r j ≢ 0 → Contains (support (row A r)) j
  in_support j n = ⊎_elim
      (λ z. absurd (n (sym (entry_support (row A r) j) ∙ z)))
      (λ t. contains_at (support (row A r)) t.0 j t.1 t.2)
      (entry_cover (support (row A r)) (nonzeros (row A r)) j)

  pub at_support : (k : ℕ) → k < length (support (row A r)) → entry A r (slice_index (support (row A r)) k) ≢ 0
  at_support k lk z =
      let e = entry_here (support (row A r)) (nonzeros (row A r)) row_sparse.long row_sparse.rising k lk in
      absurd (omega (arith, row_sparse.positive k (omega (arith, row_sparse.long)), e, entry_support (row A r) (slice_index (support (row A r)) k), z))

  pub of_support : (j : ℕ) → Contains (support (row A r)) j → entry A r j ≢ 0
  of_support j c = let t = place_in (support (row A r)) j c in subst (λ x. entry A r x ≢ 0) t.2 (at_support t.0 t.1)
