-- Kept rows that are settled by their numbers, moved to the columns.
use Rattle.std.proofs.Common.{ℕ, ◌≡◌, ◌+◌, ◌<◌, List, [], ◌∷◌, ◌++◌, length, map, take, slice_index, slice_index_or, sym, ap, ap₂, subst, ◌∙◌, arith}
use Rattle.std.proofs.lemmas.List.{map_more, take_all}
use Rattle.residue_words.specs.Matrix.{Matrix, IsMatrix, IsVector, row}
use Rattle.residue_words.proofs.Vectors.{length_list_of}
use Rattle.row_space.specs.Echelon.{SameSpan}
use Rattle.sparse_rows.specs.Rows.{ResidueMatrix, nonzeros, support}
use Rattle.sparse_rows.specs.Stored.{IsSparse, spread, with_sparse_row}
use Rattle.sparse_rows.proofs.Spread.{spread_support, support_sparse}
use Rattle.lead_rows.specs.Leads.{IsSettled, IsSound, KeptRows}
use Rattle.lead_rows.proofs.Appending.{combination_zero}
use Rattle.echelon_form.specs.Settling.{AreSettled, IsOrderOfLeads}
use Rattle.echelon_form.proofs.Settled.{settled_span}
use Rattle.grow_form.specs.Numbering.{AreKeptByNumbers, AreUsed, IsByNumbers, IsNumbering, IsRowAtColumns, NumberedColumns, at_columns, number_of, seen_matrix}
use Rattle.grow_form.proofs.Moved.{moved_matrix, moved_span}
use Rattle.grow_form.proofs.Numbers.{kept_zero, used_support}

-- the first i rows, moved to the columns
abbrev pub first_moved : NumberedColumns → Matrix → ℕ → Matrix
first_moved N E i = record { height = i; width = length N.arrivals; rows = map (at_columns N) (take i E.rows) }

module _ {kept : KeptRows} {N : NumberedColumns} {order : List (ℕ × ℕ)} {E : Matrix} (sound : IsSound kept) (h : IsNumbering N) (by : AreKeptByNumbers kept N)
    (o : IsOrderOfLeads kept order) (s : AreSettled kept order (length order) E) where
  pos : 0 < kept.modulus
  pos = omega (arith, sound.two_or_more)

  settled_at : (i : ℕ) → i < E.height → IsSettled kept (slice_index_or order i (0, 0)).1 (row E i)
  settled_at i l = s.each i (0, 0) (omega (arith, s.height))

  vector_at : (i : ℕ) → i < E.height → IsVector kept.modulus N.room (row E i)
  vector_at i l = subst (λ n. IsVector kept.modulus n (row E i)) by.width (settled_at i l).vector

  pub settled_matrix : IsMatrix kept.modulus (seen_matrix N E)
  settled_matrix = moved_matrix (length N.arrivals) (number_of N) pos s.matrix

  -- a settled row is one by numbers
  pub settled_sparse : (i : ℕ) → i < E.height → IsSparse kept.modulus N.room (support (row E i)) (nonzeros (row E i))
  settled_sparse i l = support_sparse (vector_at i l)

  pub settled_used : (i : ℕ) → i < E.height → AreUsed N (support (row E i))
  settled_used i l =
      let is : IsByNumbers N (row E i) = record {
        len = (vector_at i l).len;
        zero = λ t off. combination_zero kept.matrix (settled_at i l).spanned t (omega (arith, by.width, off)) (λ k lk. kept_zero sound by k t lk off);
      } in
      used_support is (settled_sparse i l)

  -- the rows that were moved so far
  pub moved_more : {numbers vals cols moved_vals : List ℕ} {r : ResidueMatrix} {i : ℕ} {made : Matrix} (now : Matrix) → i < E.height → numbers ≡ support (row E i) → vals ≡ nonzeros (row E i) →
      IsRowAtColumns N kept.modulus numbers vals r → cols ≡ support (row r.matrix 0) → moved_vals ≡ nonzeros (row r.matrix 0) → made ≡ first_moved N E i →
      now ≡ with_sparse_row made cols moved_vals → now ≡ first_moved N E (i + 1)
  moved_more {numbers} {vals} {cols} {moved_vals} {r} {i} {made} now l ne ve is ce me before e =
      let n : ℕ = length N.arrivals in
      let is_row : row r.matrix 0 ≡ at_columns N (row E i) = is.same ∙ ap (at_columns N) (ap₂ (spread N.room) ne ve ∙ spread_support N.room (row E i) (vector_at i l).len) in
      let long : length (at_columns N (row E i)) ≡ n = length_list_of n (λ j. slice_index (row E i) (number_of N j)) in
      let last : spread n cols moved_vals ≡ at_columns N (row E i) = ap₂ (spread n) (ce ∙ ap support is_row) (me ∙ ap nonzeros is_row) ∙ spread_support n (at_columns N (row E i)) long in
      e ∙ ap (λ A. with_sparse_row A cols moved_vals) before
      ∙ ap (λ v. record { height = i + 1; width = n; rows = map (at_columns N) (take i E.rows) ++ v ∷ [] }) last
      ∙ ap (λ rows. record { height = i + 1; width = n; rows = rows }) (sym (map_more (at_columns N) E.rows i [] (omega (arith, l, s.matrix.len))))

  pub moved_all : {i : ℕ} {made : Matrix} → E.height ≡ i → made ≡ first_moved N E i → made ≡ seen_matrix N E
  moved_all {i} {made} all e =
      e ∙ ap (λ h. record { height = h; width = length N.arrivals; rows = map (at_columns N) (take h E.rows) }) (sym all)
      ∙ ap (λ rows. record { height = E.height; width = length N.arrivals; rows = map (at_columns N) rows }) (take_all E.height E.rows (omega (arith, s.matrix.len)))

  -- the moved rows span what the kept ones do
  pub settled_seen : SameSpan kept.modulus (seen_matrix N kept.matrix) (seen_matrix N E)
  settled_seen = moved_span (length N.arrivals) (number_of N) pos sound.matrix s.matrix (settled_span sound o s)
