-- Rows whose entries, from some place on, are not 0: they are appended at once.
use Rattle.std.proofs.Common.{ℕ, ◌≡◌, ◌+◌, ◌-◌, ◌<◌, ◌≤◌, inl, inr, List, [], ◌∷◌, ◌++◌, length, slice_index, take, drop, sym, ap, subst, ◌∙◌, arith}
use Rattle.std.specs.List.{range_with_len}
use Rattle.std.proofs.lemmas.List.{get_or-drop, get_or-take, length-drop, length-take-le, map-id, take_all}
use Rattle.std.proofs.lemmas.List.FromFn.{get_or-range_with_len, length-range_with_len, map-range_with_len_more}
use Rattle.residue_words.specs.Matrix.{IsVector}
use Rattle.sparse_rows.specs.Rows.{AreBelow, ResidueMatrix}
use Rattle.sparse_rows.specs.Stored.{IsSparse, spread, with_sparse_row}
use Rattle.sparse_rows.proofs.Spread.{at_spread, entry_cover, entry_here, length_spread}
use Rattle.dense_rows.specs.Dense.{AppendsGathered, AppendsScattered, CanAppend, IsPut}
use Rattle.dense_rows.proofs.Parts.{ending, length_ending}
use Rattle.dense_rows.proofs.Putting.{put_from, put_same}

-- one number more
pub counting_more : (n : ℕ) → range_with_len 0 (n + 1) ≡ range_with_len 0 n ++ n ∷ []
counting_more n = sym (map-id (range_with_len 0 (n + 1))) ∙ map-range_with_len_more (λ i. i) 0 n n (omega arith) ∙ ap (λ xs. xs ++ n ∷ []) (map-id (range_with_len 0 n))

-- columns and values are put into the row that they stand for
spread_put : {p n : ℕ} {cs vs : List ℕ} → IsSparse p n cs vs → IsPut n (length cs) (slice_index cs) (slice_index vs) (spread n cs vs)
spread_put {p} {n} {cs} {vs} s = record {
  long = length_spread n cs vs;
  put = λ k l. at_spread n cs vs (slice_index cs k) (s.below k l) ∙ entry_here cs vs s.long s.rising k l;
  others = λ x l no. at_spread n cs vs x l ∙ elim (entry_cover cs vs x) [ inl z ↦ z | inr w ↦ absurd (no w.0 w.1 w.2) ];
}

-- an item of the end
at_end : (from : ℕ) (xs : List ℕ) (k : ℕ) → slice_index (ending from xs) k ≡ slice_index xs (from + k)
at_end from xs k = ap (λ l. slice_index l k) (take_all (length xs - from) (drop from xs) (omega (arith, length-drop from xs))) ∙ get_or-drop from xs k 0

-- none of the entries from `from` on is 0
abbrev IsFullFrom : ℕ → List ℕ → Type 0
IsFullFrom from v = (j : ℕ) → from ≤ j → j < length v → 0 < slice_index v j

-- these entries, at the columns there
pub full_sparse : {p from : ℕ} {columns v entries : List ℕ} {u : ResidueMatrix} → CanAppend p from columns v u → IsFullFrom from v → entries ≡ drop from v →
    IsSparse p u.matrix.width (ending from columns) entries
full_sparse {p} {from} {columns} {v} {entries} h behind is = record {
  long = length_ending from columns ∙ sym long;
  rising = λ k t less l. omega (arith, at_end from columns k, at_end from columns t, h.rising (from + k) (from + t) (omega arith) (omega (arith, length_ending from columns)));
  below = λ k l. omega (arith, at_end from columns k, h.inside (from + k) (omega (arith, length_ending from columns)));
  positive = λ k l. omega (arith, read k, behind (from + k) (omega arith) (omega (arith, long, h.residues.len)));
  residues = λ k l. omega (arith, read k, h.residues.residues (from + k) (omega (arith, long)));
}
  where
    long : length entries ≡ length columns - from
    long = ap length is ∙ omega (arith, length-drop from v, h.residues.len)

    read : (k : ℕ) → slice_index entries k ≡ slice_index v (from + k)
    read k = ap (λ l. slice_index l k) is ∙ get_or-drop from v k 0

pub full_appended : {p from : ℕ} {columns v entries : List ℕ} {old new : ResidueMatrix} → CanAppend p from columns v old → IsFullFrom from v → entries ≡ drop from v →
    new.modulus ≡ old.modulus → new.matrix ≡ with_sparse_row old.matrix (ending from columns) entries → AppendsScattered columns v old new
full_appended {p} {from} {columns} {v} {entries} {old} {new} h behind is modulus matrix = record {
  modulus = modulus;
  row = row;
  put = subst (λ m. IsPut n m (slice_index columns) (slice_index v) row) whole
      (put_from from (slice_index columns) (slice_index v) (λ k t less l. h.rising k t less (omega (arith, whole))) (λ k l. h.inside k (omega (arith, h.start))) h.before put);
  matrix = matrix;
}
  where
    n : ℕ
    n = old.matrix.width

    row : List ℕ
    row = spread n (ending from columns) entries

    whole : from + length (ending from columns) ≡ length columns
    whole = omega (arith, length_ending from columns, h.start)

    put : IsPut n (length (ending from columns)) (λ k. slice_index columns (from + k)) (λ k. slice_index v (from + k)) row
    put = put_same (λ k. slice_index columns (from + k)) (λ k. slice_index v (from + k)) (λ k l. at_end from columns k)
        (λ k l. ap (λ l. slice_index l k) is ∙ get_or-drop from v k 0) (spread_put (full_sparse h behind is))

-- the first values are the entries of a row at these columns, none of which is 0
pub record AreFullAt (p n : ℕ) (columns v values : List ℕ) : Type 0 where
  pub few : length columns ≤ n
  pub room : length columns ≤ length values
  pub vector : IsVector p (length v) v
  pub inside : AreBelow (length v) columns
  pub read : (k : ℕ) → k < length columns → slice_index values k ≡ slice_index v (slice_index columns k)
  pub positive : (k : ℕ) → k < length columns → 0 < slice_index values k

-- the first of n numbers, and the first values
abbrev first_places : ℕ → ℕ → List ℕ
first_places m n = take m (range_with_len 0 n)

pub length_places : (m n : ℕ) → m ≤ n → length (take m (range_with_len 0 n)) ≡ m
length_places m n le = length-take-le m (range_with_len 0 n) (omega (arith, length-range_with_len 0 n))

pub at_places : (m n k : ℕ) → m ≤ n → k < m → slice_index (take m (range_with_len 0 n)) k ≡ k
at_places m n k le l = get_or-take m (range_with_len 0 n) k 0 l ∙ get_or-range_with_len 0 n k 0 (omega arith) ∙ omega arith

pub gathered_sparse : {p n : ℕ} {columns v values : List ℕ} → AreFullAt p n columns v values → IsSparse p n (take (length columns) (range_with_len 0 n)) (take (length columns) values)
gathered_sparse {p} {n} {columns} {v} {values} h = record {
  long = wide ∙ sym long;
  rising = λ k t less l. omega (arith, at_places m n k h.few (omega (arith, wide)), at_places m n t h.few (omega (arith, wide)));
  below = λ k l. omega (arith, at_places m n k h.few (omega (arith, wide)), h.few, wide);
  positive = λ k l. omega (arith, get_or-take m values k 0 (omega (arith, long)), h.positive k (omega (arith, long)));
  residues = λ k l. omega (arith, get_or-take m values k 0 (omega (arith, long)), h.read k (omega (arith, long)), h.vector.residues (slice_index columns k) (h.inside k (omega (arith, long))));
}
  where
    m : ℕ
    m = length columns

    wide : length (first_places m n) ≡ m
    wide = length_places m n h.few

    long : length (take m values) ≡ m
    long = length-take-le m values h.room

pub gathered_appended : {p : ℕ} {columns v values : List ℕ} {old new : ResidueMatrix} → AreFullAt p old.matrix.width columns v values → new.modulus ≡ old.modulus →
    new.matrix ≡ with_sparse_row old.matrix (take (length columns) (range_with_len 0 old.matrix.width)) (take (length columns) values) → AppendsGathered columns v old new
gathered_appended {p} {columns} {v} {values} {old} {new} h modulus matrix = record {
  modulus = modulus;
  row = row;
  put = put_same (λ k. k) (λ k. slice_index v (slice_index columns k)) (λ k l. at_places m n k h.few l) (λ k l. get_or-take m values k 0 l ∙ h.read k l)
      (subst (λ x. IsPut n x (slice_index (first_places m n)) (slice_index (take m values)) row) (length_places m n h.few) (spread_put (gathered_sparse h)));
  matrix = matrix;
}
  where
    m : ℕ
    m = length columns

    n : ℕ
    n = old.matrix.width

    row : List ℕ
    row = spread n (first_places m n) (take m values)
