-- Entries grouped by their columns are the rows of the transposed matrix.
use Rattle.std.proofs.Common.{ℕ, zero, suc, ◌≡◌, ◌≢◌, ◌+◌, ◌-◌, ◌<◌, ◌≤◌, inl, inr, List, [], ◌∷◌, ◌++◌, length, map, replicate, take, eqb, get_or, slice_index, slice_index_or, sym, refl, ap, ap₂, subst, ◌∙◌, arith}
use Rattle.std.specs.List.{range_with_len}
use Rattle.std.proofs.lemmas.Bool.{cases_eq, cases_lt, cond-true, eq-eqb}
use Rattle.std.proofs.lemmas.List.{append-nil, ext_get_or, get_or_default, get_or-map, length-map, length-take-le, take_all}
use Rattle.std.proofs.lemmas.List.FromFn.{get_or-map-range_with_len, get_or-range_with_len, length-map-range_with_len, length-range_with_len}
use Rattle.std.proofs.lemmas.List.Edits.{get_or-between}
use Rattle.residue_words.specs.Matrix.{Matrix, entry, list_of, row}
use Rattle.residue_words.proofs.Vectors.{at_list_of, length_list_of, list_of_equal, row_matrix_of}
use Rattle.column_lists.specs.declared.sizes.TheConstants.{LARGEST_SIZE}
use Rattle.sparse_rows.specs.Rows.{selected, support, transposed}
use Rattle.column_lists.specs.Parts.{AreBegun, HoldsParts, count_of, part, part_numbers, picked}
use Rattle.sparse_rows.specs.Stored.{IsSparse, IsStored, entry_at, spread, stored_matrix, stored_row}
use Rattle.sparse_rows.proofs.Loops.{sized}
use Rattle.sparse_rows.proofs.Spread.{Ascends, at_spread, columns_ascend, entry_beyond, entry_push_other, entry_push_same, entry_tail, sparse_none, sparse_push, support_spread, widen}
use Rattle.column_lists.proofs.Parts.{length_part, starts_below, take_part, length_part_numbers}
use Rattle.sparse_rows.proofs.Stored.{row_stored, value_parts}
use Rattle.column_lists.proofs.Grouping.{picked_append, picked_skip, picked_take, length_picked, begun_part}

-- nothing stands before the first column
picked_before : (k low n : ℕ) (cs xs : List ℕ) → k < low → Ascends low n cs → picked k cs xs ≡ []
picked_before k low n [] xs l a = refl
picked_before k low n (c ∷ cs) [] l a = refl
picked_before k low n (c ∷ cs) (x ∷ xs) l a = picked_skip k c cs x xs (omega (arith, a.0)) ∙ picked_before k (c + 1) n cs xs (omega (arith, a.0)) a.2

-- a row has nothing at column k, or its entry there
data AtColumn (k r : ℕ) (cs vs : List ℕ) : Type 0 where
  none : picked k cs (replicate (length cs) r) ≡ [] → picked k cs vs ≡ [] → entry_at cs vs k ≡ 0 → AtColumn k r cs vs
  some : (t : ℕ) → t < length vs → picked k cs (replicate (length cs) r) ≡ r ∷ [] → picked k cs vs ≡ slice_index vs t ∷ [] → entry_at cs vs k ≡ slice_index vs t → AtColumn k r cs vs

-- a column before k changes nothing
at_column_skip : (k r c : ℕ) (cs : List ℕ) (v : ℕ) (vs : List ℕ) → c ≢ k → AtColumn k r cs vs → AtColumn k r (c ∷ cs) (v ∷ vs)
at_column_skip k r c cs v vs d (none a b e) = none (picked_skip k c cs r _ d ∙ a) (picked_skip k c cs v vs d ∙ b) (entry_tail c cs v vs k d ∙ e)
at_column_skip k r c cs v vs d (some t l a b e) = some (suc t) (omega (arith, l)) (picked_skip k c cs r _ d ∙ a) (picked_skip k c cs v vs d ∙ b) (entry_tail c cs v vs k d ∙ e)

-- each row has nothing at column k, or its entry
at_column : (k r low n : ℕ) (cs vs : List ℕ) → length cs ≡ length vs → Ascends low n cs → AtColumn k r cs vs
at_column k r low n [] vs e a = none refl refl refl
at_column k r low n (c ∷ cs) [] e a = absurd (omega arith)
at_column k r low n (c ∷ cs) (v ∷ vs) e a =
    elim (cases_eq c k) [
      | inl q ↦
          let later : k < c + 1 = omega arith in
          some 0 (omega arith)
          (picked_take k c cs r _ q ∙ ap (λ t. r ∷ t) (picked_before k (c + 1) n cs _ later a.2))
          (picked_take k c cs v vs q ∙ ap (λ t. v ∷ t) (picked_before k (c + 1) n cs vs later a.2))
          (cond-true (eqb c k) v (entry_at cs vs k) (eq-eqb c k q))
      | inr d ↦ at_column_skip k r c cs v vs d (at_column k r (c + 1) n cs vs (omega arith) a.2)
    ]

-- the first r rows of column k, as they are picked
record IsColumn (p k r : ℕ) (starts cs vs is ws : List ℕ) : Type 0 where
  sparse : IsSparse p r is ws
  entries : (i : ℕ) → i < r → entry_at is ws i ≡ entry_at (part starts cs i) (part starts vs i) k

-- one row more
column_more : (p k r n : ℕ) (starts cs vs is ws : List ℕ) → IsSparse p n (part starts cs r) (part starts vs r) → IsColumn p k r starts cs vs is ws →
    AtColumn k r (part starts cs r) (part starts vs r) →
    IsColumn p k (r + 1) starts cs vs (is ++ picked k (part starts cs r) (replicate (length (part starts cs r)) r)) (ws ++ picked k (part starts cs r) (part starts vs r))
column_more p k r n starts cs vs is ws row column (none a b e) =
    let same : is ++ picked k (part starts cs r) (replicate (length (part starts cs r)) r) ≡ is = ap (λ t. is ++ t) a ∙ append-nil is in
    let same_values : ws ++ picked k (part starts cs r) (part starts vs r) ≡ ws = ap (λ t. ws ++ t) b ∙ append-nil ws in
    rw (same, same_values) record {
      sparse = widen column.sparse (r + 1) (omega arith);
      entries = λ i l. elim (cases_eq i r) [
        | inl q ↦ entry_beyond is ws r i column.sparse.below (omega arith) ∙ sym (ap (λ t. entry_at (part starts cs t) (part starts vs t) k) q ∙ e)
        | inr d ↦ column.entries i (omega arith)
      ];
    }
column_more p k r n starts cs vs is ws row column (some t l a b e) =
    let v : ℕ = slice_index (part starts vs r) t in
    rw (a, b) record {
      sparse = sparse_push column.sparse v (row.positive t l) (row.residues t l);
      entries = λ i s. elim (cases_eq r i) [
        | inl q ↦ ap (entry_at (is ++ r ∷ []) (ws ++ v ∷ [])) (sym q) ∙ entry_push_same is ws r v column.sparse.long column.sparse.below ∙ sym e
            ∙ ap (λ t. entry_at (part starts cs t) (part starts vs t) k) q
        | inr d ↦ entry_push_other is ws r v i column.sparse.long d ∙ column.entries i (omega arith)
      ];
    }

module _ (p n : ℕ) (starts cs vs : List ℕ) (stored : IsStored p n starts cs vs) (k : ℕ) where
  -- the first r rows
  column_until : (r : ℕ) → r ≤ length starts - 1 →
      IsColumn p k r starts cs vs (picked k (take (slice_index starts r) cs) (part_numbers r starts)) (picked k (take (slice_index starts r) cs) (take (slice_index starts r) vs))
  column_until zero l =
      let empty : slice_index starts zero ≡ 0 = stored.parts.first in
      rw empty record { sparse = sparse_none p zero; entries = λ i s. absurd (omega arith) }
  column_until (suc r) l =
      let next : suc r ≡ r + 1 = omega arith in
      let within : r < length starts - 1 = omega arith in
      let h : ℕ = length starts - 1 in
      let here : ℕ = slice_index starts r in
      let row : IsSparse p n (part starts cs r) (part starts vs r) = stored.each r within in
      let many : slice_index starts (r + 1) - slice_index starts r ≡ length (part starts cs r) = omega (arith, length_part cs stored.parts r within) in
      let low : here ≤ length cs = starts_below stored.parts r (omega arith) in
      let long : length (take here cs) ≡ here = length-take-le here cs low in
      let columns : take (slice_index starts (suc r)) cs ≡ take here cs ++ part starts cs r = ap (λ t. take (slice_index starts t) cs) next ∙ take_part h starts cs stored.parts r within in
      let items : take (slice_index starts (suc r)) vs ≡ take here vs ++ part starts vs r = ap (λ t. take (slice_index starts t) vs) next ∙ take_part h starts vs (value_parts stored) r within in
      let numbers : part_numbers (suc r) starts ≡ part_numbers r starts ++ replicate (length (part starts cs r)) r = ap (λ t. part_numbers r starts ++ replicate t r) many in
      let is : picked k (take (slice_index starts (suc r)) cs) (part_numbers (suc r) starts) ≡ picked k (take here cs) (part_numbers r starts) ++ picked k (part starts cs r) (replicate (length (part starts cs r)) r) =
      ap₂ (picked k) columns numbers ∙ picked_append k (take here cs) (part starts cs r) (part_numbers r starts) _ (long ∙ sym (length_part_numbers h (length cs) starts stored.parts r (omega arith))) in
      let ws : picked k (take (slice_index starts (suc r)) cs) (take (slice_index starts (suc r)) vs) ≡ picked k (take here cs) (take here vs) ++ picked k (part starts cs r) (part starts vs r) =
      ap₂ (picked k) columns items ∙ picked_append k (take here cs) (part starts cs r) (take here vs) _ (long ∙ sym (length-take-le here vs (omega (arith, stored.long)))) in
      let all_is : List ℕ = picked k (take here cs) (part_numbers r starts) ++ picked k (part starts cs r) (replicate (length (part starts cs r)) r) in
      let all_ws : List ℕ = picked k (take here cs) (take here vs) ++ picked k (part starts cs r) (part starts vs r) in
      let more : IsColumn p k (r + 1) starts cs vs all_is all_ws =
      column_more p k r n starts cs vs _ _ row (column_until r (omega arith)) (at_column k r 0 n (part starts cs r) (part starts vs r) row.long (columns_ascend row)) in
      rw (is, ws) (subst (λ t. IsColumn p k t starts cs vs all_is all_ws) (sym next) more)

  -- column k of the matrix
  column_is : (is ws : List ℕ) → is ≡ picked k cs (part_numbers (length starts - 1) starts) → ws ≡ picked k cs vs → IsColumn p k (length starts - 1) starts cs vs is ws
  column_is is ws e f =
      let h : ℕ = length starts - 1 in
      let all : take (slice_index starts h) cs ≡ cs = take_all (slice_index starts h) cs (omega (arith, stored.parts.last)) in
      let all_values : take (slice_index starts h) vs ≡ vs = take_all (slice_index starts h) vs (omega (arith, stored.parts.last, stored.long)) in
      rw (e, f) (subst (λ t. IsColumn p k h starts cs vs (picked k t (part_numbers h starts)) (picked k t vs)) all
      (subst (λ t. IsColumn p k h starts cs vs (picked k (take (slice_index starts h) cs) (part_numbers h starts)) (picked k (take (slice_index starts h) cs) t)) all_values
      (column_until h (omega arith))))

-- so many entries has the column
pub count_support : {p n : ℕ} {starts cs vs : List ℕ} → IsStored p n starts cs vs → (k : ℕ) → k < n → count_of k cs ≡ length (support (row (transposed (stored_matrix n starts cs vs)) k))
unfolding stored_row spread
count_support {p} {n} {starts} {cs} {vs} s k l =
    let h : ℕ = length starts - 1 in
    let A : Matrix = stored_matrix n starts cs vs in
    let is : List ℕ = picked k cs (part_numbers h starts) in
    let ws : List ℕ = picked k cs vs in
    let column : IsColumn p k h starts cs vs is ws = column_is p n starts cs vs s k is ws refl refl in
    let row_is : row (transposed A) k ≡ spread h is ws =
    row_matrix_of n h (λ j i. entry A i j) k l
    ∙ list_of_equal h (λ i. entry A i k) (entry_at is ws) (λ i b.
    ap (λ r. slice_index r k) (row_stored n starts cs vs i b) ∙ at_spread n (part starts cs i) (part starts vs i) k l ∙ sym (column.entries i b)) in
    let long : length cs ≡ length (part_numbers h starts) = sym (length_part_numbers h (length cs) starts s.parts h (omega arith) ∙ s.parts.last) in
    sym (ap (λ v. length (support v)) row_is ∙ ap length (support_spread column.sparse) ∙ length_picked k cs (part_numbers h starts) long)

-- so that is what was counted
pub count_read : {p n : ℕ} {starts cs vs keys counts : List ℕ} {M : Matrix} (j c : ℕ) → IsStored p n starts cs vs → stored_matrix n starts cs vs ≡ M → keys ≡ cs →
    counts ≡ list_of n (λ k. count_of k keys) → j < n → c ≡ get_or counts j c → c ≡ length (support (row (transposed M) j))
count_read {p} {n} {starts} {cs} {vs} {keys} {counts} {M} j c s em ek ec l e =
    e ∙ ap (λ xs. get_or xs j c) ec ∙ get_or_default (list_of n (λ k. count_of k keys)) j c 0 (omega (arith, length_list_of n (λ k. count_of k keys))) ∙ at_list_of n (λ k. count_of k keys) j l
    ∙ ap (count_of j) ek ∙ count_support s j l ∙ ap (λ A. length (support (row (transposed A) j))) em

module _ (p n : ℕ) (starts cs vs : List ℕ) (stored : IsStored p n starts cs vs) (order starts' begins is ws : List ℕ) (few : length order ≤ LARGEST_SIZE)
    (below : (t : ℕ) → t < length order → slice_index order t < n) (begun : AreBegun order cs starts' begins)
    (holds : HoldsParts cs (part_numbers (length starts - 1) starts) begins is) (holds_values : HoldsParts cs vs begins ws) (long : length is ≡ length cs) (long_values : length ws ≡ length cs) where
  ordered_column : (t : ℕ) → t < length order → IsColumn p (slice_index order t) (length starts - 1) starts cs vs (part starts' is t) (part starts' ws t)
  ordered_column t l =
      column_is p n starts cs vs stored (slice_index order t) (part starts' is t) (part starts' ws t) (begun_part _ is begun holds t l) (begun_part vs ws begun holds_values t l)

  ordered_stored : IsStored p (length starts - 1) starts' is ws
  ordered_stored =
      let many : length starts' - 1 ≡ length order = omega (arith, begun.parts.long) in
      record {
        height_small = omega (arith, begun.parts.long);
        width_small = omega (arith, stored.height_small);
        two_or_more = stored.two_or_more;
        in_range = stored.in_range;
        parts = rw (many, long) begun.parts;
        long = long ∙ sym long_values;
        each = λ t l. (ordered_column t (omega arith)).sparse;
      }

  ordered_matrix : stored_matrix (length starts - 1) starts' is ws ≡ selected (transposed (stored_matrix n starts cs vs)) order
  unfolding stored_row spread
  ordered_matrix =
      let h : ℕ = length starts - 1 in
      let A : Matrix = stored_matrix n starts cs vs in
      let many : length starts' - 1 ≡ length order = omega (arith, begun.parts.long) in
      ap (λ t. sized t h (map (stored_row h starts' is ws) (range_with_len 0 t))) many
      ∙ ap (sized (length order) h) (ext_get_or [] _ (map (row (transposed A)) order)
      (length-map-range_with_len (stored_row h starts' is ws) 0 (length order) ∙ sym (length-map order (row (transposed A)))) (λ t b.
      let l : t < length order = omega (arith, b, length-map-range_with_len (stored_row h starts' is ws) 0 (length order)) in
      let k : ℕ = slice_index order t in
      get_or-map-range_with_len (stored_row h starts' is ws) 0 (length order) t t [] l (omega arith)
      ∙ list_of_equal h (entry_at (part starts' is t) (part starts' ws t)) (λ i. entry A i k) (λ i lt.
      (ordered_column t l).entries i lt ∙ sym (at_spread n (part starts cs i) (part starts vs i) k (below t l))
      ∙ sym (ap (λ r. slice_index r k) (row_stored n starts cs vs i lt)))
      ∙ sym (row_matrix_of n h (λ j i. entry A i j) k (below t l))
      ∙ sym (get_or-map (row (transposed A)) order t 0 [] l)))

-- the same of what placing gives
pub begun_stored : (p n h : ℕ) (starts cs vs rows keys values order starts' begins made is ws : List ℕ) → IsStored p n starts cs vs → h ≡ length starts - 1 → rows ≡ starts → keys ≡ cs → values ≡ vs →
    length order ≤ LARGEST_SIZE → ((t : ℕ) → t < length order → slice_index order t < n) → AreBegun order cs starts' begins → made ≡ starts' →
    HoldsParts keys (part_numbers (length rows - 1) rows) begins is → HoldsParts keys values begins ws → length is ≡ length keys → length ws ≡ length keys →
    IsStored p h made is ws × (stored_matrix h made is ws ≡ selected (transposed (stored_matrix n starts cs vs)) order)
begun_stored p n h starts cs vs rows keys values order starts' begins made is ws stored eh er ek ev few below begun em holds holds_values long long_values =
    let held : HoldsParts cs (part_numbers (length starts - 1) starts) begins is =
    subst (λ t. HoldsParts t (part_numbers (length starts - 1) starts) begins is) ek (subst (λ t. HoldsParts keys (part_numbers (length t - 1) t) begins is) er holds) in
    let held_values : HoldsParts cs vs begins ws = subst (λ t. HoldsParts t vs begins ws) ek (subst (λ t. HoldsParts keys t begins ws) ev holds_values) in
    rw (eh, em) (
      ordered_stored p n starts cs vs stored order starts' begins is ws few below begun held held_values (long ∙ ap length ek) (long_values ∙ ap length ek),
      ordered_matrix p n starts cs vs stored order starts' begins is ws few below begun held held_values (long ∙ ap length ek) (long_values ∙ ap length ek),
    )

-- all rows of a matrix, in order, are the matrix
pub all_selected : (A : Matrix) → length A.rows ≡ A.height → A ≡ selected A (range_with_len 0 A.height)
all_selected A long = sym (ap₂ (λ h r. sized h A.width r) (length-range_with_len 0 A.height) (all_rows A.rows A.height long))
  where
    all_rows : (rows : List (List ℕ)) (n : ℕ) → length rows ≡ n → map (λ i. slice_index_or rows i []) (range_with_len 0 n) ≡ rows
    all_rows rows n long = ext_get_or [] _ rows (length-map-range_with_len _ 0 n ∙ sym long) (λ i l.
        get_or-map-range_with_len (λ k. slice_index_or rows k []) 0 n i i [] (omega (arith, length-map-range_with_len (λ k. slice_index_or rows k []) 0 n)) (omega arith))

-- and of placing for all columns in order
pub all_begun_stored : (p n h : ℕ) (starts cs vs rows keys values starts' begins made is ws : List ℕ) → IsStored p n starts cs vs → h ≡ length starts - 1 → rows ≡ starts → keys ≡ cs → values ≡ vs →
    AreBegun (range_with_len 0 n) cs starts' begins → made ≡ starts' → HoldsParts keys (part_numbers (length rows - 1) rows) begins is → HoldsParts keys values begins ws →
    length is ≡ length keys → length ws ≡ length keys → IsStored p h made is ws × (stored_matrix h made is ws ≡ transposed (stored_matrix n starts cs vs))
all_begun_stored p n h starts cs vs rows keys values starts' begins made is ws stored eh er ek ev begun em holds holds_values long long_values =
    let many : length (range_with_len 0 n) ≡ n = length-range_with_len 0 n in
    let A : Matrix = stored_matrix n starts cs vs in
    let made_so = begun_stored p n h starts cs vs rows keys values (range_with_len 0 n) starts' begins made is ws stored eh er ek ev (omega (arith, stored.width_small))
    (λ t l. omega (arith, get_or-range_with_len 0 n t 0 (omega arith))) begun em holds holds_values long long_values in (
      made_so.0,
      made_so.1 ∙ sym (all_selected (transposed A) (length-map-range_with_len (λ j. list_of A.height (λ i. entry A i j)) 0 n)),
    )

-- all columns are below the width
columns_until : {p n : ℕ} {starts cs vs : List ℕ} → IsStored p n starts cs vs → (r : ℕ) → r ≤ length starts - 1 → (t : ℕ) → t < slice_index starts r → slice_index cs t < n
unfolding part
columns_until {p} {n} {starts} {cs} {vs} s zero l t b = absurd (omega (arith, s.parts.first))
columns_until {p} {n} {starts} {cs} {vs} s (suc r) l t b =
    let a : ℕ = slice_index starts r in
    elim (cases_lt t a) [
      | inl e ↦ columns_until s r (omega arith) t e
      | inr e ↦
          let next : slice_index starts (suc r) ≡ slice_index starts (r + 1) = ap (slice_index starts) (let q : suc r ≡ r + 1 = omega arith in q) in
          let at : a + (t - a) ≡ t = omega arith in
          let here : slice_index (part starts cs r) (t - a) ≡ slice_index cs t =
          get_or-between cs a (slice_index starts (r + 1)) (t - a) 0 (omega arith) ∙ ap (slice_index cs) at in
          let low : slice_index (part starts cs r) (t - a) < n = (s.each r (omega arith)).below (t - a) (omega (arith, length_part cs s.parts r (omega arith))) in
          omega arith
    ]

pub columns_below : {p n : ℕ} {starts cs vs : List ℕ} → IsStored p n starts cs vs → (t : ℕ) → t < length cs → slice_index cs t < n
columns_below {p} {n} {starts} {cs} {vs} s t l = columns_until s (length starts - 1) (omega arith) t (omega (arith, s.parts.last))
