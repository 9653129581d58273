-- Places of columns, by a table and by a search.
use Rattle.std.proofs.Common.{ℕ, ◌≡◌, ◌≢◌, ◌+◌, ◌<◌, ◌≤◌, List, length, slice_index, slice_set, replicate, inl, inr, sym, refl, ap, ◌∙◌, arith}
use Rattle.std.specs.List.{Contains}
use Rattle.std.proofs.lemmas.Bool.{cases_eq, cases_lt}
use Rattle.std.proofs.lemmas.List.{length-set, length-replicate, get_or-replicate, get_or-set_same, get_or-set_other}
use Rattle.residue_words.proofs.Lists.{contains_at, place_in}
use Rattle.sparse_rows.specs.Rows.{AreBelow, AreRising}
use Rattle.lead_rows.specs.Scattered.{HaveDistinctColumns}
use Rattle.triangular_solve.specs.AscendingColumns.{IsTable}
use Rattle.triangular_solve.specs.PivotRows.{IsOrderOf}
use Rattle.triangular_solve.proofs.OrderingColumns.{order_below, order_has}

-- a table of n columns that has the places of the first k, and none of others
pub record IsTableSoFar (n : ℕ) (columns : List ℕ) (k : ℕ) (table : List ℕ) : Type 0 where
  pub long : length table ≡ n
  pub some : (c : ℕ) → c < n → slice_index table c ≢ 4294967295 → Contains columns c
  pub every : (t : ℕ) → t < k → slice_index table (slice_index columns t) ≡ t

pub table_begun : (columns table : List ℕ) → ((c : ℕ) → c < length table → slice_index table c ≢ 4294967295 → Contains columns c) → IsTableSoFar (length table) columns 0 table
table_begun columns table others = record { long = refl; some = others; every = λ t l. absurd (omega arith) }

pub table_more : {n : ℕ} {columns : List ℕ} {k : ℕ} {table : List ℕ} → HaveDistinctColumns columns → IsTableSoFar n columns k table → k < length columns → slice_index columns k < n →
    IsTableSoFar n columns (k + 1) (slice_set table (slice_index columns k) k)
table_more {n} {columns} {k} {table} distinct i l lc =
    let c = slice_index columns k in
    let here = get_or-set_same table c k 0 (omega (arith, i.long)) in
    record {
      long = length-set table c k ∙ i.long;
      some = λ d ld ne. elim (cases_eq d c) [
        | inl s ↦ contains_at columns k d l (sym s)
        | inr o ↦ i.some d ld (λ z. ne (get_or-set_other table c d k 0 o ∙ z))
      ];
      every = λ t lt. elim (cases_lt t k) [
        | inl less ↦ get_or-set_other table c (slice_index columns t) k 0 (distinct t k less l) ∙ i.every t less
        | inr ge ↦ (let is : t ≡ k = omega arith in ap (λ j. slice_index (slice_set table c k) (slice_index columns j)) is ∙ here ∙ sym is)
      ];
    }

pub table_all : {n : ℕ} {columns : List ℕ} {k : ℕ} {table : List ℕ} → IsTableSoFar n columns k table → length columns ≤ k → AreBelow n columns → IsTable columns table
table_all {n} {columns} {k} {table} i le below = record {
  some = λ c l ne.
      let w = place_in columns c (i.some c (omega (arith, i.long)) ne) in
      let is : slice_index table c ≡ w.0 = ap (slice_index table) (sym w.2) ∙ i.every w.0 (omega (arith, w.1)) in
      (omega (arith, is, w.1), ap (slice_index columns) is ∙ w.2);
  every = λ t l. (omega (arith, below t l, i.long), i.every t (omega arith));
}

-- columns that ascend are distinct
pub rising_distinct : (columns : List ℕ) → AreRising columns → HaveDistinctColumns columns
rising_distinct columns rising = λ k t l lt e. absurd (omega (arith, rising k t l lt))

-- a table without places has none of others
pub no_places : (n : ℕ) (columns table : List ℕ) → table ≡ replicate n 4294967295 → (c : ℕ) → c < length table → slice_index table c ≢ 4294967295 → Contains columns c
no_places n columns table e c l ne = absurd (ne (ap (λ xs. slice_index xs c) e ∙ get_or-replicate n c 4294967295 0 (omega (arith, ap length e, length-replicate {A = ℕ} n 4294967295))))

-- a table of the sorted columns has places of the ordered ones alone
pub sorted_alone : {sorted places columns table : List ℕ} → IsOrderOf sorted places columns → IsTable sorted table → (c : ℕ) → c < length table → slice_index table c ≢ 4294967295 → Contains columns c
sorted_alone {sorted} {places} {columns} {table} o t c l ne = let p = t.some c l ne in order_has o c (contains_at sorted (slice_index table c) c p.0 p.1)

pub sorted_below : {sorted places columns table : List ℕ} → IsOrderOf sorted places columns → IsTable sorted table → AreBelow (length table) columns
sorted_below o t = order_below o (λ k l. (t.every k l).0)

-- a column without a place in the table isn't pivotal
pub not_pivotal : {columns table : List ℕ} → IsTable columns table → length columns ≤ 2147483648 → (c : ℕ) → (c < length table → slice_index table c ≡ 4294967295) → ¬ Contains columns c
not_pivotal {columns} {table} t few c none m =
    let p = place_in columns c m in
    let e = t.every p.0 p.1 in
    let l : c < length table = omega (arith, e.0, p.2) in
    absurd (omega (arith, e.1, ap (slice_index table) p.2, none l, p.1))
