-- For each column the sparsest row that begins there, as the rows come, and as they are taken.
use Rattle.std.proofs.Common.{ℕ, ◌≡◌, ◌≢◌, ◌+◌, ◌<◌, ◌≤◌, List, length, get_or, set, replicate, inl, inr, sym, refl, ap, subst, ◌∙◌, arith}
use Rattle.std.proofs.lemmas.Bool.{cases_eq, cases_lt}
use Rattle.std.proofs.lemmas.List.{length-set, length-replicate, get_or-replicate, get_or-set_same, get_or-set_other}
use Rattle.residue_words.specs.Matrix.{Matrix, IsMatrix}
use Rattle.residue_words.specs.declared.plain.Pair.{Pair}
use Rattle.sparse_rows.specs.Rows.{IsZeroRow, LARGEST_SIZE, ResidueMatrix}
use Rattle.pivot_table.specs.History.{row_weight}
use Rattle.pivot_table.specs.Leftmost.{BeginsAt, IsSparsest}
use Rattle.fl_pivots.specs.declared.beginning.Beginning.{Beginning}
use Rattle.fl_pivots.specs.declared.sparsest.Sparsest.{Sparsest}
use Rattle.fl_pivots.specs.Beginnings.{IsBeginning}
use Rattle.fl_pivots.specs.Sparsest.{AreSparsest, IsSparsestOf}
use Rattle.fl_pivots.proofs.Listing.{begins_nowhere, begins_one, weight_small}
use Rattle.fl_pivots.proofs.Taking.{IsTaking, taking_passes}

abbrev pub nowhere : Sparsest
nowhere = record { weight = 4294967295; row = 0 }

-- the table before the first row
pub nothing_chosen : (A : Matrix) → AreSparsest A 0 (replicate A.width nowhere)
nothing_chosen A = record {
  long = length-replicate A.width nowhere;
  each = λ c x l. subst (IsSparsestOf A 0 c) (sym (get_or-replicate A.width c nowhere x l)) (record {
    is_row = λ ne. absurd (ne refl);
    fewest = λ s less at. absurd (omega arith);
    lowest = λ s less at e. absurd (omega arith);
  });
}

-- an item stays right as rows come that don't begin at its column
stays : {A : Matrix} {n i c : ℕ} {x : Sparsest} → IsSparsestOf A n c x → n ≤ i → ((s : ℕ) → n ≤ s → s < i → ¬ BeginsAt A s c) → IsSparsestOf A i c x
stays {A} {n} {i} {c} {x} is le none = record {
  is_row = λ ne. let r = is.is_row ne in (omega (arith, r.0), r.1, r.2);
  fewest = λ s l at. is.fewest s (before s l at) at;
  lowest = λ s l at e. is.lowest s (before s l at) at e;
}
  where
    before : (s : ℕ) → s < i → BeginsAt A s c → s < n
    before s l at = elim (cases_lt s n) [ inl less ↦ less | inr ge ↦ absurd (none s ge l at) ]

-- rows without an entry are passed
pub choice_passes : {p : ℕ} {A : Matrix} {n i : ℕ} {table : List Sparsest} → IsMatrix p A → AreSparsest A n table → n ≤ i → ((k : ℕ) → n ≤ k → k < i → IsZeroRow A k) → AreSparsest A i table
choice_passes {p} {A} {n} {i} {table} m t le zero' = record {
  long = t.long;
  each = λ c x l. stays (t.each c x l) le (λ s ge less at. absurd (begins_nowhere m s at.0.0 (ap length (zero' s ge less)) c at));
}

-- row n begins at a column
module _ {A : Matrix} {n : ℕ} {table : List Sparsest} (t : AreSparsest A n table) {b : Beginning} (is : IsBeginning A n b) where
  there : b.column < A.width
  there = is.begins.0.1

  -- other columns
  aside : (c : ℕ) (x : Sparsest) → c < A.width → c ≢ b.column → IsSparsestOf A (n + 1) c (get_or table c x)
  aside c x l ne = stays (t.each c x l) (omega arith) (λ s ge less at. let e : s ≡ n = omega arith in absurd (ne (begins_one A n c b.column (subst (λ r. BeginsAt A r c) e at) is.begins)))

  -- it has fewer entries than those before
  pub sparser_comes : (d : Sparsest) → b.weight < (get_or table b.column d).weight → AreSparsest A (n + 1) (set table b.column (record { weight = b.weight; row = n }))
  sparser_comes d less = record {
    long = length-set table b.column new ∙ t.long;
    each = λ c x l. elim (cases_eq c b.column) [
      | inl e ↦ subst (λ k. IsSparsestOf A (n + 1) k (get_or (set table b.column new) k x)) (sym e)
          (subst (IsSparsestOf A (n + 1) b.column) (sym (get_or-set_same table b.column new x (omega (arith, there, t.long)))) here)
      | inr o ↦ subst (IsSparsestOf A (n + 1) c) (sym (get_or-set_other table b.column c new x o)) (aside c x l o)
    ];
  }
    where
      new : Sparsest
      new = record { weight = b.weight; row = n }

      here : IsSparsestOf A (n + 1) b.column new
      here = record {
        is_row = λ ne. (omega arith, is.begins, is.weight);
        fewest = λ s l at. elim (cases_lt s n) [
          | inl before ↦ omega (arith, less, (t.each b.column d there).fewest s before at)
          | inr ge ↦ let e : s ≡ n = omega arith in omega (arith, is.weight, ap (row_weight A) e)
        ];
        lowest = λ s l at w. elim (cases_lt s n) [
          | inl before ↦ absurd (omega (arith, less, (t.each b.column d there).fewest s before at, w))
          | inr ge ↦ ge
        ];
      }

  -- it has as many as one before, or more
  pub no_sparser_comes : b.weight < 4294967295 → ((d : Sparsest) → (get_or table b.column d).weight ≤ b.weight) → AreSparsest A (n + 1) table
  no_sparser_comes low le = record {
    long = t.long;
    each = λ c x l. elim (cases_eq c b.column) [
      | inl e ↦ subst (λ k. IsSparsestOf A (n + 1) k (get_or table k x)) (sym e) (here x)
      | inr o ↦ aside c x l o
    ];
  }
    where
      here : (x : Sparsest) → IsSparsestOf A (n + 1) b.column (get_or table b.column x)
      here x =
          let old = t.each b.column x there in
          record {
            is_row = λ ne. let r = old.is_row ne in (omega (arith, r.0), r.1, r.2);
            fewest = λ s l at. elim (cases_lt s n) [
              | inl before ↦ old.fewest s before at
              | inr ge ↦ let e : s ≡ n = omega arith in omega (arith, le x, is.weight, ap (row_weight A) e)
            ];
            lowest = λ s l at w. elim (cases_lt s n) [
              | inl before ↦ old.lowest s before at w
              | inr ge ↦ let r = old.is_row (λ z. absurd (omega (arith, le x, low, z))) in omega (arith, r.0)
            ];
          }

-- the whole table, for rows of which a call tells
module _ {R S : ResidueMatrix} (same : R ≡ S) (small : R.matrix.width ≤ LARGEST_SIZE) (m : IsMatrix R.modulus R.matrix) {table : List Sparsest} (t : AreSparsest S.matrix S.matrix.height table) where
  sound : IsMatrix S.modulus S.matrix
  sound = subst (λ (T : ResidueMatrix). IsMatrix T.modulus T.matrix) same m

  narrow : S.matrix.width ≤ 2147483648
  narrow = omega (arith, small, ap (λ (T : ResidueMatrix). T.matrix.width) same)

  here : {c : ℕ} (d : Sparsest) → c < length table → IsSparsestOf S.matrix S.matrix.height c (get_or table c d)
  here {c} d l = t.each c d (omega (arith, l, t.long))

  pub passes_column : {qs : List Pair} {c : ℕ} (d : Sparsest) → c < length table → 4294967295 ≤ (get_or table c d).weight → IsTaking S.matrix qs c → IsTaking S.matrix qs (c + 1)
  passes_column {qs} {c} d l none taking = taking_passes taking (c + 1) (omega arith) (λ r e at less. elim (cases_lt e c) [
    | inl before ↦ before
    | inr ge ↦
        let is : e ≡ c = omega arith in
        absurd (omega (arith, none, narrow, (here d l).fewest r at.0.0 (subst (BeginsAt S.matrix r) is at), weight_small sound r at.0.0))
  ])

  pub is_sparsest : {c : ℕ} (d : Sparsest) → c < length table → (get_or table c d).weight < 4294967295 → IsSparsest S.matrix (get_or table c d).row c
  is_sparsest {c} d l some =
      let x = here d l in
      let r = x.is_row (λ z. absurd (omega (arith, some, z))) in
      record {
        begins = r.1;
        fewest = λ s at. omega (arith, x.fewest s at.0.0 at, r.2);
        lowest = λ s at le. x.lowest s at.0.0 at (omega (arith, x.fewest s at.0.0 at, r.2, le));
      }
