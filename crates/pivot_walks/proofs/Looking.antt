-- A look at a row's columns.
use Rattle.std.proofs.Common.{ℕ, Bool, true, false, ◌||◌, ◌≡◌, ◌+◌, ◌<◌, ◌⊎◌, List, length, inl, inr, ⊎_elim, sym, refl, subst, arith}
use Rattle.std.specs.List.{Contains, slice_index}
use Rattle.residue_words.specs.Matrix.{Matrix, IsMatrix, row}
use Rattle.residue_words.specs.declared.plain.Pair.{Pair}
use Rattle.sparse_rows.specs.Rows.{support}
use Rattle.pivot_table.specs.History.{pair, Dead, HasCol, Nonzero}
use Rattle.pivot_walks.specs.Candidate.{HasCandidate}
use Rattle.residue_words.proofs.Lists.{place_in}
use Rattle.pivot_walks.proofs.Walking.{in_support, at_support, below_next}

either_true : (a b : Bool) → (a || b) ≡ true → (a ≡ true) ⊎ (b ≡ true)
either_true true b e = inl refl
either_true false b e = inr e

both_false : (a b : Bool) → (a || b) ≡ false → (a ≡ false) × (b ≡ false)
both_false true b e = absurd (cc)
both_false false b e = (refl, e)

-- of the first k columns none has the row's pair, and free says whether some is in no pair
pub record IsLooking (h : List Pair) (r : ℕ) (cols : List ℕ) (free : Bool) (k : ℕ) : Type 0 where
  pub apart : (t : ℕ) → t < k → ¬ Contains h (pair r (slice_index cols t))
  pub none : free ≡ false → (t : ℕ) → t < k → HasCol h (slice_index cols t)
  pub some : free ≡ true → (t : ℕ) × (t < k) × (¬ HasCol h (slice_index cols t))

pub looking_none : (h : List Pair) (r : ℕ) (cols : List ℕ) → IsLooking h r cols false 0
looking_none h r cols = record { apart = λ t l. absurd (omega arith); none = λ e t l. absurd (omega arith); some = λ e. absurd (cc) }

pub looking_more : {h : List Pair} {r : ℕ} {cols : List ℕ} {free : Bool} {k : ℕ} (is : Bool) → IsLooking h r cols free k → ¬ Contains h (pair r (slice_index cols k)) → (is ≡ true → ¬ HasCol h (slice_index cols k)) → (is ≡ false → HasCol h (slice_index cols k)) →
    IsLooking h r cols (free || is) (k + 1)
looking_more {h} {r} {cols} {free} {k} is s apart fresh has = record {
  apart = below_next (λ t. ¬ Contains h (pair r (slice_index cols t))) k s.apart apart;
  none = λ e. let both = both_false free is e in below_next (λ t. HasCol h (slice_index cols t)) k (s.none both.0) (has both.1);
  some = λ e. ⊎_elim (λ old. let t = s.some old in (t.0, omega (arith, t.1), t.2)) (λ new. (k, omega arith, fresh new)) (either_true free is e);
}

module _ {p : ℕ} {A : Matrix} (m : IsMatrix p A) {h : List Pair} {r : ℕ} {free : Bool} {k : ℕ} (l : r < A.height) (s : IsLooking h r (support (row A r)) free k) (whole : k ≡ length (support (row A r))) where
  pub looked_yes : ((q : Pair) → Contains h q → Nonzero A q.row q.col) → free ≡ true → HasCandidate A h r
  looked_yes inside e = (
    (λ t.
        let n : Nonzero A r t.0.col = subst (λ x. Nonzero A x t.0.col) t.2 (inside t.0 t.1) in
        let at = place_in (support (row A r)) t.0.col (in_support m r l t.0.col n) in
        s.apart at.0 (omega (arith, at.1)) (subst (λ c. Contains h (pair r c)) (sym at.2) (subst (λ x. Contains h (pair x t.0.col)) t.2 t.1))),
    (let t = s.some e in (slice_index (support (row A r)) t.0, at_support m r l t.0 (omega (arith, t.1)), t.2)),
  )

  pub looked_no : free ≡ false → Dead A h r
  looked_no e j a =
      let at = place_in (support (row A r)) j (in_support m r l j a.entry) in
      a.fresh_col (subst (HasCol h) at.2 (s.none e at.0 (omega (arith, at.1))))
