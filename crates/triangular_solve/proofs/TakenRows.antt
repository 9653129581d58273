-- A row whose entries in the columns of pivot rows are taken in, one after another.
use Rattle.std.proofs.Common.{ℕ, ◌≡◌, ◌+◌, ◌*◌, ◌%◌, ◌<◌, ◌≤◌, List, length, slice_index, slice_set, sym, refl, ap, subst, ◌∙◌, arith}
use native.Mathlib.Nat.{mod-mod}
use Rattle.std.specs.List.{Contains}
use Rattle.residue_words.specs.Matrix.{IsMatrix, IsVector, entry, zeros}
use Rattle.residue_words.specs.Residues.{sum_below}
use Rattle.residue_words.proofs.Residues.{add_same}
use Rattle.residue_words.proofs.Vectors.{at_combine}
use Rattle.sparse_rows.specs.Rows.{AreBelow, ResidueRow}
use Rattle.sparse_rows.specs.Stored.{IsSparse, spread}
use Rattle.sparse_rows.proofs.Spread.{length_spread}
use Rattle.triangular_solve.specs.AscendingColumns.{IsPlaceOf}
use Rattle.triangular_solve.specs.FlatRows.{AreAllFlat, IsFlattened, IsFlatRest, IsTakenRow, TakesIn}
use Rattle.triangular_solve.specs.PivotRows.{ArePlaced, IsSplitRow, PlacedRows}
use Rattle.triangular_solve.specs.declared.flat_rows.FlatRows.{FlatRows}
use Rattle.triangular_solve.proofs.Flattening.{flattened_more, flattened_none}
use Rattle.triangular_solve.proofs.PivotReduction.{reduced_parts}
use Rattle.triangular_solve.proofs.SplitRows.{IsSplitting, splitting_all, splitting_behind, splitting_inside, splitting_none, splitting_outside}

-- the first k entries of a row were taken in
pub record IsTaking (placed : PlacedRows) (cs vs : List ℕ) (k n : ℕ) (s outer : List ℕ) : Type 0 where
  pub inner : List ℕ
  pub splitting : IsSplitting placed.rows.modulus placed.columns cs vs k n inner outer
  pub flattened : IsFlattened placed inner s

pub taking_none : {placed : PlacedRows} {s outer : List ℕ} (n : ℕ) (cs vs : List ℕ) → 2 ≤ placed.rows.modulus → ArePlaced placed → AreBelow n placed.columns → s ≡ zeros (length placed.columns) → outer ≡ zeros n → IsTaking placed cs vs 0 n s outer
taking_none {placed} {s} {outer} n cs vs two P below e z = record {
  inner = s;
  splitting = subst (IsSplitting placed.rows.modulus placed.columns cs vs 0 n s) (sym z)
      (subst (λ w. IsSplitting placed.rows.modulus placed.columns cs vs 0 n w (zeros n)) (sym e) (splitting_none placed.rows.modulus n placed.columns cs vs below (omega arith)));
  flattened = flattened_none placed s two P.width e (omega (arith, P.upper.short, P.width));
}

pub taking_inside : {placed : PlacedRows} {flat : FlatRows} {cs vs outer : List ℕ} {k n : ℕ} {old new : ResidueRow} → 2 ≤ placed.rows.modulus → ArePlaced placed → AreAllFlat placed flat → IsMatrix flat.tails.modulus flat.tails.matrix → old.modulus ≡ placed.rows.modulus →
    IsSparse placed.rows.modulus n cs vs → IsTaking placed cs vs k n old.row outer → k < length cs → (place : ℕ) → IsPlaceOf placed.columns (slice_index cs k) place → TakesIn flat place (slice_index vs k) old new →
    IsTaking placed cs vs (k + 1) n new.row outer
taking_inside {placed} {flat} {cs} {vs} {outer} {k} {n} {old} {new} two P F m e s d l place at t = record {
  inner = slice_set d.inner place ((slice_index d.inner place + slice_index vs k) % placed.rows.modulus);
  splitting = splitting_inside (omega arith) P.distinct s d.splitting l place at (slice_set d.inner place ((slice_index d.inner place + slice_index vs k) % placed.rows.modulus)) refl;
  flattened = flattened_more placed flat two P.width (omega (arith, P.upper.short, P.width)) F.0 m d.flattened e d.splitting.residues place (slice_index vs k) at.0 (s.residues k (omega (arith, s.long))) (omega (arith, F.1)) t refl;
}

pub taking_outside : {placed : PlacedRows} {cs vs outer next s : List ℕ} {k n : ℕ} → IsSparse placed.rows.modulus n cs vs → IsTaking placed cs vs k n s outer → k < length cs → ¬ Contains placed.columns (slice_index cs k) →
    next ≡ slice_set outer (slice_index cs k) (slice_index vs k) → IsTaking placed cs vs (k + 1) n s next
taking_outside {placed} {cs} {vs} {outer} {next} {s} {k} {n} sparse d l not e = record {
  inner = d.inner;
  splitting = splitting_outside sparse d.splitting l not next e;
  flattened = d.flattened;
}

pub taking_behind : {placed : PlacedRows} {cs vs outer s : List ℕ} {k n : ℕ} → IsSparse placed.rows.modulus n cs vs → IsTaking placed cs vs k n s outer → k < length cs →
    (j : ℕ) → slice_index cs k ≤ j → j < n → slice_index outer j ≡ 0
taking_behind {placed} {cs} {vs} {outer} {s} {k} {n} sparse d l j le lj = splitting_behind sparse d.splitting l j le lj

pub taking_all : {placed : PlacedRows} {cs vs outer s : List ℕ} {k n : ℕ} → IsSparse placed.rows.modulus n cs vs → IsTaking placed cs vs k n s outer → length cs ≤ k → IsTakenRow placed (spread n cs vs) s outer
taking_all {placed} {cs} {vs} {outer} {s} {k} {n} sparse d le = record {
  inner = d.inner;
  split = splitting_all sparse d.splitting le;
  vector = d.splitting.residues;
  flattened = d.flattened;
}

-- what was taken in, joined with the other entries, is what the pivots leave
pub left_parts : {placed : PlacedRows} {v s outer rest : List ℕ} → ArePlaced placed → IsTakenRow placed v s outer → IsSplitRow placed.columns rest s outer → IsVector placed.rows.modulus (length v) rest → IsFlatRest placed v rest
left_parts {placed} {v} {s} {outer} {rest} P t last vector = record {
  vector = vector;
  zero = λ k l. sym (last.inside k (omega (arith, P.upper.short, P.width))) ∙ t.flattened.zero k l;
  reduced = λ prime.
      let d = t.flattened.differs prime in (
        d.combination.0,
        reduced_parts P t.split (record {
          residues = d.combination.1;
          behind = λ i k n le l. absurd (n (t.flattened.zero i (omega arith)));
          sums = λ prime i l.
              d.sum i (omega (arith, P.width))
              ∙ add_same placed.rows.modulus (slice_index s i) (slice_index s i) (slice_index d.part i) (sum_below placed.rows.matrix.height (λ k. slice_index d.combination.0 k * entry placed.rows.matrix k i)) refl
              (ap (λ w. slice_index w i % placed.rows.modulus) d.combination.2 ∙ ap (λ x. x % placed.rows.modulus) (at_combine placed.rows.modulus d.combination.0 placed.rows.matrix i (omega (arith, P.width))) ∙ mod-mod _ placed.rows.modulus);
        }) t.flattened.zero last vector,
      );
}

pub left_vector : {p q m n : ℕ} {rest : List ℕ} (cs vs : List ℕ) → m ≡ n → q ≡ p → IsVector q m rest → IsVector p (length (spread n cs vs)) rest
left_vector {p} {q} {m} {n} {rest} cs vs e f v = subst (λ k. IsVector p k rest) (e ∙ sym (length_spread n cs vs)) (subst (λ r. IsVector r m rest) f v)
