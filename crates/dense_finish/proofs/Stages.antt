-- The state of an elimination between two rows of a panel.
use Rattle.std.proofs.Common.{ℕ, ◌≡◌, ◌+◌, ◌<◌, ◌∙◌, false, inl, inr, List, length, refl, slice_index, slice_index_or, slice_set, subst, arith}
use Rattle.std.proofs.lemmas.List.{length-set}
use Rattle.residue_words.specs.Matrix.{IsVector}
use Rattle.residue_words.specs.Residues.{IsPrime}
use Rattle.dense_finish.specs.declared.pivots.Pivots.{Pivots}
use Rattle.dense_rows.specs.Rows.{block_row}
use Rattle.dense_rows.specs.Dense.{IsFirstFree, IsPivotOf, IsTaken, IsZeroAtFree, KeepsCoefficients}
use Rattle.dense_panels.specs.Panel.{PanelReduces, PanelRows, with_pivot}
use Rattle.dense_finish.specs.Pivots.{AddsPivot, AreEliminated, AreFound, AreSplit, IsPanelFrom, KeepsPivots, pivot_at, stage}
use Rattle.dense_finish.proofs.Growing.{AreCoefficients, Grows, IsPivotRow, coefficients_are, found_more, grows, pivot_row_is}
use Rattle.dense_finish.proofs.Progress.{Changes, cases_bool, changes_set, changes_twice, eliminated_more, eliminated_same, panel_more, reduced_split, split_pivot, split_row}

-- i rows are done, with the pivots of f, of which those from the r-th on are the panel's
pub record IsStage (p : ℕ) (names : List ℕ) (width r i : ℕ) (f : Pivots) (block : List (List ℕ)) (panel : PanelRows) : Type 0 where
  pub found : AreFound p names width i f
  pub eliminated : AreEliminated p (length names) i f block
  pub holds : IsPanelFrom p names r f panel

-- the pivots stay
pub kept_same : {names : List ℕ} {f : Pivots} → KeepsPivots names f f
kept_same = record { few = omega arith; places = λ k l. refl; entries = λ k j l lj. refl }

-- one row more
pub found_later : {p width i : ℕ} {names : List ℕ} {f : Pivots} → AreFound p names width i f → AreFound p names width (i + 1) f
found_later h = record {
  modulus = h.modulus;
  matrix = h.matrix;
  wide = h.wide;
  height = h.height;
  long = h.long;
  few = omega (arith, h.few);
  inside = λ k l. omega (arith, h.inside k l);
  rising = h.rising;
  steps = h.steps;
  unnamed = h.unnamed;
  marks = h.marks;
  marked = h.marked;
  only = h.only;
}

-- what is left of row i is v, which is clear
module _ {p width r i : ℕ} {names v : List ℕ} {panel : PanelRows} {block : List (List ℕ)} {f : Pivots} (state : IsStage p names width r i f block panel) (inside : i < length block)
    (reduced : PanelReduces p panel (block_row block i) v) where
  pub reduced_vector : IsVector p (length names) v
  reduced_vector = subst (λ n. IsVector p n v) state.holds.wide reduced.vector

  nothing : IsZeroAtFree f.taken.items v → (j : ℕ) → j < length names →
      (IsTaken (length f.columns.items) (slice_index f.columns.items) j → ⊥) → slice_index v j ≡ 0
  nothing none j l out = elim (cases_bool (slice_index_or f.taken.items j false)) [
    | inl marked ↦ absurd (out (state.found.only j l marked))
    | inr unmarked ↦ none j (omega (arith, reduced_vector.len)) unmarked
  ]

  pub stage_same : IsZeroAtFree f.taken.items v → IsStage p names width r (i + 1) f (slice_set block i v) panel
  stage_same none = record {
    found = found_later state.found;
    eliminated = eliminated_same state.found (changes_set block i v inside) reduced_vector (nothing none) state.eliminated;
    holds = state.holds;
  }

  pub stage_same_split : (from : List (List ℕ)) → AreSplit p names r from (stage f block i) → AreSplit p names r from (stage f (slice_set block i v) (i + 1))
  stage_same_split from split =
      split_row (changes_set block i v inside) (reduced_split state.holds state.found.steps reduced (split.ahead i (omega arith) (omega (arith, split.long)))) split

  -- or it becomes the next pivot's row, and w is left
  module _ {c : ℕ} {q w : List ℕ} {g : Pivots} (first : IsFirstFree v f.taken.items c) (extends : AddsPivot names (pivot_at i c q) f g)
      (is_pivot : IsPivotOf p c f.taken.items v q) (keeps : KeepsCoefficients p c f.taken.items v w) where
    pivot : IsPivotRow p (length names) c f.taken.items v q
    pivot = pivot_row_is reduced_vector.len is_pivot

    kept : AreCoefficients p (length names) c f.taken.items v w
    kept = coefficients_are reduced_vector.len keeps

    changes : Changes i w block (slice_set (slice_set block i v) i w)
    changes = changes_twice (changes_set block i v inside) (changes_set (slice_set block i v) i w (omega (arith, length-set block i v)))

    low : c < length names
    low = omega (arith, first.inside, reduced_vector.len)

    grown : Grows names i c q f g
    grown = grows state.found extends

    pub found_then : AreFound p names width (i + 1) g
    found_then = found_more (omega (arith, reduced_vector.residues c low)) low first.free state.found extends pivot

    pub stage_more : IsStage p names width r (i + 1) g (slice_set (slice_set block i v) i w) (with_pivot panel c q)
    stage_more = record {
      found = found_then;
      eliminated = eliminated_more state.found grown changes low first.free first.nonzero kept state.eliminated;
      holds = panel_more grown low pivot state.holds;
    }

    pub stage_more_kept : {e : Pivots} → KeepsPivots names e f → KeepsPivots names e g
    stage_more_kept before = record {
      few = omega (arith, before.few, grown.count);
      places = λ k l. grown.columns k (omega (arith, before.few)) ∙ before.places k l;
      entries = λ k j l lj. grown.entries k j (omega (arith, before.few)) lj ∙ before.entries k j l lj;
    }

    pub stage_more_split : IsPrime p → (from : List (List ℕ)) → AreSplit p names r from (stage f block i) → AreSplit p names r from (stage g (slice_set (slice_set block i v) i w) (i + 1))
    stage_more_split prime from split =
        let next = split_pivot prime (omega (arith, state.holds.total)) state.found found_then grown low first.free pivot kept state.eliminated
        (reduced_split state.holds state.found.steps reduced (split.ahead i (omega arith) (omega (arith, split.long)))) split in
        split_row changes next.0 next.1
