use Rattle.std.proofs.Common.{ℕ, ◌≡◌, ◌<◌, ◌≤◌, ◌∙◌, inl, inr, List, Ok, Err, ap, arith, length, slice_index, sym}
use Rattle.std.proofs.lemmas.Bool.{cases_eq, cases_lt}
use Rattle.std.proofs.lemmas.List.Sorted.{searched}
use Rattle.residue_words.specs.Matrix.{row}
use Rattle.kernel_solve.proofs.AtLeads.{entry_absent, entry_found}
use Rattle.kernel_solve.proofs.columns.entry_of.Goals as goal

-- columns that rise, one after another or the same
never_falls : (xs : List ℕ) → ((k t : ℕ) → k < t → t < length xs → slice_index xs k < slice_index xs t) → (i j : ℕ) → i ≤ j → j < length xs → slice_index xs i ≤ slice_index xs j
never_falls xs rising i j a b = elim (cases_eq i j) [ inl e ↦ omega (arith, ap (slice_index xs) e) | inr d ↦ omega (arith, rising i j (omega arith) b) ]

pub returns-in-Ok : goal.returns-in-Ok
returns-in-Ok c =
    let found = searched c.cols.result.now c.args.j (Ok c.in-Ok.k) c.in-Ok.ensures.position (never_falls c.cols.result.now c.cols.ensures.ascending) in
    entry_found (row c.args.rows.now.matrix c.args.i) c.cols.result.now c.vals.result.now c.args.j c.in-Ok.k c.cols.ensures.support c.vals.ensures.values
    (c.cols.ensures.same_length ∙ ap length (sym c.vals.ensures.values)) c.cols.ensures.ascending found.0 found.1

pub returns-in-Err : goal.returns-in-Err
returns-in-Err c =
    let i : ℕ = c.in-Err.field-0 in
    let gap = searched c.cols.result.now c.args.j (Err i) c.in-Err.ensures.position (never_falls c.cols.result.now c.cols.ensures.ascending) in
    entry_absent (row c.args.rows.now.matrix c.args.i) c.args.j (λ k l e.
    let same : slice_index c.cols.result.now k ≡ c.args.j = ap (λ xs. slice_index xs k) c.cols.ensures.support ∙ e in
    elim (cases_lt k i) [
      | inl o ↦ omega (arith, gap.1 k o)
      | inr o ↦ omega (arith, gap.2 k o (omega (arith, ap length c.cols.ensures.support)))
    ])
