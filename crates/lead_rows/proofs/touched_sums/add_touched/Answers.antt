use Rattle.std.proofs.Common.{ℕ, Bool, true, false, ◌≡◌, ◌≢◌, ◌⊎◌, ◌∙◌, List, [], ◌∷◌, ◌++◌, if◌then◌else◌, slice_index, inl, inr, ap}
use Rattle.std.proofs.lemmas.Bool.{false≢true}
use Rattle.lead_rows.proofs.Accumulating.{added_in}
use Rattle.lead_rows.proofs.Gathering.{touched_added}
use Rattle.lead_rows.proofs.touched_sums.add_touched.Goals as goal

-- a column is listed if its sum was 0
listed : {sum : ℕ} {touched columns : List ℕ} (j : ℕ) (first : Bool) → (sum ≡ 0 → first ≡ true) → columns ≡ (if first then touched ++ j ∷ [] else touched) → ((columns ≡ touched) × (sum ≢ 0)) ⊎ (columns ≡ touched ++ j ∷ [])
listed {sum} {touched} {columns} j true zero e = inr e
listed {sum} {touched} {columns} j false zero e = inl (e, λ z. false≢true (zero z))

pub returns-clause-sums : goal.returns-clause-sums
returns-clause-sums c = added_in c.args.sums.now c.deref_mut.ensures.value c.add_below-first.ensures.sums

pub returns-clause-touched : goal.returns-clause-touched
returns-clause-touched c = λ p sound. touched_added sound c.requires.column (added_in c.args.sums.now c.deref_mut.ensures.value c.add_below-first.ensures.sums)
    (listed c.args.j c.add_below-first.result (λ z. c.add_below-first.ensures.zero.1 (ap (λ xs. slice_index xs c.args.j) c.deref_mut.ensures.value ∙ z)) c.push_if.ensures.items)
