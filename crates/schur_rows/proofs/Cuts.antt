-- Cuts that come one after another.
use Rattle.std.proofs.Common.{ℕ, ◌≡◌, ◌+◌, ◌≤◌, ◌∙◌, inl, inr, List, [], ◌∷◌, ◌++◌, length-append, slice_index, ap, arith, refl}
use Rattle.std.proofs.Math.ListN.{get_or-append}
use Rattle.std.proofs.Math.Seq.{get_or-append_seam}
use Rattle.std.proofs.lemmas.Bool.{cases_eq}
use Rattle.schur_rows.specs.Parts.{ArePartCuts}

-- where the first part begins
pub cuts_begin : (from : ℕ) (cuts : List ℕ) → cuts ≡ from ∷ [] → ArePartCuts from from 0 cuts
cuts_begin from cuts is = rw is record {
  long = refl;
  first = refl;
  last = refl;
  order = λ j l. absurd (omega arith);
  inside = λ j l. let e : j ≡ 0 = omega arith in omega (arith, ap (slice_index (from ∷ [])) e);
}

-- a cut behind them
pub cuts_more : {from last count : ℕ} {old cuts : List ℕ} (next : ℕ) → ArePartCuts from last count old → last ≤ next → cuts ≡ old ++ next ∷ [] → ArePartCuts from next (count + 1) cuts
cuts_more {from} {last} {count} {old} {cuts} next h later is = rw is record {
  long = length-append old (next ∷ []) ∙ omega (arith, h.long);
  first = before 0 (omega arith) ∙ h.first;
  last = behind (count + 1) refl;
  order = λ j l. elim (cases_eq j count) [
    | inl e ↦ omega (arith, before j (omega arith), behind (j + 1) (omega arith), ap (slice_index old) e, h.last)
    | inr d ↦ omega (arith, before j (omega arith), before (j + 1) (omega arith), h.order j (omega arith))
  ];
  inside = λ j l. elim (cases_eq j (count + 1)) [
    | inl e ↦ omega (arith, behind j e)
    | inr d ↦ omega (arith, before j (omega arith), h.inside j (omega arith))
  ];
}
  where
    before : (j : ℕ) → j ≤ count → slice_index (old ++ next ∷ []) j ≡ slice_index old j
    before j l = get_or-append old (next ∷ []) 0 j (omega (arith, h.long))

    behind : (j : ℕ) → j ≡ count + 1 → slice_index (old ++ next ∷ []) j ≡ next
    behind j e = ap (slice_index (old ++ next ∷ [])) (omega (arith, h.long)) ∙ get_or-append_seam old next [] 0
