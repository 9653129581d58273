-- The kept rows with their numbers, in any order.
use Rattle.std.proofs.Common.{ℕ, ◌≡◌, ◌≢◌, ◌+◌, ◌<◌, List, [], ◌∷◌, ◌++◌, length, slice_index, slice_index_or, inl, inr, sym, refl, ap, subst, ◌∙◌, arith, length-append}
use Rattle.std.specs.List.{swap}
use Rattle.std.specs.List.Sorted.{IsPermutation, IsNonDecreasingBy}
use Rattle.std.proofs.Math.ListN.{get_or-append}
use Rattle.std.proofs.Math.Seq.{get_or-append_seam}
use Rattle.std.proofs.lemmas.Bool.{cases_eq, cases_lt}
use Rattle.std.proofs.lemmas.List.{get_or_default}
use Rattle.std.proofs.lemmas.List.Edits.{swapped_from_swap, length-swap}
use Rattle.std.proofs.lemmas.List.Sorted.{IsPermutation-keeps}
use Rattle.sparse_rows.proofs.Exchanging.{at_turned, turned, turned_back, turned_below}
use Rattle.lead_rows.specs.Leads.{KeptRows, IsSound}
use Rattle.echelon_form.specs.Settling.{IsOrderOfLeads}

abbrev none : ℕ × ℕ
none = (0, 0)

abbrev at : List (ℕ × ℕ) → ℕ → ℕ × ℕ
at l t = slice_index_or l t none

-- each row is there once, its lead beside its number
pub record AreNumbered (kept : KeptRows) (l : List (ℕ × ℕ)) : Type 0 where
  pub long : length l ≡ kept.matrix.height
  pub inside : (t : ℕ) → t < length l → (at l t).1 < kept.matrix.height
  pub leads : (t : ℕ) → t < length l → (at l t).0 ≡ slice_index kept.leads (at l t).1
  pub apart : (k t : ℕ) → k < length l → t < length l → k ≢ t → (at l k).0 ≢ (at l t).0

numbered_swapped : {kept : KeptRows} (l : List (ℕ × ℕ)) (a b : ℕ) → a < length l → b < length l → AreNumbered kept l → AreNumbered kept (swap l a b)
numbered_swapped {kept} l a b la lb h = record {
  long = same ∙ h.long;
  inside = λ t lt. subst (λ c. c.1 < kept.matrix.height) (sym (moved t)) (h.inside (turned a b t) (low t lt));
  leads = λ t lt. subst (λ c. c.0 ≡ slice_index kept.leads c.1) (sym (moved t)) (h.leads (turned a b t) (low t lt));
  apart = λ k t lk lt d e. h.apart (turned a b k) (turned a b t) (low k lk) (low t lt)
      (λ f. d (sym (turned_back a b k) ∙ ap (turned a b) f ∙ turned_back a b t))
      (ap (λ c. c.0) (sym (moved k)) ∙ e ∙ ap (λ c. c.0) (moved t));
}
  where
    same : length (swap l a b) ≡ length l
    same = length-swap l a b

    moved : (t : ℕ) → at (swap l a b) t ≡ at l (turned a b t)
    moved = at_turned (at l) (at (swap l a b)) a b (swapped_from_swap l (swap l a b) a b none la lb refl)

    low : (t : ℕ) → t < length (swap l a b) → turned a b t < length l
    low t lt = turned_below (length l) a b t la lb (omega (arith, same))

-- the first rows one after another
pub record AreListed (kept : KeptRows) (count : ℕ) (l : List (ℕ × ℕ)) : Type 0 where
  pub long : length l ≡ count
  pub each : (t : ℕ) → t < count → at l t ≡ (slice_index kept.leads t, t)

pub listed_none : (kept : KeptRows) (l : List (ℕ × ℕ)) → l ≡ [] → AreListed kept 0 l
listed_none kept l e = record { long = ap length e; each = λ t lt. absurd (omega arith) }

pub listed_more : {kept : KeptRows} {count : ℕ} {l : List (ℕ × ℕ)} → AreListed kept count l → (lead : ℕ) → lead ≡ slice_index kept.leads count →
    AreListed kept (count + 1) (l ++ (lead, count) ∷ [])
listed_more {kept} {count} {l} h lead e = record {
  long = length-append l ((lead, count) ∷ []) ∙ ap (λ n. n + 1) h.long;
  each = λ t lt. elim (cases_eq t count) [
    | inl f ↦ ap (at (l ++ (lead, count) ∷ [])) (f ∙ sym h.long) ∙ get_or-append_seam l (lead, count) [] none ∙ ap (λ x. (x, count)) e ∙ ap (λ x. (slice_index kept.leads x, x)) (sym f)
    | inr d ↦ get_or-append l ((lead, count) ∷ []) none t (omega (arith, h.long)) ∙ h.each t (omega arith)
  ];
}

numbered_of_listed : {kept : KeptRows} {l : List (ℕ × ℕ)} → IsSound kept → AreListed kept kept.matrix.height l → AreNumbered kept l
numbered_of_listed {kept} {l} sound h = record {
  long = h.long;
  inside = λ t lt. subst (λ c. c.1 < kept.matrix.height) (sym (h.each t (low t lt))) (low t lt);
  leads = λ t lt. subst (λ c. c.0 ≡ slice_index kept.leads c.1) (sym (h.each t (low t lt))) refl;
  apart = λ k t lk lt d e. let same : slice_index kept.leads k ≡ slice_index kept.leads t = ap (λ c. c.0) (sym (h.each k (low k lk))) ∙ e ∙ ap (λ c. c.0) (h.each t (low t lt)) in
      elim (cases_lt k t) [
        | inl less ↦ sound.leads.distinct k t less (low t lt) same
        | inr more ↦ sound.leads.distinct t k (omega arith) (low k lk) (sym same)
      ];
}
  where
    low : (t : ℕ) → t < length l → t < kept.matrix.height
    low t lt = omega (arith, h.long)

-- sorted by leads they are in order
pub order_of_sorted : {kept : KeptRows} {l sorted : List (ℕ × ℕ)} → IsSound kept → AreListed kept kept.matrix.height l → IsPermutation l sorted → IsNonDecreasingBy (λ c. c.0) sorted → IsOrderOfLeads kept sorted
order_of_sorted {kept} {l} {sorted} sound h moved rises = record {
  long = all.long;
  inside = λ t d lt. subst (λ c. c.1 < kept.matrix.height) (get_or_default sorted t none d lt) (all.inside t lt);
  leads = λ t d lt. subst (λ c. c.0 ≡ slice_index kept.leads c.1) (get_or_default sorted t none d lt) (all.leads t lt);
  rising = λ k t d less lt.
      let first = get_or_default sorted k none d (omega arith) in
      let second = get_or_default sorted t none d lt in
      subst (λ c. c.0 < (slice_index_or sorted t d).0) first (subst (λ c. (at sorted k).0 < c.0) second
      (let high = rises k t none (omega arith) lt in let other = all.apart k t (omega arith) lt (λ e. omega arith) in omega arith));
}
  where
    all : AreNumbered kept sorted
    all = IsPermutation-keeps l (AreNumbered kept) (numbered_of_listed sound h) (λ x i j li lj n. numbered_swapped x i j li lj n) sorted moved
