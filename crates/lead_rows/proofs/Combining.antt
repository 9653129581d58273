-- Combinations of rows with distinct leads.
use Rattle.std.proofs.Common.{ℕ, zero, suc, ◌≡◌, ◌+◌, ◌-◌, ◌*◌, ◌%◌, ◌<◌, ◌≤◌, ◌↔◌, List, slice_index, inl, inr, sym, refl, ap, subst, ◌∙◌, arith, mod-eq_of_lt, mul-one, mul-zero, zero-mul}
use native.Mathlib.Nat.{mod-mod}
use Rattle.std.proofs.lemmas.Bool.{cases_eq, cases_lt}
use Rattle.residue_words.specs.Residues.{sum_below}
use Rattle.residue_words.specs.Matrix.{Matrix, IsVector, IsCombination, combine, entry, zeros}
use Rattle.residue_words.proofs.Residues.{add_same, right_zero, minus_one}
use Rattle.residue_words.proofs.Sums.{sum_single, sum_zero}
use Rattle.residue_words.proofs.Vectors.{at_combine, at_mix, at_zeros, combination_mix, length_list_of, list_equal, mix}
use Rattle.row_space.specs.Rows.{DiffersBy}
use Rattle.row_space.proofs.Rows.{differs_by_zero}
use Rattle.row_space.specs.Echelon.{IsIndependent}
use Rattle.lead_rows.specs.Leads.{KeptRows, HasDistinctLeads, IsSound}

-- w + u less u
less_again : (p q w u : ℕ) → p ≡ suc q → w < p → (1 * ((w + u) % p) + q * u) % p ≡ w
less_again p q w u e l =
    let plain : 1 * ((w + u) % p) + q * u ≡ (w + u) % p + q * u = omega arith in
    let turn : w + u + q * u ≡ w + (q * u + u) = omega arith in
    ap (λ t. t % p) plain ∙ add_same p ((w + u) % p) (w + u) (q * u) (q * u) (mod-mod (w + u) p) refl
    ∙ ap (λ t. t % p) turn ∙ right_zero p w (q * u + u) (minus_one p q u e) ∙ mod-eq_of_lt l

-- a combination less a combination is one
pub differs_combination : (p : ℕ) (A : Matrix) (v w : List ℕ) → 2 ≤ p → IsCombination p A v → IsVector p A.width w → DiffersBy p A v w → IsCombination p A w
differs_combination p A v w two cv vector d =
    let q : ℕ = p - 1 in
    let next : p ≡ suc q = omega arith in
    subst (IsCombination p A)
    (list_equal A.width (mix p A.width 1 q v d.part) w (length_list_of A.width _) vector.len (λ j l.
    at_mix p A.width 1 q v d.part j l ∙ ap (λ t. (1 * t + q * slice_index d.part j) % p) (d.sum j l) ∙ less_again p q (slice_index w j) (slice_index d.part j) next (vector.residues j l)))
    (combination_mix p 1 q A v d.part (omega arith) cv d.combination)

-- a combination that is 0 at the leads has no coefficient at a row that leads before column c
none_before : (p : ℕ) (K : Matrix) (leads : List ℕ) → HasDistinctLeads K leads → (y : List ℕ) → IsVector p K.height y →
    ((k : ℕ) → k < K.height → slice_index (combine p y K) (slice_index leads k) ≡ 0) → (c k : ℕ) → k < K.height → slice_index leads k < c → slice_index y k ≡ 0
none_before p K leads h y vector none zero k l less = absurd (omega arith)
none_before p K leads h y vector none (suc c) k l less =
    let lead : ℕ → ℕ = slice_index leads in
    let before : (i : ℕ) → i < K.height → lead i < c → slice_index y i ≡ 0 = none_before p K leads h y vector none c in
    elim (cases_lt (lead k) c) [
      | inl low ↦ before k l low
      | inr here ↦
          let alone : sum_below K.height (λ i. slice_index y i * entry K i (lead k)) ≡ slice_index y k * entry K k (lead k) =
          sum_single K.height (λ i. slice_index y i * entry K i (lead k)) k l (λ i li d.
          elim (cases_lt (lead i) (lead k)) [
            | inl low ↦ ap (λ t. t * entry K i (lead k)) (before i li (omega arith)) ∙ zero-mul (entry K i (lead k))
            | inr high ↦ ap (λ t. slice_index y i * t) (h.left i (lead k) li (elim (cases_eq (lead i) (lead k)) [
              | inl same ↦ absurd (elim (cases_lt i k) [ inl a ↦ h.distinct i k a l same | inr b ↦ h.distinct k i (omega arith) li (sym same) ])
              | inr apart ↦ omega arith
            ])) ∙ mul-zero (slice_index y i)
          ]) in
          sym (mod-eq_of_lt (vector.residues k l)) ∙ ap (λ t. t % p) (sym (mul-one (slice_index y k)) ∙ ap (λ t. slice_index y k * t) (sym (h.one k l)) ∙ sym alone)
          ∙ sym (at_combine p y K (lead k) (h.inside k l)) ∙ none k l
    ]

-- so it is the zero row
pub combination_none : (p : ℕ) (K : Matrix) (leads w : List ℕ) → 2 ≤ p → HasDistinctLeads K leads → IsVector p K.width w → IsCombination p K w →
    ((k : ℕ) → k < K.height → slice_index w (slice_index leads k) ≡ 0) → w ≡ zeros K.width
combination_none p K leads w two h wv (y, vector, is) none =
    list_equal K.width w (zeros K.width) wv.len (length_list_of K.width _) (λ j l.
    ap (λ v. slice_index v j) is ∙ at_combine p y K j l
    ∙ ap (λ t. t % p) (sum_zero K.height (λ i. slice_index y i * entry K i j) (λ i li.
    ap (λ t. t * entry K i j) (none_before p K leads h y vector (λ k lk. ap (λ v. slice_index v (slice_index leads k)) (sym is) ∙ none k lk) (suc (slice_index leads i)) i li (omega arith)) ∙ zero-mul (entry K i j)))
    ∙ mod-eq_of_lt (omega arith) ∙ sym (at_zeros K.width j l))

-- what is left of a row is 0 exactly where the row is a combination
pub rest_decides : {kept : KeptRows} {v w : List ℕ} → IsSound kept → IsVector kept.modulus kept.matrix.width v → IsVector kept.modulus kept.matrix.width w →
    ((k : ℕ) → k < kept.matrix.height → slice_index w (slice_index kept.leads k) ≡ 0) → DiffersBy kept.modulus kept.matrix v w →
    (w ≡ zeros kept.matrix.width) ↔ IsCombination kept.modulus kept.matrix v
rest_decides {kept} {v} {w} sound vv wv at_leads differs = (
  (λ e. differs_by_zero kept.modulus kept.matrix v w sound.two_or_more vv differs (λ j l. ap (λ u. slice_index u j) e ∙ at_zeros kept.matrix.width j l)),
  (λ c. combination_none kept.modulus kept.matrix kept.leads w sound.two_or_more sound.leads wv
      (differs_combination kept.modulus kept.matrix v w sound.two_or_more c wv differs) at_leads),
)

-- rows with distinct leads are independent
pub leads_independent : (p : ℕ) (K : Matrix) (leads : List ℕ) → HasDistinctLeads K leads → IsIndependent p K
leads_independent p K leads h y vector none =
    list_equal K.height y (zeros K.height) vector.len (length_list_of K.height _) (λ k l.
    none_before p K leads h y vector (λ i li. ap (λ v. slice_index v (slice_index leads i)) none ∙ at_zeros K.width _ (h.inside i li)) (slice_index leads k + 1) k l (omega arith)
    ∙ sym (at_zeros K.height k l))
