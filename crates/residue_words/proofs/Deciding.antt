-- Claims of which either they or their opposite can be shown. On literals each computes.
use Rattle.std.proofs.Common.{◌≡◌, ℕ, zero, suc, ◌-◌, ◌<◌, ◌⊎◌, Bool, true, false, eqb, eqb-true, eq-eqb, List, [], ◌∷◌, refl, sym, inl, inr, ⊎_elim, subst, arith}
use Rattle.std.specs.List.{Contains}
use Rattle.std.proofs.lemmas.Bool.{cases_eq}
use Rattle.residue_words.proofs.Lists.{not_in_nil, in_head, in_tail, in_cases}

abbrev pub Decided : Type 0 → Type 0
Decided P = P ⊎ ¬ P

-- a decided claim is looked for below a number, and in a list
abbrev pub decide_below : (P : ℕ → Type 0) → ((j : ℕ) → Decided (P j)) → (n : ℕ) → Decided ((j : ℕ) × (j < n) × P j)
decide_below P d zero = inr (λ t. let l : t.0 < 0 = t.1 in absurd (omega arith))
decide_below P d (suc n) = ⊎_elim
    (λ t. inl (t.0, omega (arith, t.1), t.2))
    (λ none. ⊎_elim
    (λ here. inl (n, omega arith, here))
    (λ not_here. inr (λ t. elim (cases_eq t.0 n) [
      | inl e ↦ not_here (subst P e t.2)
      | inr ne ↦ none (t.0, (let l : t.0 < suc n = t.1 in omega arith), t.2)
    ]))
    (d n))
    (decide_below P d n)

abbrev pub decide_in : {X : Type 0} (P : X → Type 0) → ((x : X) → Decided (P x)) → (xs : List X) → Decided ((x : X) × Contains xs x × P x)
decide_in P d [] = inr (λ t. not_in_nil t.0 t.1)
decide_in P d (x ∷ xs) = ⊎_elim
    (λ here. inl (x, in_head x xs, here))
    (λ not_here. ⊎_elim
    (λ t. inl (t.0, in_tail x xs t.0 t.1, t.2))
    (λ none. inr (λ t. ⊎_elim (λ e. not_here (subst P (sym e) t.2)) (λ c. none (t.0, c, t.2)) (in_cases x xs t.0 t.1)))
    (decide_in P d xs))
    (d x)

abbrev pub decide_both : {P Q : Type 0} → Decided P → Decided Q → Decided (P × Q)
decide_both (inl p) (inl q) = inl (p, q)
decide_both (inl p) (inr n) = inr (λ t. n t.1)
decide_both (inr n) q = inr (λ t. n t.0)

abbrev pub decide_three : {P Q R : Type 0} → Decided P → Decided Q → Decided R → Decided (P × Q × R)
decide_three (inl p) (inl q) (inl r) = inl (p, q, r)
decide_three (inl p) (inl q) (inr n) = inr (λ t. n t.2)
decide_three (inl p) (inr n) r = inr (λ t. n t.1)
decide_three (inr n) q r = inr (λ t. n t.0)

abbrev pub decide_not : {P : Type 0} → Decided P → Decided (¬ P)
decide_not (inl p) = inr (λ n. n p)
decide_not (inr n) = inl n

abbrev pub equal_by : (a b : ℕ) (t : Bool) → eqb a b ≡ t → Decided (a ≡ b)
equal_by a b true e = inl (eqb-true a b e)
equal_by a b false e = inr (λ s. absurd (let t : eqb a b ≡ true = eq-eqb a b s in cc))

abbrev pub less_by : (a b : ℕ) (t : Bool) → eqb (suc a - b) 0 ≡ t → Decided (a < b)
less_by a b true e = inl (omega (arith, eqb-true (suc a - b) 0 e))
less_by a b false e = inr (λ l. absurd (let t : eqb (suc a - b) 0 ≡ true = eq-eqb (suc a - b) 0 (omega arith) in cc))

abbrev pub decide_equal : (a b : ℕ) → Decided (a ≡ b)
decide_equal a b = equal_by a b (eqb a b) refl

abbrev pub decide_less : (a b : ℕ) → Decided (a < b)
decide_less a b = less_by a b (eqb (suc a - b) 0) refl

-- what is decided by computing
abbrev pub IsShown : {P : Type 0} → Decided P → Type 0
IsShown (inl p) = Unit {0}
IsShown {P} (inr n) = P

pub shown : {P : Type 0} (d : Decided P) → IsShown d → P
shown (inl p) s = p
shown (inr n) s = s
