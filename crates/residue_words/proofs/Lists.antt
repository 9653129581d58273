-- Which items a list has, and lists that are cut in two.
use Rattle.std.proofs.Common.{◌≡◌, ℕ, zero, suc, ◌<◌, ◌⊎◌, List, [], ◌∷◌, ◌++◌, length, slice_index, refl, ap, ◌∙◌, inl, inr, ⊎_elim, arith}
use Rattle.std.specs.List.{Contains}
use Rattle.std.proofs.lemmas.List.{get_or_default}
use Rattle.std.proofs.lemmas.List.Elements.{Contains-append_left, Contains-append_right, Contains-append_cases}

-- places of numbers
pub contains_at : (list : List ℕ) (k j : ℕ) → k < length list → slice_index list k ≡ j → Contains list j
contains_at list k j l e = (k, l, get_or_default list k j 0 l ∙ e)

pub place_in : (list : List ℕ) (j : ℕ) → Contains list j → (k : ℕ) × (k < length list) × (slice_index list k ≡ j)
place_in list j c = (c.0, c.1, get_or_default list c.0 0 j c.1 ∙ c.2)

module _ {X : Type 0} where
  pub not_in_nil : (x : X) → ¬ Contains [] x
  not_in_nil x h = let l : h.0 < length {A = X} [] = h.1 in omega arith

  pub in_head : (x : X) (xs : List X) → Contains (x ∷ xs) x
  in_head x xs = (0, omega arith, refl)

  pub in_tail : (y : X) (xs : List X) (x : X) → Contains xs x → Contains (y ∷ xs) x
  in_tail y xs x (k, l, e) = (suc k, omega arith, e)

  pub in_cases : (y : X) (xs : List X) (x : X) → Contains (y ∷ xs) x → (y ≡ x) ⊎ Contains xs x
  in_cases y xs x (zero, l, e) = inl e
  in_cases y xs x (suc k, l, e) = inr (k, omega arith, e)

  -- where a list with one more at its end is cut before q, q is the last one, or the list itself is cut there
  pub snoc_cut : (xs : List X) (p : X) (before : List X) (q : X) (after : List X) → xs ++ p ∷ [] ≡ before ++ q ∷ after
      → ((before ≡ xs) × (q ≡ p)) ⊎ ((more : List X) × (xs ≡ before ++ q ∷ more))
  snoc_cut [] p [] q after e = inl (refl, cc)
  snoc_cut [] p (b ∷ []) q after e = absurd (cc)
  snoc_cut [] p (b ∷ c ∷ bs) q after e = absurd (cc)
  snoc_cut (x ∷ xs) p [] q after e = let f : x ≡ q = cc in inr (xs, ap (λ (y : X). y ∷ xs) f)
  snoc_cut (x ∷ xs) p (b ∷ bs) q after e = let f : x ≡ b = cc in let g : xs ++ p ∷ [] ≡ bs ++ q ∷ after = cc in ⊎_elim
      (λ t. let u : b ∷ bs ≡ x ∷ xs = let v : bs ≡ xs = t.0 in cc in inl (u, t.1))
      (λ t. let u : x ∷ xs ≡ b ∷ (bs ++ q ∷ t.0) = let v : xs ≡ bs ++ q ∷ t.0 = t.1 in cc in inr (t.0, u))
      (snoc_cut xs p bs q after g)

  -- a list that has x is cut there
  pub cut_at : (xs : List X) (x : X) → Contains xs x → (us : List X) × (vs : List X) × (xs ≡ us ++ x ∷ vs)
  cut_at [] x m = absurd (not_in_nil x m)
  cut_at (y ∷ ys) x m = ⊎_elim
      (λ e. ([], ys, ap (λ (z : X). z ∷ ys) e))
      (λ t. let c = cut_at ys x t in (y ∷ c.0, c.1, ap (λ (l : List X). y ∷ l) c.2))
      (in_cases y ys x m)

  pub middle_more : (us : List X) (q : X) (vs : List X) (x : X) → Contains (us ++ vs) x → Contains (us ++ q ∷ vs) x
  middle_more us q vs x m = ⊎_elim
      (λ u. Contains-append_left us (q ∷ vs) x u)
      (λ v. Contains-append_right us (q ∷ vs) x (in_tail q vs x v))
      (Contains-append_cases us vs x m)

  pub middle_cases : (us : List X) (q : X) (vs : List X) (x : X) → Contains (us ++ q ∷ vs) x → (q ≡ x) ⊎ Contains (us ++ vs) x
  middle_cases us q vs x m = ⊎_elim
      (λ u. inr (Contains-append_left us vs x u))
      (λ w. ⊎_elim (λ e. inl e) (λ v. inr (Contains-append_right us vs x v)) (in_cases q vs x w))
      (Contains-append_cases us (q ∷ vs) x m)
