-- Lists read by `get_elem?`.
use Rattle.std.proofs.Common.{◌≡◌, ◌≢◌, ℕ, zero, suc, ◌<◌, ◌≤◌, ◌⊎◌, List, [], ◌∷◌, ◌++◌, length, get_or, set, take, sym, refl, ap, ◌∙◌, inl, inr, ⊎_elim, subst, arith}
use mathlib.Core.Option.{some, some-injective, some-ne-none}
use lib.ListN.{get_elem?}
use Rattle.std.specs.List.{Contains}
use Rattle.residue_words.proofs.Lists.{in_head, in_tail}

module _ {A : Type 0} where
  pub within : (l : List A) (i : ℕ) (a : A) → get_elem? l i ≡ some a → i < length l
  within [] i a e = absurd (some-ne-none a (sym e))
  within (x ∷ xs) zero a e = omega arith
  within (x ∷ xs) (suc i) a e = let r = within xs i a e in omega arith

  pub same_at : (l : List A) (i : ℕ) (a b : A) → get_elem? l i ≡ some a → get_elem? l i ≡ some b → a ≡ b
  same_at l i a b e f = some-injective a b (sym e ∙ f)

  pub at_within : (l : List A) (i : ℕ) → i < length l → (a : A) × (get_elem? l i ≡ some a)
  at_within [] i h = absurd (omega arith)
  at_within (x ∷ xs) zero h = (x, refl)
  at_within (x ∷ xs) (suc i) h = at_within xs i (omega arith)

  pub at_contains : (l : List A) (i : ℕ) (a : A) → get_elem? l i ≡ some a → Contains l a
  at_contains [] i a e = absurd (some-ne-none a (sym e))
  at_contains (x ∷ xs) zero a e = subst (λ (y : A). Contains (x ∷ xs) y) (some-injective x a e) (in_head x xs)
  at_contains (x ∷ xs) (suc i) a e = in_tail x xs a (at_contains xs i a e)

  pub at_push : (l : List A) (b a : A) (i : ℕ) → get_elem? (l ++ b ∷ []) i ≡ some a → (get_elem? l i ≡ some a) ⊎ ((i ≡ length l) × (b ≡ a))
  at_push [] b a zero e = inr (refl, some-injective b a e)
  at_push [] b a (suc i) e = absurd (some-ne-none a (sym e))
  at_push (x ∷ xs) b a zero e = inl e
  at_push (x ∷ xs) b a (suc i) e = ⊎_elim (λ t. inl t) (λ t. inr (ap suc t.0, t.1)) (at_push xs b a i e)

  pub next_at : (l : List A) (a : A) (more : List A) → get_elem? (l ++ a ∷ more) (length l) ≡ some a
  next_at [] a more = refl
  next_at (x ∷ xs) a more = next_at xs a more

  pub cut_here : (l : List A) (k : ℕ) (a : A) → get_elem? l k ≡ some a → (before : List A) × (after : List A) × (l ≡ before ++ a ∷ after)
  cut_here [] k a e = absurd (some-ne-none a (sym e))
  cut_here (y ∷ ys) zero a e = ([], ys, ap (λ (z : A). z ∷ ys) (some-injective y a e))
  cut_here (y ∷ ys) (suc k) a e = let t = cut_here ys k a e in (y ∷ t.0, t.1, ap (λ (r : List A). y ∷ r) t.2)

  pub read_at : (l : List A) (k : ℕ) (x d : A) → get_elem? l k ≡ some x → get_or l k d ≡ x
  read_at [] k x d e = absurd (some-ne-none x (sym e))
  read_at (y ∷ ys) zero x d e = some-injective y x e
  read_at (y ∷ ys) (suc k) x d e = read_at ys k x d e

  pub take_next : (l : List A) (k : ℕ) (x : A) → get_elem? l k ≡ some x → take (suc k) l ≡ take k l ++ x ∷ []
  take_next [] k x e = absurd (some-ne-none x (sym e))
  take_next (y ∷ ys) zero x e = ap (λ (z : A). z ∷ []) (some-injective y x e)
  take_next (y ∷ ys) (suc k) x e = ap (λ (r : List A). y ∷ r) (take_next ys k x e)

  pub take_whole : (l : List A) (k : ℕ) → length l ≤ k → take k l ≡ l
  take_whole [] zero h = refl
  take_whole [] (suc k) h = refl
  take_whole (y ∷ ys) zero h = absurd (omega arith)
  take_whole (y ∷ ys) (suc k) h = ap (λ (r : List A). y ∷ r) (take_whole ys k (omega arith))

  pub set_swap : (l : List A) (i j : ℕ) (x y : A) → i ≢ j → set (set l i x) j y ≡ set (set l j y) i x
  set_swap [] i j x y ne = refl
  set_swap (z ∷ zs) zero zero x y ne = absurd (ne refl)
  set_swap (z ∷ zs) zero (suc j) x y ne = refl
  set_swap (z ∷ zs) (suc i) zero x y ne = refl
  set_swap (z ∷ zs) (suc i) (suc j) x y ne = ap (λ (r : List A). z ∷ r) (set_swap zs i j x y (λ e. ne (ap suc e)))

  pub at_get : (l : List A) (i : ℕ) (d : A) → i < length l → get_elem? l i ≡ some (get_or l i d)
  at_get l i d lt = let t = at_within l i lt in t.1 ∙ ap some (sym (read_at l i t.0 d t.1))

  pub get_contains : (l : List A) (i : ℕ) (d : A) → i < length l → Contains l (get_or l i d)
  get_contains l i d lt = at_contains l i (get_or l i d) (at_get l i d lt)
