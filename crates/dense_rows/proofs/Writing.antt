-- Loops that write the places of a list from the first on, one a turn, or push what stands there.
use Rattle.std.proofs.Common.{ℕ, ◌≡◌, ◌≢◌, ◌+◌, ◌<◌, Bool, false, eqb, ◌||◌, List, [], ◌∷◌, ◌++◌, below_more, length, length-set, refl, slice_index, slice_set, sym, take, ap, ◌∙◌, arith}
use Rattle.std.proofs.lemmas.Bool.{eqb-false, or_parts}
use Rattle.std.proofs.lemmas.List.{get_or-set_other, get_or-set_same, take_more}

-- one place more has what g gives
pub written_more : {k : ℕ} {new : List ℕ} (g : ℕ → ℕ) (old : List ℕ) (v : ℕ) → new ≡ slice_set old k v → k < length old → v ≡ g k → ((x : ℕ) → x < k → slice_index old x ≡ g x) →
    (x : ℕ) → x < k + 1 → slice_index new x ≡ g x
written_more {k} {new} g old v set inside is before =
    below_more (λ x. slice_index new x ≡ g x) k
    (λ x l. ap (λ u. slice_index u x) set ∙ get_or-set_other old k x v 0 (omega arith) ∙ before x l)
    (ap (λ u. slice_index u k) set ∙ get_or-set_same old k v 0 inside ∙ is)

-- the first k of n places have what g gives, and unless `any` is set, none of these is 0
pub record AreWritten (g : ℕ → ℕ) (n : ℕ) (any : Bool) (k : ℕ) (u : List ℕ) : Type 0 where
  pub long : length u ≡ n
  pub written : (x : ℕ) → x < k → slice_index u x ≡ g x
  pub positive : any ≡ false → (x : ℕ) → x < k → 0 < slice_index u x

pub none_written : {g : ℕ → ℕ} {any : Bool} (u : List ℕ) → AreWritten g (length u) any 0 u
none_written u = record { long = refl; written = λ x l. absurd (omega arith); positive = λ none x l. absurd (omega arith) }

pub one_written : {g : ℕ → ℕ} {n v k : ℕ} {any : Bool} {u : List ℕ} → k < n → v ≡ g k → AreWritten g n any k u → AreWritten g n (any || eqb v 0) (k + 1) (slice_set u k v)
one_written {g} {n} {v} {k} {any} {u} inside is h = record {
  long = length-set u k v ∙ h.long;
  written = all;
  positive = λ none.
      let both = or_parts any (eqb v 0) none in
      below_more (λ x. 0 < slice_index (slice_set u k v) x) k
      (λ x l. omega (arith, get_or-set_other u k x v 0 (omega arith), h.positive both.0 x l))
      (let some : v ≢ 0 = eqb-false v 0 both.1 in omega (arith, all k (omega arith)));
}
  where
    all : (x : ℕ) → x < k + 1 → slice_index (slice_set u k v) x ≡ g x
    all = written_more g u v refl (omega (arith, h.long)) is h.written

-- one number more is put behind the first k
pub pushed_more : {k y : ℕ} {old : List ℕ} (xs : List ℕ) → k < length xs → old ≡ take k xs → y ≡ slice_index xs k → old ++ y ∷ [] ≡ take (k + 1) xs
pushed_more {k} xs inside so_far is = (λ i. so_far i ++ is i ∷ []) ∙ sym (take_more xs k 0 inside)
