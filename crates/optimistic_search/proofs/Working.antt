-- What several workers leave behind.
use Rattle.std.proofs.Common.{◌<◌, ◌+◌, ℕ, List, ◌++◌, take, drop, inl, inr, ⊎_elim, sym, subst, ap, ◌∙◌, arith, append_assoc}
use Rattle.std.specs.Prelude.{All}
use mathlib.Core.Logic.{dite}
use native.Mathlib.Decide.{ℕ_discrete}
use Rattle.std.proofs.lemmas.List.Elements.{All-append, All-drop, All-take}
use Rattle.residue_words.specs.Matrix.{Matrix}
use Rattle.residue_words.specs.declared.plain.Pair.{Pair}
use Rattle.pivot_table.specs.History.{Maximal, StandsOrIsDead, StartsWith}
use Rattle.pivot_table.proofs.Growth.{dead_later, row_later}

-- a row that stands in a history or is dead in it, stands in each history that begins with it or is dead there
pub settled_since : (A : Matrix) (h seen : List Pair) (r : ℕ) → StartsWith h seen → StandsOrIsDead A seen r → StandsOrIsDead A h r
settled_since A h seen r s t = ⊎_elim (λ here. inl (row_later h seen r s here)) (λ d. inr (dead_later A h seen r s d)) t

pub starts_again : (h g f : List Pair) → StartsWith h g → StartsWith g f → StartsWith h f
starts_again h g f s t = (t.0 ++ s.0, s.1 ∙ ap (λ (x : List Pair). x ++ s.0) t.1 ∙ append_assoc f t.0 s.0)

-- one row more
pub settled_more : (A : Matrix) (h g : List Pair) (n : ℕ) → StartsWith g h → ((r : ℕ) → r < n → StandsOrIsDead A h r) → StandsOrIsDead A g n → (r : ℕ) → r < n + 1 → StandsOrIsDead A g r
settled_more A h g n s all own r l = dite (ℕ_discrete r n) (λ e. subst (λ k. StandsOrIsDead A g k) (sym e) own) (λ ne. settled_since A g h r s (all r (omega arith)))

pub settled_maximal : (A : Matrix) (h : List Pair) → ((r : ℕ) → r < A.height → StandsOrIsDead A h r) → Maximal A h
settled_maximal A h all r j t = ⊎_elim (λ here. t.fresh_row here) (λ d. d j t) (all r t.entry.0)

-- a slice that is put back
pub all_back : {X : Type 0} (P : X → Type 0) (n m : ℕ) (new old : List X) → All P new → All P old → All P (take n (new ++ drop m old))
all_back P n m new old a b = All-take P n (new ++ drop m old) (All-append P new (drop m old) a (All-drop P m old b))
