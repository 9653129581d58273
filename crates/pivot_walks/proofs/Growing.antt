-- Lists that grow at their end.
use Rattle.std.proofs.Common.{ℕ, ◌≡◌, ◌<◌, ◌≤◌, ◌⊎◌, List, [], ◌∷◌, ◌++◌, length, take, slice_index, inl, inr, ⊎_elim, sym, ap, subst, ◌∙◌, arith, append_assoc}
use Rattle.std.specs.List.{Contains}
use Rattle.std.proofs.Math.Seq.{take-append_seam}
use Rattle.std.proofs.lemmas.List.{append-nil, get_or_append_left, length-append}
use Rattle.std.proofs.lemmas.List.Elements.{Contains-append_left, Contains-append_cases}
use Rattle.residue_words.proofs.Lists.{not_in_nil, in_cases}
use Rattle.pivot_walks.specs.MarkedColumns.{Grows}

pub grows_none : (P : ℕ → Type 0) (old : List ℕ) → Grows P old old
grows_none P old = record { more = []; is = sym (append-nil old); each = λ j c. absurd (not_in_nil j c) }

pub grows_trans : {P Q : ℕ → Type 0} {a b c : List ℕ} → Grows P a b → Grows Q b c → ((j : ℕ) → Q j → P j) → Grows P a c
grows_trans {P} {Q} {a} {b} {c} g h weaker = record {
  more = g.more ++ h.more;
  is = h.is ∙ ap (λ l. l ++ h.more) g.is ∙ append_assoc a g.more h.more;
  each = λ j m. ⊎_elim (g.each j) (λ n. weaker j (h.each j n)) (Contains-append_cases g.more h.more j m);
}

pub grows_one : {old new : List ℕ} (j : ℕ) → new ≡ old ++ j ∷ [] → Grows (λ i. i ≡ j) old new
grows_one {old} {new} j e = record { more = j ∷ []; is = e; each = λ i c. ⊎_elim sym (λ n. absurd (not_in_nil i n)) (in_cases j [] i c) }

pub kept : {P : ℕ → Type 0} {a b : List ℕ} (j : ℕ) → Grows P a b → Contains a j → Contains b j
kept {P} {a} {b} j g c = subst (λ l. Contains l j) (sym g.is) (Contains-append_left a g.more j c)

pub came : {P : ℕ → Type 0} {a b : List ℕ} (j : ℕ) → Grows P a b → Contains b j → Contains a j ⊎ P j
came {P} {a} {b} j g c = ⊎_elim (λ o. inl o) (λ n. inr (g.each j n)) (Contains-append_cases a g.more j (subst (λ l. Contains l j) g.is c))

pub at_kept : {P : ℕ → Type 0} {a b : List ℕ} (k : ℕ) → Grows P a b → k < length a → slice_index b k ≡ slice_index a k
at_kept {P} {a} {b} k g l = ap (λ xs. slice_index xs k) g.is ∙ get_or_append_left a g.more 0 k l

pub front_kept : {P : ℕ → Type 0} {a b : List ℕ} → Grows P a b → take (length a) b ≡ a
front_kept {P} {a} {b} g = ap (take (length a)) g.is ∙ take-append_seam a g.more

pub longer : {P : ℕ → Type 0} {a b : List ℕ} → Grows P a b → length a ≤ length b
longer {P} {a} {b} g = omega (arith, ap length g.is, length-append a g.more)

pub grows_weaker : {P Q : ℕ → Type 0} {a b : List ℕ} → Grows P a b → ((j : ℕ) → P j → Q j) → Grows Q a b
grows_weaker {P} {Q} {a} {b} g weaker = record { more = g.more; is = g.is; each = λ j c. weaker j (g.each j c) }
