-- The words are written pair by pair.
use Rattle.std.proofs.Common.{◌≡◌, ℕ, zero, suc, ◌+◌, ◌<◌, ◌≤◌, List, [], ◌∷◌, ◌++◌, length, take, get_or, set, sym, refl, ap, ◌∙◌, subst, arith, length-append, add-one}
use Rattle.std.specs.Prelude.{replicate}
use Rattle.std.proofs.lemmas.List.{length-replicate}
use mathlib.Core.Option.{some}
use lib.ListN.{get_elem?}
use Rattle.residue_words.specs.Matrix.{Matrix}
use Rattle.residue_words.specs.declared.plain.Pair.{Pair}
use Rattle.pivot_table.specs.History.{Grown}
use Rattle.pivot_table.specs.Core.{Mark, free, done, with_done, opening_marks}
use Rattle.pivot_table.specs.Rule.{Spells, mark_word, pair_word, rows_at}
use Rattle.pivot_table.proofs.Listed.{at_within, cut_here, read_at, take_next}
use Rattle.pivot_table.proofs.Short.{grown_short}
use Rattle.pivot_table.proofs.Runs.{free_at, length-opening_marks}
use Rattle.pivot_table.proofs.Words.{spells_push, spells_mark}

zeros : (n k : ℕ) → ◌≡◌ {A = ℕ} (get_or (replicate n 0) k 0) 0
zeros zero k = refl
zeros (suc n) zero = refl
zeros (suc n) (suc k) = zeros n k

pub spells_start : (a : Matrix) → Spells a (replicate (rows_at a + a.height) 0) [] (replicate a.height free)
spells_start a = record {
  cells = λ k q e. absurd (cc);
  empty = λ k le lt. zeros (rows_at a + a.height) k;
  marks = λ r x e. zeros (rows_at a + a.height) (rows_at a + r) ∙ ap mark_word (free_at a.height r x e);
  height = length-replicate a.height free;
  size = length-replicate (rows_at a + a.height) 0;
}

marked_push : (xs : List Pair) (q : Pair) (rows : List Mark) → with_done (xs ++ q ∷ []) rows ≡ set (with_done xs rows) q.row (done 0)
marked_push [] q rows = refl
marked_push (x ∷ xs) q rows = marked_push xs q (set rows x.row (done 0))

short_take : (h : List Pair) (k : ℕ) → k ≤ length h → length (take k h) ≡ k
short_take h zero le = refl
short_take [] (suc k) le = absurd (omega arith)
short_take (x ∷ xs) (suc k) le = ap suc (short_take xs k (omega arith))

module _ (a : Matrix) (h : List Pair) (grown : Grown a h) (k : ℕ) (d : Pair) (lt : k < length h) where
  pub pair_low : ((get_or h k d).row < a.height) × ((get_or h k d).col < a.width)
  pair_low = let t = at_within h k lt in let c = cut_here h k t.0 t.1 in let e = (grown c.0 t.0 c.1 c.2).entry in
      subst (λ (q : Pair). (q.row < a.height) × (q.col < a.width)) (sym (read_at h k t.0 d t.1)) (e.0, e.1)

  pub spells_next : (ws : List ℕ) → Spells a ws (take k h) (opening_marks a (take k h))
      → Spells a (set (set ws k (pair_word (get_or h k d))) (rows_at a + (get_or h k d).row) 2) (take (k + 1) h) (opening_marks a (take (k + 1) h))
  spells_next ws sp =
      let q : Pair = get_or h k d in
      let t = at_within h k lt in
      let is : get_elem? h k ≡ some q = t.1 ∙ ap some (sym (read_at h k t.0 d t.1)) in
      let more : take (k + 1) h ≡ take k h ++ q ∷ [] = rw add-one (take_next h k q is) in
      let long : length (take k h) ≡ k = short_take h k (omega arith) in
      let most = grown_short a h grown in
      let low = pair_low in
      let len = length-append (take k h) (q ∷ []) in
      let rows : List Mark = opening_marks a (take k h) in
      let all : length rows ≡ a.height = length-opening_marks a (take k h) in
      let m = at_within rows q.row (let l = low.0 in omega arith) in
      let one : Spells a (set ws k (pair_word q)) (take k h ++ q ∷ []) rows = subst (λ (n : ℕ). Spells a (set ws n (pair_word q)) (take k h ++ q ∷ []) rows) long (spells_push a ws (take k h) rows sp q (omega arith)) in
      let two : Spells a (set (set ws k (pair_word q)) (rows_at a + q.row) 2) (take k h ++ q ∷ []) (set rows q.row (done 0)) = spells_mark a (set ws k (pair_word q)) (take k h ++ q ∷ []) rows one q.row m.0 (done 0) (omega arith) m.1 in
      let three = subst (λ (l : List Mark). Spells a (set (set ws k (pair_word q)) (rows_at a + q.row) 2) (take k h ++ q ∷ []) l) (sym (marked_push (take k h) q (replicate a.height free))) two in
      subst (λ (l : List Pair). Spells a (set (set ws k (pair_word q)) (rows_at a + q.row) 2) l (opening_marks a l)) (sym more) three

pub take_front : {A : Type 0} (w xs : List A) (n : ℕ) → n ≡ length w → take n (w ++ xs) ≡ w
take_front [] xs zero e = refl
take_front [] xs (suc n) e = absurd (omega arith)
take_front (y ∷ ys) xs zero e = absurd (omega arith)
take_front {A} (y ∷ ys) xs (suc n) e = ap (λ (r : List A). y ∷ r) (take_front ys xs n (omega arith))
