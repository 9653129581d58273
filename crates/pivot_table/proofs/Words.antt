-- The words, as one of them changes.
use Rattle.std.proofs.Common.{◌≡◌, ◌≢◌, ℕ, ◌+◌, ◌-◌, ◌*◌, ◌/◌, ◌%◌, ◌<◌, List, [], ◌∷◌, ◌++◌, length, get_or, set, sym, refl, ap, ◌∙◌, ⊎_elim, subst, arith, length-append, length-set, get_or-set_same, get_or-set_other}
use Rattle.residue_words.specs.Matrix.{Matrix}
use Rattle.residue_words.specs.declared.plain.Pair.{Pair}
use Rattle.pivot_table.specs.Core.{Mark, free, held, done, HasMark}
use Rattle.pivot_table.specs.Rule.{mark_word, pair_word, pair_of, rows_at, Spells}
use Rattle.pivot_table.proofs.Listed.{within, at_push}
use Rattle.atomic_table.proofs.Lists.{at_set}

pub mark_zero : (x : Mark) → mark_word x ≡ 0 → x ≡ free
mark_zero free e = refl
mark_zero (held n) e = absurd (omega arith)
mark_zero (done n) e = absurd (omega arith)

decoded : (r c : ℕ) → c < 4294967296 → (((r + 1) * 4294967296 + c) / 4294967296 ≡ r + 1) × (((r + 1) * 4294967296 + c) % 4294967296 ≡ c)
decoded r c low = (omega arith, omega arith)

pub pair_back : (q : Pair) → q.col < 4294967296 → pair_of (pair_word q) ≡ q
pair_back q low = let d = decoded q.row q.col low in let r : pair_word q / 4294967296 - 1 ≡ q.row = let x : pair_word q / 4294967296 ≡ q.row + 1 = d.0 in omega arith in λ i. record { row = r i; col = d.1 i }

module _ (A : Matrix) (ws : List ℕ) (h : List Pair) (rows : List Mark) (sp : Spells A ws h rows) where
  pub spells_mark : (r : ℕ) (x y : Mark) → length h < rows_at A → HasMark rows r x → Spells A (set ws (rows_at A + r) (mark_word y)) h (set rows r y)
  spells_mark r x y room m =
      let here : r < length rows = within rows r x m in
      let size = sp.size in let tall = sp.height in record {
        cells = λ k q e. let l : k < length h = within h k q e in get_or-set_other ws (rows_at A + r) k (mark_word y) 0 (λ f. omega arith) ∙ sp.cells k q e;
        empty = λ k low l. get_or-set_other ws (rows_at A + r) k (mark_word y) 0 (λ f. omega arith) ∙ sp.empty k low l;
        marks = λ q z e. ⊎_elim
            (λ c. let is : q ≡ r = c.0 in subst (λ (n : ℕ). get_or (set ws (rows_at A + r) (mark_word y)) (rows_at A + n) 0 ≡ mark_word z) (sym is) (get_or-set_same ws (rows_at A + r) (mark_word y) 0 (omega arith) ∙ ap mark_word c.1))
            (λ c. let ne : q ≢ r = c.0 in get_or-set_other ws (rows_at A + r) (rows_at A + q) (mark_word y) 0 (λ f. ne (omega arith)) ∙ sp.marks q z c.1)
            (at_set rows r q y z e);
        height = length-set rows r y ∙ tall;
        size = length-set ws (rows_at A + r) (mark_word y) ∙ size;
      }

  pub spells_push : (q : Pair) → length h < rows_at A → Spells A (set ws (length h) (pair_word q)) (h ++ q ∷ []) rows
  spells_push q room =
      let size = sp.size in record {
        cells = λ k p e. ⊎_elim
            (λ c. let l : k < length h = within h k p c in get_or-set_other ws (length h) k (pair_word q) 0 (λ f. omega arith) ∙ sp.cells k p c)
            (λ c. subst (λ (n : ℕ). get_or (set ws (length h) (pair_word q)) n 0 ≡ pair_word p) (sym c.0) (get_or-set_same ws (length h) (pair_word q) 0 (omega arith) ∙ ap pair_word c.1))
            (at_push h q p k e);
        empty = λ k low l. let more = length-append h (q ∷ []) in get_or-set_other ws (length h) k (pair_word q) 0 (λ f. omega arith) ∙ sp.empty k (omega arith) l;
        marks = λ r z e. get_or-set_other ws (length h) (rows_at A + r) (pair_word q) 0 (λ f. omega arith) ∙ sp.marks r z e;
        height = sp.height;
        size = length-set ws (length h) (pair_word q) ∙ size;
      }
