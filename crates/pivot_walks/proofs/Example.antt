-- The example worked: what is reached is decided by computing.
use Rattle.std.proofs.Common.{ℕ, ◌≡◌, ◌≤◌, ◌+◌, List, [], ◌∷◌, ◌++◌, Some, refl, sym, ap, subst, ◌∙◌, arith}
use Rattle.residue_words.specs.Matrix.{Matrix}
use Rattle.residue_words.specs.declared.plain.Pair.{Pair}
use Rattle.residue_words.proofs.Deciding.{shown}
use Rattle.pivot_table.specs.History.{pair}
use Rattle.pivot_table.specs.Example.{pivot_example, other_history}
use Rattle.pivot_table.specs.Order.IsParted.{nothing, right}
use Rattle.pivot_table.proofs.Reaching.{decide_reach}
use Rattle.pivot_walks.specs.Cost.{IsCost, TakesItsCost, TakesTheRise}
use Rattle.pivot_walks.specs.Example.{IsWorkedCost}
use Rattle.pivot_walks.specs.Walked.{Walked, extended, open_after}

pub worked : IsWorkedCost
worked = record {
  begun = record {
    others = [];
    reached = pair 0 0 ∷ [];
    parted = right (shown (decide_reach pivot_example (pair 0 0 ∷ []) 1 0) tt) nothing;
    is = refl;
  };
  overtaken = record {
    others = [];
    reached = other_history;
    parted = right (shown (decide_reach pivot_example other_history 1 0) tt) (right (shown (decide_reach pivot_example other_history 1 1) tt) nothing);
    is = refl;
  };
}

-- the steps of the walk from row 1 and, once row 2 has the second pair, of the walk that is carried on
pub begun_steps : (w : Walked) (s t : ℕ) → w.rows.matrix ≡ pivot_example → w.pairs ≡ pair 0 0 ∷ [] → TakesItsCost w.rows.matrix w.pairs 1 s t → t ≤ s + 4
begun_steps w s t a h within =
    within 4 (subst (λ (l : List Pair). IsCost w.rows.matrix l 1 4) (sym h) (subst (λ (m : Matrix). IsCost m (pair 0 0 ∷ []) 1 4) (sym a) worked.begun))

pub carried_steps : (w v : Walked) (s t : ℕ) → w.rows.matrix ≡ pivot_example → w.pairs ≡ pair 0 0 ∷ [] → w.current ≡ Some 1 → v ≡ extended w (pair 2 1) → TakesTheRise w v s t → t ≤ s + 3
carried_steps w v s t a h n e rise =
    let open_still : v.current ≡ Some 1 = ap (λ (x : Walked). x.current) e ∙ ap (open_after (pair 2 1)) n in
    let more : v.pairs ≡ other_history = ap (λ (x : Walked). x.pairs) e ∙ ap (λ (l : List Pair). l ++ pair 2 1 ∷ []) h in
    let before : IsCost w.rows.matrix w.pairs 1 4 = subst (λ (l : List Pair). IsCost w.rows.matrix l 1 4) (sym h) (subst (λ (m : Matrix). IsCost m (pair 0 0 ∷ []) 1 4) (sym a) worked.begun) in
    let after : IsCost w.rows.matrix v.pairs 1 7 = subst (λ (l : List Pair). IsCost w.rows.matrix l 1 7) (sym more) (subst (λ (m : Matrix). IsCost m other_history 1 7) (sym a) worked.overtaken) in
    omega (arith, rise 1 4 7 open_still before after)
