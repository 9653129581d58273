-- What became of a row.
use Rattle.std.proofs.Common.{◌≡◌, ◌≤◌, ◌+◌, ℕ, List, [], ◌∷◌, ◌++◌, take, ap, sym, ◌∙◌, append_assoc, arith}
use Rattle.std.specs.Prelude.{Some}
use Rattle.std.proofs.Math.Seq.{take-append_seam}
use Rattle.residue_words.specs.Matrix.{Matrix}
use Rattle.residue_words.specs.declared.plain.Pair.{Pair}
use Rattle.pivot_table.specs.History.{pair, LeastAlive}
use Rattle.pivot_table.specs.Calls.{Finishes, Publishes}
use Rattle.pivot_table.specs.Core.{Chair, claiming, finishing, publishing, seeing}
use Rattle.pivot_walks.specs.Cost.{IsCost, TakesItsCost}
use Rattle.optimistic_search.specs.Taking.{with_seen, LetsGo, TakesRow, NoneIfBusy, others_seen}
use Rattle.optimistic_search.specs.declared.taken_row.Taken.{Taken}
use Rattle.optimistic_search.specs.declared.taken_row.Taken.TheVariants as taken
use Rattle.pivot_walks.proofs.Costing.{cost_is_one}

pub taken_up : (A : Matrix) (r : ℕ) (s : Chair) (m : List Pair) (o : Taken) (t : Chair) → LetsGo A r (with_seen (claiming s r) (s.seen ++ m)) o t → TakesRow A r s o t
taken_up A r s m taken.Busy t e = absurd e
taken_up A r s m (taken.Published k) t e = (m, e)
taken_up A r s m taken.Dropped t e = (m, e)

pub not_busy : (A : Matrix) (r : ℕ) (s : Chair) (o : Taken) (t : Chair) (before after : ℕ) → LetsGo A r s o t → NoneIfBusy o before after
not_busy A r s taken.Busy t before after e = absurd e
not_busy A r s (taken.Published k) t before after e = tt
not_busy A r s taken.Dropped t before after e = tt

pub published_goes : (A : Matrix) (r j k : ℕ) (s t u : Chair) → LeastAlive A s.seen r j → s.hand ≡ Some r → Publishes s j k t → Finishes t u → LetsGo A r s (taken.Published k) u
published_goes A r j k s t u least mine p f =
    let own : Some p.1.0 ≡ Some r = sym p.1.1 ∙ mine in
    let one : p.1.0 ≡ r = cc in
    let is : t ≡ publishing s (pair r j) = p.1.2 ∙ ap (λ (n : ℕ). publishing s (pair n j)) one in
    let held : Some f.0 ≡ Some r = sym f.1 ∙ ap (λ (x : Chair). x.hand) is ∙ mine in
    let two : f.0 ≡ r = cc in
    (j, least, p.0, f.2 ∙ ap (λ (x : Chair). finishing x f.0) is ∙ ap (λ (n : ℕ). finishing (publishing s (pair r j)) n) two)

-- without the row's own pair it was seen before
pub seen_before : (A : Matrix) (r : ℕ) (s : Chair) (o : Taken) (t : Chair) → LetsGo A r s o t → others_seen o t ≡ s.seen
seen_before A r s taken.Busy t e = absurd e
seen_before A r s (taken.Published k) t e =
    ap (λ (x : Chair). take k x.seen) e.3 ∙ ap (λ (n : ℕ). take n (s.seen ++ pair r e.0 ∷ [])) e.2 ∙ take-append_seam s.seen (pair r e.0 ∷ [])
seen_before A r s taken.Dropped t e = ap (λ (x : Chair). x.seen) e.1

-- one pair more was seen
pub more_seen : (c s t u : Chair) (m : List Pair) (q : Pair) → s ≡ with_seen c (u.seen ++ m) → t ≡ seeing s q → t ≡ with_seen c (u.seen ++ (m ++ q ∷ []))
more_seen c s t u m q e f = f ∙ ap (λ (x : Chair). seeing x q) e ∙ ap (λ (l : List Pair). with_seen c l) (append_assoc u.seen m (q ∷ []))

-- what was within the cost before a pair came, and rose by no more than the cost, is within the cost
pub within_cost : (A : Matrix) (h g : List Pair) (r start before after : ℕ) → TakesItsCost A h r start before
    → ((m n : ℕ) → IsCost A h r m → IsCost A g r n → after + m ≤ before + n) → TakesItsCost A g r start after
within_cost A h g r start before after w rise n k = let one = cost_is_one A h r in omega (arith, w one.0 one.1, rise one.0 n one.1 k)
