-- The example of 3 x 3 modulo 7 worked: what is alive, dead and maximal is decided by computing.
use Rattle.std.proofs.Common.{[], ◌∷◌, refl}
use Rattle.residue_words.proofs.Deciding.{decide_below, decide_not, shown}
use Rattle.pivot_table.specs.History.{pair, Alive, Grown, LeastAlive}
use Rattle.pivot_table.specs.Order.{IsOrder}
use Rattle.pivot_table.specs.Order.IsParted.{nothing, right}
use Rattle.pivot_table.specs.Greedy.{IsGreedy, IsGreedyBelow}
use Rattle.pivot_table.specs.Greedy.IsTried.{dead, taken}
use Rattle.pivot_table.specs.Example.{AreWorkedHistories, pivot_example, first_history, other_history}
use Rattle.pivot_table.proofs.Growth.{grown_nil, grown_push}
use Rattle.pivot_table.proofs.Orders.{order_triangular}
use Rattle.pivot_table.proofs.Reaching.{decide_alive, decide_dead, decide_maximal, decide_reach}

-- the pairs of the first history are alive
pub first_alive : Alive pivot_example [] 0 0
first_alive = shown (decide_alive pivot_example [] 0 0) tt

pub next_alive : Alive pivot_example (pair 0 0 ∷ []) 1 1
next_alive = shown (decide_alive pivot_example (pair 0 0 ∷ []) 1 1) tt

first_grown : Grown pivot_example first_history
first_grown = grown_push pivot_example (pair 0 0 ∷ []) (pair 1 1)
    (grown_push pivot_example [] (pair 0 0) (grown_nil pivot_example) first_alive) next_alive

first_least : LeastAlive pivot_example (pair 0 0 ∷ []) 1 1
first_least = (
  next_alive,
  (λ k l a. shown (decide_not (decide_below (Alive pivot_example (pair 0 0 ∷ []) 1) (decide_alive pivot_example (pair 0 0 ∷ []) 1) 1)) tt (k, l, a)),
)

other_least : LeastAlive pivot_example (pair 0 0 ∷ []) 2 1
other_least = (
  shown (decide_alive pivot_example (pair 0 0 ∷ []) 2 1) tt,
  (λ k l a. shown (decide_not (decide_below (Alive pivot_example (pair 0 0 ∷ []) 2) (decide_alive pivot_example (pair 0 0 ∷ []) 2) 1)) tt (k, l, a)),
)

first_greedy : IsGreedy pivot_example (pair 0 0 ∷ []) first_history
unfolding IsGreedyBelow
first_greedy = (
  first_history,
  (pair 0 0 ∷ [], (pair 0 0 ∷ [], refl, dead (shown (decide_dead pivot_example (pair 0 0 ∷ []) 0) tt)), taken 1 first_least),
  dead (shown (decide_dead pivot_example first_history 2) tt),
)

first_order : IsOrder pivot_example first_history (pair 1 1 ∷ pair 0 0 ∷ [])
first_order = ([], [], nothing, ([], pair 0 0 ∷ [], right (shown (decide_reach pivot_example (pair 0 0 ∷ []) 1 0) tt) nothing, refl))

pub worked : AreWorkedHistories
worked = record {
  grown = first_grown;
  least = first_least;
  other_least = other_least;
  overtaken = shown (decide_dead pivot_example other_history 1) tt;
  maximal = shown (decide_maximal pivot_example first_history) tt;
  other_maximal = shown (decide_maximal pivot_example other_history) tt;
  greedy = first_greedy;
  order = first_order;
  triangular = order_triangular pivot_example first_history (pair 1 1 ∷ pair 0 0 ∷ []) first_grown first_order;
}
