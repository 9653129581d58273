-- The pivots that a search by a number of workers selects, in the order in which they are listed.
use Rattle.std.specs.Prelude.{◌≡◌, ℕ, List}
use Rattle.std.specs.List.{Contains}
use Rattle.residue_words.specs.Matrix.{Matrix}
use Rattle.residue_words.specs.declared.plain.Pair.{Pair}
use Rattle.pivot_table.specs.History.{pair, Maximal}
use Rattle.pivot_table.specs.Greedy.{IsGreedy}
use Rattle.pivot_table.specs.Leftmost.{IsLeftmost, IsSparsest}
use Rattle.pivot_table.specs.Order.{IsTriangularOrder, Triangular}

-- the triangular order of the greedy list that begins with the leftmost pairs
abbrev pub IsGreedySelection : Matrix → List Pair → Type 0
IsGreedySelection A qs = (first : List Pair) × (all : List Pair) × IsLeftmost A first × IsGreedy A first all
    × IsTriangularOrder A all qs

-- the pairs are triangular, none can be added, and each leftmost pair is among them; those of one worker are the greedy selection
pub record Selected (A : Matrix) (workers : ℕ) (qs : List Pair) : Type 0 where
  pub triangular : Triangular A qs
  pub maximal : Maximal A qs
  pub leftmost : (r c : ℕ) → IsSparsest A r c → Contains qs (pair r c)
  pub one_worker : workers ≡ 1 → IsGreedySelection A qs
