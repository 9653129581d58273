use Rattle.kernel_solve.specs.Substituted.{InvertEach, left_pivot, right_pivot}
use Rattle.kernel_solve.proofs.substitution.inverses.Given as goal

abbrev pub invariant-loop-k : goal.invariant-loop-k
invariant-loop-k l =
    InvertEach l.fn.left.modulus l.k (left_pivot l.fn.left.matrix l.fn.pivots) l.in_left.items
    × InvertEach l.fn.right.modulus l.k (right_pivot l.fn.right.matrix l.fn.pivots) l.in_right.items
