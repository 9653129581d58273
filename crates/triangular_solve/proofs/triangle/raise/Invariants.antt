use Rattle.std.proofs.Common.{◌≡◌, ◌+◌, length}
use Rattle.triangular_solve.proofs.Changing.{IsChangedBy, Touched}
use Rattle.triangular_solve.proofs.triangle.raise.Given as goal

abbrev pub invariant-loop-column : goal.invariant-loop-column
invariant-loop-column l = IsChangedBy (Touched l.columns l.cols l.column-index) (λ a b. b ≡ a + 1) (length l.columns) l.fn.waits l.waits
