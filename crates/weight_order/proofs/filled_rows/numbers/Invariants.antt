use Rattle.std.proofs.Common.{ℕ, ◌≡◌, map, take}
use Rattle.weight_order.proofs.filled_rows.numbers.Given as goal

abbrev pub invariant-loop-row : goal.invariant-loop-row
invariant-loop-row l = l.numbers.items ≡ map (λ (w : ℕ × ℕ). w.1) (take l.row-index l.weights)
