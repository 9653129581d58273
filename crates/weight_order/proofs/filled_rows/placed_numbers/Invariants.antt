use Rattle.std.proofs.Common.{ℕ, ◌≡◌, map, take}
use Rattle.weight_order.proofs.filled_rows.placed_numbers.Given as goal

abbrev pub invariant-loop-placed_row : goal.invariant-loop-placed_row
invariant-loop-placed_row l = l.numbers.items ≡ map (λ (w : ℕ × ℕ). w.1) (take l.placed_row-index l.placed)
