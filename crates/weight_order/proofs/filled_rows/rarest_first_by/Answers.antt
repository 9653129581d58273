use Rattle.std.proofs.Common.{ℕ, ◌∙◌, ap, map}
use Rattle.std.proofs.lemmas.Result.{IfOk-weaker}
use Rattle.weight_order.proofs.Weights.{rarest_of_placed}
use Rattle.weight_order.proofs.filled_rows.rarest_first_by.Goals as goal

pub returns : goal.returns
returns c =
    IfOk-weaker c.placed_numbers.result _ _ (λ order items.
    rarest_of_placed c.in_ok-placed.ensures c.sort_unstable.ensures.permutation c.sort_unstable.ensures.sorted (items ∙ ap (map (λ (w : ℕ × ℕ). w.1)) c.deref.ensures.value)) c.placed_numbers.ensures
