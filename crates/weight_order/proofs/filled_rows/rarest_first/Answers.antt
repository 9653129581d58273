use Rattle.std.proofs.Common.{ℕ, ◌∙◌, ap, map}
use Rattle.std.proofs.lemmas.Result.{IfOk-weaker}
use Rattle.weight_order.proofs.Weights.{rarest_of}
use Rattle.weight_order.proofs.filled_rows.rarest_first.Goals as goal

pub returns : goal.returns
returns c =
    IfOk-weaker c.numbers.result _ _ (λ order items.
    rarest_of c.sort_unstable.ensures.permutation c.sort_unstable.ensures.sorted (items ∙ ap (map (λ (w : ℕ × ℕ). w.1)) c.deref.ensures.value)) c.numbers.ensures
