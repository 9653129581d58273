use Rattle.std.proofs.Common.{ℕ, ◌≡◌, ◌∙◌, ap, arith, length, map, subst, sym}
use Rattle.std.proofs.lemmas.List.{length-map}
use Rattle.std.proofs.lemmas.List.Sorted.{length_permutation}
use Rattle.std.proofs.lemmas.Result.{IfOk-weaker}
use Rattle.sparse_rows.specs.Rows.{AreOccupied}
use Rattle.weight_order.proofs.Keeping.{keeps_chained}
use Rattle.weight_order.proofs.Shape.{few_rows, turned_occupied}
use Rattle.weight_order.proofs.by_counted_weight.Goals as goal

pub rows_as_columns-requires-clause-occupied : goal.rows_as_columns-requires-clause-occupied
rows_as_columns-requires-clause-occupied c =
    subst (AreOccupied c.args.rows.now.matrix) (sym (c.in_ok-numbers.ensures ∙ ap (map (λ (w : ℕ × ℕ). w.1)) c.deref.ensures.value))
    (turned_occupied c.is_sound.ensures.entries _ c.in_ok-weights.ensures.filled)

pub rows_as_columns-requires-clause-few : goal.rows_as_columns-requires-clause-few
rows_as_columns-requires-clause-few c =
    let many : length c.in_ok-numbers.field-0.items ≡ length c.in_ok-weights.weights.items =
    ap length (c.in_ok-numbers.ensures ∙ ap (map (λ (w : ℕ × ℕ). w.1)) c.deref.ensures.value) ∙ length-map c.in_ok-weights.weights.items (λ (w : ℕ × ℕ). w.1) in
    few_rows _ _ _ c.in_ok-filled.ensures (omega (arith, many, c.if-len.true, c.len.ensures, c.len-2.ensures))

pub returns-then-len-clause-rank : goal.returns-then-len-clause-rank
returns-then-len-clause-rank c = IfOk-weaker c.from_columns.result _ _ (λ s. keeps_chained c.in_ok-columns.ensures.rank) c.from_columns.ensures.rank

pub with_rarest_first-requires-clause-order : goal.with_rarest_first-requires-clause-order
with_rarest_first-requires-clause-order c = (c.in_ok-filled.filled.items, c.in_ok-filled.ensures, c.of.ensures)

pub with_rarest_first-requires-clause-few : goal.with_rarest_first-requires-clause-few
with_rarest_first-requires-clause-few c = omega (arith, length_permutation _ _ c.of.ensures, c.if-len.false, c.len.ensures, c.len-2.ensures)
