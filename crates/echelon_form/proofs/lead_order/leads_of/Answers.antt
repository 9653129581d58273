use Rattle.std.proofs.Common.{ℕ, ◌∙◌, [], ◌∷◌, ◌++◌, ap, map, slice_index_or, sym, take}
use Rattle.std.proofs.lemmas.List.{map_push, take_more}
use Rattle.echelon_form.proofs.lead_order.leads_of.Goals as goal

pub loop-c-preserved : goal.loop-c-preserved
loop-c-preserved c =
    c.in_ok-push.ensures.items ∙ ap (λ l. l ++ (slice_index_or c.args.order.now c.loop-c.c-index (0, 0)).0 ∷ []) c.loop-c.invariant
    ∙ sym (map_push (λ (x : ℕ × ℕ). x.0) (take c.loop-c.c-index c.args.order.now) (slice_index_or c.args.order.now c.loop-c.c-index (0, 0)))
    ∙ ap (map (λ (x : ℕ × ℕ). x.0)) (sym (take_more c.args.order.now c.loop-c.c-index (0, 0) c.loop-c-test.true))
