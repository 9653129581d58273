use Rattle.std.proofs.Common.{ℕ, ◌≡◌, ◌+◌, arith, rules, subst, sym}
use Rattle.std.proofs.lemmas.List.Sorted.{IsNonDecreasingBy-from_sort_by_key}
use Rattle.echelon_form.proofs.Numbering.{AreListed, listed_more, listed_none, order_of_sorted}
use Rattle.grow_form.proofs.reduced_form.order_by_leads.Goals as goal

pub loop-k-init : goal.loop-k-init
loop-k-init c = listed_none c.args.kept.now c.in_ok-order.order.items c.in_ok-order.ensures.items

pub loop-k-preserved : goal.loop-k-preserved
loop-k-preserved c =
    subst (AreListed c.args.kept.now (c.loop-k.k + 1)) (sym c.in_ok-push.ensures.items) (listed_more c.loop-k.invariant c.lead.result c.lead.ensures)

pub returns-clause-order : goal.returns-clause-order
returns-clause-order c =
    let all : c.loop-k.k ≡ c.args.kept.now.matrix.height = omega (arith, c.height-k-end.ensures.value) in
    order_of_sorted c.height.ensures.sound (subst (λ n. AreListed c.args.kept.now n c.loop-k.order.items) all c.loop-k.invariant) c.sort_unstable_by_key.ensures.permutation
    (IsNonDecreasingBy-from_sort_by_key (λ (t : ℕ × ℕ). t.0) c.sort_unstable_by_key.new.self.items c.sort_unstable_by_key.ensures.sorted (λ a r q k. search rules))
