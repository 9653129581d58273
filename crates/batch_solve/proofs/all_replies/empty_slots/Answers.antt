use Rattle.std.proofs.Common.{◌≡◌, ◌∙◌, [], ◌∷◌, ◌++◌, List, Option, None, ap, arith, replicate}
use Rattle.std.proofs.lemmas.List.{replicate_more}
use Rattle.kernel_solve.specs.declared.prepared.Reply.{Reply}
use Rattle.batch_solve.proofs.all_replies.empty_slots.Goals as goal

pub loop-init : goal.loop-init
loop-init c = c.in_ok-slots.ensures.items

pub loop-preserved : goal.loop-preserved
loop-preserved c = c.in_ok-push.ensures.items ∙ ap (λ (l : List (Option Reply)). l ++ None ∷ []) c.loop.invariant ∙ replicate_more c.loop.counter None

pub returns : goal.returns
returns c =
    let whole : c.loop.counter ≡ c.args.count = let a = c.loop-test.false in let b = c.loop.auto.counter-end in omega arith in
    c.loop.invariant ∙ ap (λ n. replicate {A = Option Reply} n None) whole
