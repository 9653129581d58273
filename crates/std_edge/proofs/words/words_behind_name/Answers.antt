-- The words so far, and those that are left.
use Rattle.std.proofs.Common.{[], ◌∷◌, ◌++◌, ap, append_assoc, append-nil, sym, ◌∙◌}
use Rattle.std.specs.Vec.Iter.{into_iter_items}
use Rattle.std_edge.proofs.Naming.{behind_first, none_left}
use Rattle.std_edge.proofs.words.words_behind_name.Goals as goal

pub loop-word-init : goal.loop-word-init
loop-word-init c = rw c.new-words.ensures.items
    (ap into_iter_items c.into_iter-word-iterator.ensures.into_iter_gives ∙ behind_first c.args.args c.next-name.new.self c.next-name.result c.next-name.ensures.cases)

pub loop-word-preserved : goal.loop-word-preserved
loop-word-preserved c =
    let words = c.loop-word.words.items in
    let left = into_iter_items c.next.new.self in
    ap (λ l. l ++ left) c.in-Ok.ensures.items ∙ append_assoc words (c.in-Some.word ∷ []) left ∙ ap (λ l. words ++ l) (sym c.in-Some.ensures.steps.0)
    ∙ c.loop-word.invariant

pub returns-clause-words : goal.returns-clause-words
returns-clause-words c =
    sym (append-nil _) ∙ ap (λ l. c.loop-word.words.items ++ l) (sym (none_left c.loop-word.word-iterator c.in-None.ensures.steps.0)) ∙ c.loop-word.invariant
