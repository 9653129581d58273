-- The words before the next one were lent.
use Rattle.std.proofs.Common.{ap}
use Rattle.std_edge.proofs.Lending.{lent_all, lent_more, lent_texts}
use Rattle.std_edge.proofs.words.borrowed.Goals as goal

pub loop-word-init : goal.loop-word-init
loop-word-init c = ap lent_texts c.in_ok-words.ensures.items

pub loop-word-preserved : goal.loop-word-preserved
loop-word-preserved c =
    rw c.in_ok-push.ensures.items (lent_more c.args.owned.now c.loop-word.word-index c.word-item.result c.as_str.result _ c.loop-word-test.true c.word-item.is c.as_str.ensures.value c.loop-word.invariant)

pub returns : goal.returns
returns c = lent_all c.args.owned.now c.loop-word.word-index _ c.loop-word-test.false c.loop-word.invariant
