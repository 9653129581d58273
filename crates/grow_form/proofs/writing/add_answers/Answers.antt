-- Answer by answer.
use Rattle.std.proofs.Common.{refl}
use Rattle.std.proofs.lemmas.Result.{err_from_is_err_and}
use Rattle.byte_streams.proofs.Added.{added_nothing, added_more, added_fault, added_all}
use Rattle.grow_form.proofs.ScriptAnswers.{texts_end, texts_from}
use Rattle.grow_form.proofs.writing.add_answers.Goals as goal

pub loop-k-init : goal.loop-k-init
loop-k-init g c = added_nothing _ _ _ _ refl

pub loop-k-preserved : goal.loop-k-preserved
loop-k-preserved g c =
    added_more _ _ _ _ _ _ _ (texts_from c.args.answers.now c.loop-k.k c.index-answers-k.result c.loop-k-test.true c.index-answers-k.is) c.loop-k.invariant c.in_ok-add_answer.ensures

pub returns-in_err-add_answer : goal.returns-in_err-add_answer
returns-in_err-add_answer g c =
    let fault = err_from_is_err_and c.from_residual.result c.from_residual.ensures.1 in
    rw fault.1 (added_fault _ _ _ _ _ _ _ _ (texts_from c.args.answers.now c.loop-k.k c.index-answers-k.result c.loop-k-test.true c.index-answers-k.is) c.loop-k.invariant c.in_err-add_answer.ensures)

pub returns : goal.returns
returns g c = added_all _ _ _ _ (texts_end c.args.answers.now c.loop-k.k c.loop-k-test.false) c.loop-k.invariant
