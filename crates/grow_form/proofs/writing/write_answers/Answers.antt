use Rattle.std.proofs.Common.{[], append-nil, refl, sym}
use Rattle.byte_streams.proofs.Added.{added_more, added_nothing, added_sent}
use Rattle.grow_form.specs.Scripts.{answers_text}
use Rattle.grow_form.proofs.writing.write_answers.Goals as goal

pub returns : goal.returns
returns g c =
    let text = answers_text c.args.answers.now in
    added_sent text [] _ _ _ _ refl
    (added_more text text text [] _ _ _ (sym (append-nil text)) (added_nothing text _ _ _ c.new-blocks.ensures) c.in_ok-add_answers.ensures) c.send.ensures.did
