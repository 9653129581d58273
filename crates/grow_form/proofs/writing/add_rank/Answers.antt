-- The line of a rank, piece by piece.
use Rattle.std.proofs.Common.{[], ◌∷◌, ◌++◌, refl}
use Rattle.std.specs.Prelude.{codes}
use Rattle.std.specs.Fmt.{decimal}
use Rattle.std.proofs.lemmas.Result.{err_from_is_err_and}
use Rattle.byte_streams.proofs.Added.{added_nothing, added_more, added_fault}
use Rattle.sms_text.specs.Writing.{output}
use Rattle.grow_form.specs.Scripts.{rank_line}
use Rattle.grow_form.proofs.ScriptAnswers.{rank_ends}
use Rattle.grow_form.proofs.writing.add_rank.Goals as goal

pub returns-in_err-add : goal.returns-in_err-add
returns-in_err-add g c =
    let text = rank_line c.args.rank in
    let fault = err_from_is_err_and c.from_residual.result c.from_residual.ensures.1 in
    rw fault.1 (added_fault text text (codes "rank ") (decimal c.args.rank ++ 10 ∷ []) _ _ _ _ refl
    (added_nothing text _ _ _ refl) c.in_err-add.ensures.did)

pub returns-in_err-add_number : goal.returns-in_err-add_number
returns-in_err-add_number g c =
    let text = rank_line c.args.rank in
    let fault = err_from_is_err_and c.from_residual-in_err-add_number.result c.from_residual-in_err-add_number.ensures.1 in
    rw fault.1 (added_fault text (decimal c.args.rank ++ 10 ∷ []) (decimal c.args.rank) (10 ∷ []) _ _ _ _ refl
    (added_more text text (codes "rank ") (decimal c.args.rank ++ 10 ∷ []) _ _ _ refl
    (added_nothing text _ _ _ refl) c.in_ok-add.ensures.did) c.in_err-add_number.ensures)

pub returns : goal.returns
returns g c =
    rank_ends c.args.rank c.add-2.result (output c.args.blocks.now (g.K.Sink.state c.args.out.now)) (output c.add_number.new.self (g.K.Sink.state c.add_number.new.out))
    (output c.add-2.new.self (g.K.Sink.state c.add-2.new.out))
    (added_more (rank_line c.args.rank) (decimal c.args.rank ++ 10 ∷ []) (decimal c.args.rank) (10 ∷ []) _ _ _ refl
    (added_more (rank_line c.args.rank) (rank_line c.args.rank) (codes "rank ") (decimal c.args.rank ++ 10 ∷ []) _ _ _ refl
    (added_nothing (rank_line c.args.rank) _ _ _ refl) c.in_ok-add.ensures.did) c.in_ok-add_number.ensures) c.add-2.ensures.did
