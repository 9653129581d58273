-- The number of pivots, and then their lines.
use Rattle.std.proofs.Common.{ℕ, List, [], ◌∷◌, ◌++◌, length, append-nil, refl, sym}
use Rattle.std.specs.Prelude.{codes}
use Rattle.std.specs.Fmt.{decimal}
use Rattle.std.proofs.lemmas.Result.{err_from_is_err_and}
use Rattle.byte_streams.proofs.Added.{added_nothing, added_more, added_fault, added_sent}
use Rattle.sms_text.specs.Written.{pair_lines}
use Rattle.spasm_run.specs.Answers.{pivots_text}
use Rattle.spasm_run.proofs.written_pivots.write_pivots.Goals as goal

pub returns-in_err-add_number : goal.returns-in_err-add_number
returns-in_err-add_number g c =
    let qs = c.args.pairs.now in
    let fault = err_from_is_err_and c.from_residual-in_err-add_number.result c.from_residual-in_err-add_number.ensures.1 in
    let lines : List ℕ = 10 ∷ pair_lines qs in
    rw fault.1 (added_fault (pivots_text qs) (decimal (length qs) ++ lines) (decimal (length qs)) lines _ _ _ _ refl
    (added_more (pivots_text qs) (pivots_text qs) (codes "pivots ") (decimal (length qs) ++ lines) _ _ _ refl
    (added_nothing (pivots_text qs) _ _ _ c.new-blocks.ensures) c.in_ok-add.ensures.did) c.in_err-add_number.ensures)

pub returns-in_err-add-2 : goal.returns-in_err-add-2
returns-in_err-add-2 g c =
    let qs = c.args.pairs.now in
    let fault = err_from_is_err_and c.from_residual-in_err-add-2.result c.from_residual-in_err-add-2.ensures.1 in
    let lines : List ℕ = 10 ∷ pair_lines qs in
    rw fault.1 (added_fault (pivots_text qs) lines (10 ∷ []) (pair_lines qs) _ _ _ _ refl
    (added_more (pivots_text qs) (decimal (length qs) ++ lines) (decimal (length qs)) lines _ _ _ refl
    (added_more (pivots_text qs) (pivots_text qs) (codes "pivots ") (decimal (length qs) ++ lines) _ _ _ refl
    (added_nothing (pivots_text qs) _ _ _ c.new-blocks.ensures) c.in_ok-add.ensures.did) c.in_ok-add_number.ensures) c.in_err-add-2.ensures.did)

pub returns-in_err-add_pairs : goal.returns-in_err-add_pairs
returns-in_err-add_pairs g c =
    let qs = c.args.pairs.now in
    let fault = err_from_is_err_and c.from_residual-in_err-add_pairs.result c.from_residual-in_err-add_pairs.ensures.1 in
    let lines : List ℕ = 10 ∷ pair_lines qs in
    rw fault.1 (added_fault (pivots_text qs) (pair_lines qs) (pair_lines qs) [] _ _ _ _ (sym (append-nil (pair_lines qs)))
    (added_more (pivots_text qs) lines (10 ∷ []) (pair_lines qs) _ _ _ refl
    (added_more (pivots_text qs) (decimal (length qs) ++ lines) (decimal (length qs)) lines _ _ _ refl
    (added_more (pivots_text qs) (pivots_text qs) (codes "pivots ") (decimal (length qs) ++ lines) _ _ _ refl
    (added_nothing (pivots_text qs) _ _ _ c.new-blocks.ensures) c.in_ok-add.ensures.did) c.in_ok-add_number.ensures) c.in_ok-add-2.ensures.did) c.in_err-add_pairs.ensures)

pub returns : goal.returns
returns g c =
    let qs = c.args.pairs.now in
    let lines : List ℕ = 10 ∷ pair_lines qs in
    added_sent _ _ _ _ _ _ refl
    (added_more (pivots_text qs) (pair_lines qs) (pair_lines qs) [] _ _ _ (sym (append-nil (pair_lines qs)))
    (added_more (pivots_text qs) lines (10 ∷ []) (pair_lines qs) _ _ _ refl
    (added_more (pivots_text qs) (decimal (length qs) ++ lines) (decimal (length qs)) lines _ _ _ refl
    (added_more (pivots_text qs) (pivots_text qs) (codes "pivots ") (decimal (length qs) ++ lines) _ _ _ refl
    (added_nothing (pivots_text qs) _ _ _ c.new-blocks.ensures) c.in_ok-add.ensures.did) c.in_ok-add_number.ensures) c.in_ok-add-2.ensures.did) c.in_ok-add_pairs.ensures) c.send.ensures.did
