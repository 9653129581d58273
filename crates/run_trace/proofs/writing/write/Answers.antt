-- The first line, and then the publications.
use Rattle.std.proofs.Common.{ℕ, ◌≡◌, ◌++◌, List, [], ◌∷◌, append_assoc, append-nil, length, refl, sym, ap, ◌∙◌}
use Rattle.std.specs.Prelude.{codes}
use Rattle.std.specs.Fmt.{decimal}
use Rattle.std.proofs.lemmas.Result.{err_from_is_err_and}
use Rattle.byte_streams.proofs.Added.{added_nothing, added_more, added_fault, added_sent}
use Rattle.sms_text.specs.Written.{pair_line}
use Rattle.run_trace.specs.declared.publication.Publication.{Publication}
use Rattle.run_trace.specs.TraceText.{publication_lines, trace_text}
use Rattle.run_trace.proofs.writing.write.Goals as goal

regrouped : (a b c : List ℕ) → a ++ b ++ 32 ∷ c ++ 10 ∷ [] ≡ a ++ (b ++ 32 ∷ c ++ 10 ∷ [])
regrouped a b c = simp append_assoc

-- the first words, the modulus and the count, and what stands behind them
text_cut : (p : ℕ) (all list : List Publication) → list ≡ all → trace_text p all ≡ (codes "trace " ++ pair_line p (length list)) ++ publication_lines list
text_cut p all list same =
    ap (λ (l : List Publication). trace_text p l) (sym same) ∙ ap (λ t. t ++ publication_lines list) (regrouped (codes "trace ") (decimal p) (decimal (length list)))

pub returns-in_err-add_title : goal.returns-in_err-add_title
returns-in_err-add_title g c =
    let p = c.args.trace.now.p in
    let list = c.items-publications.result.now in
    let text = trace_text p c.args.trace.now.publications in
    let title : List ℕ = codes "trace " ++ pair_line p (length list) in
    let cut : text ≡ title ++ publication_lines list = text_cut p c.args.trace.now.publications list c.items-publications.ensures in
    let fault = err_from_is_err_and c.from_residual.result c.from_residual.ensures.1 in
    rw fault.1 (added_fault text text title (publication_lines list) _ _ _ _ cut
    (added_nothing text _ _ _ c.new-blocks.ensures) c.in_err-add_title.ensures)

pub returns-in_err-add_publications : goal.returns-in_err-add_publications
returns-in_err-add_publications g c =
    let p = c.args.trace.now.p in
    let list = c.items-publications.result.now in
    let text = trace_text p c.args.trace.now.publications in
    let rest = publication_lines list in
    let title : List ℕ = codes "trace " ++ pair_line p (length list) in
    let cut : text ≡ title ++ publication_lines list = text_cut p c.args.trace.now.publications list c.items-publications.ensures in
    let fault = err_from_is_err_and c.from_residual-in_err-add_publications.result c.from_residual-in_err-add_publications.ensures.1 in
    rw fault.1 (added_fault text rest rest [] _ _ _ _ (sym (append-nil rest))
    (added_more text text title rest _ _ _ cut
    (added_nothing text _ _ _ c.new-blocks.ensures) c.in_ok-add_title.ensures) c.in_err-add_publications.ensures)

pub returns : goal.returns
returns g c =
    let p = c.args.trace.now.p in
    let list = c.items-publications.result.now in
    let text = trace_text p c.args.trace.now.publications in
    let rest = publication_lines list in
    let title : List ℕ = codes "trace " ++ pair_line p (length list) in
    let cut : text ≡ title ++ publication_lines list = text_cut p c.args.trace.now.publications list c.items-publications.ensures in
    added_sent text [] _ _ _ _ refl
    (added_more text rest rest [] _ _ _ (sym (append-nil rest))
    (added_more text text title rest _ _ _ cut
    (added_nothing text _ _ _ c.new-blocks.ensures) c.in_ok-add_title.ensures) c.in_ok-add_publications.ensures) c.send.ensures.did
