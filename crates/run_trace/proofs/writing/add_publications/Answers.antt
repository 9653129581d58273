-- Line by line.
use Rattle.std.proofs.Common.{ℕ, ◌≡◌, ◌+◌, ◌<◌, ◌≤◌, List, [], ◌∷◌, ◌++◌, length, drop, get_or, refl, ap, add-one}
use Rattle.std.proofs.Math.Seq.{drop-cons}
use Rattle.std.proofs.lemmas.List.{drop_all}
use Rattle.std.proofs.lemmas.Result.{err_from_is_err_and}
use Rattle.byte_streams.proofs.Added.{added_nothing, added_more, added_fault, added_all}
use Rattle.sms_text.specs.Written.{entry_line}
use Rattle.run_trace.specs.declared.publication.Publication.{Publication}
use Rattle.run_trace.specs.TraceText.{publication_lines}
use Rattle.run_trace.proofs.writing.add_publications.Goals as goal

-- the line of the publication at k, and those behind it
lines_from : (list : List Publication) (k : ℕ) (d : Publication) → k < length list
    → publication_lines (drop k list) ≡ entry_line ((get_or list k d).pair.row + 1) ((get_or list k d).pair.col + 1) (get_or list k d).version ++ publication_lines (drop (k + 1) list)
lines_from list k d less =
    let one : drop k list ≡ get_or list k d ∷ drop (k + 1) list = rw (add-one k) (drop-cons list k d less) in ap publication_lines one

-- none is left
lines_end : (list : List Publication) (k : ℕ) → length list ≤ k → publication_lines (drop k list) ≡ []
lines_end list k past = ap publication_lines (drop_all k list past)

pub loop-k-init : goal.loop-k-init
loop-k-init g c = added_nothing _ _ _ _ refl

pub loop-k-preserved : goal.loop-k-preserved
loop-k-preserved g c =
    added_more _ _ _ _ _ _ _ (lines_from c.args.publications.now c.loop-k.k _ c.loop-k-test.true) c.loop-k.invariant c.in_ok-add_entry.ensures

pub returns-in_err-add_entry : goal.returns-in_err-add_entry
returns-in_err-add_entry g c =
    let fault = err_from_is_err_and c.from_residual.result c.from_residual.ensures.1 in
    rw fault.1 (added_fault _ _ _ _ _ _ _ _ (lines_from c.args.publications.now c.loop-k.k _ c.loop-k-test.true) c.loop-k.invariant c.in_err-add_entry.ensures)

pub returns : goal.returns
returns g c = added_all _ _ _ _ (lines_end c.args.publications.now c.loop-k.k c.loop-k-test.false) c.loop-k.invariant
