use Rattle.std.proofs.Common.{ℕ, ◌≡◌, ◌∙◌, List, [], ◌∷◌, ◌++◌, ap, ap₂, arith, length, slice_index, sym, take}
use Rattle.std.proofs.lemmas.List.{append_assoc, length-take-le, take_more}
use Rattle.sparse_rows.specs.Rows.{row_triples}
use Rattle.sparse_rows.proofs.FilledRows.{row_triples_more}
use Rattle.sparse_rows.proofs.rows.Rows.list_row.Goals as goal

pub loop-k-preserved : goal.loop-k-preserved
loop-k-preserved c =
    let cs : List ℕ = c.cols-cols.result.now in
    let vs : List ℕ = c.vals-vals.result.now in
    let k : ℕ = c.loop-k.k in
    let long : length cs ≡ length vs = c.cols-cols.ensures.same_length ∙ ap length (sym c.vals-vals.ensures.values) in
    let same : length (take k cs) ≡ length (take k vs) = length-take-le k cs (omega (arith, c.loop-k-test.true)) ∙ sym (length-take-le k vs (omega (arith, c.loop-k-test.true))) in
    c.in_ok-push.ensures.items ∙ ap (λ ts. ts ++ (c.args.i, slice_index cs k, slice_index vs k) ∷ []) c.loop-k.invariant
    ∙ append_assoc c.args.triples.now.items (row_triples c.args.i (take k cs) (take k vs)) _
    ∙ ap (λ ts. c.args.triples.now.items ++ ts)
    (sym (ap₂ (row_triples c.args.i) (take_more cs k 0 c.loop-k-test.true) (take_more vs k 0 (omega (arith, c.loop-k-test.true))) ∙ row_triples_more c.args.i (take k cs) (take k vs) (slice_index cs k) (slice_index vs k) same))
