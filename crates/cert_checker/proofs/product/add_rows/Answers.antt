use Rattle.std.proofs.Common.{ℕ, ◌≡◌, ◌+◌, ◌*◌, ◌%◌, length, slice_index, arith, sym, subst, ap, ap₂, ◌∙◌}
use Rattle.residue_words.specs.Matrix.{Matrix, IsVector, entry, row}
use Rattle.sparse_rows.specs.Stored.{entry_at}
use Rattle.sparse_rows.proofs.Spread.{entry_support}
use Rattle.cert_checker.proofs.Combining.{adding_rows_more, adding_rows_none, stored_sum, stored_sum_all}
use Rattle.cert_checker.proofs.product.add_rows.Goals as goal

pub loop-k-init : goal.loop-k-init
loop-k-init c = adding_rows_none c.args.p.now c.args.cols.now c.args.vals.now c.args.b.now.matrix c.args.sums.now c.requires.residues

pub loop-k-preserved : goal.loop-k-preserved
loop-k-preserved c =
    let p : ℕ = c.args.p.now in
    let B : Matrix = c.args.b.now.matrix in
    let t : ℕ = slice_index c.args.cols.now c.loop-k.k in
    let here : (j : ℕ) → entry_at c.cols.result.now c.vals.result.now j ≡ entry B t j = λ j. ap₂ (λ cs vs. entry_at cs vs j) c.cols.ensures.support c.vals.ensures.values ∙ entry_support (row B t) j in
    adding_rows_more c.loop-k.invariant c.add_multiple.new.sums
    (subst (λ n. IsVector p n c.add_multiple.new.sums) c.loop-k.invariant.residues.len c.add_multiple.ensures.residues)
    (λ j l. c.add_multiple.ensures.sums j (omega (arith, c.loop-k.invariant.residues.len)) ∙ ap (λ e. (slice_index c.loop-k.sums j + slice_index c.args.vals.now c.loop-k.k * e) % p) (here j))

pub returns-clause-sums : goal.returns-clause-sums
returns-clause-sums c j l =
    let B : Matrix = c.args.b.now.matrix in
    let all : c.loop-k.k ≡ length c.args.cols.now = omega arith in
    let total : stored_sum c.args.cols.now c.args.vals.now B j c.loop-k.k ≡ stored_sum c.args.cols.now c.args.vals.now B j (length c.args.cols.now) =
    ap (stored_sum c.args.cols.now c.args.vals.now B j) all in
    c.loop-k.invariant.sums_are j l
    ∙ ap (λ s. (slice_index c.args.sums.now j + s) % c.args.p.now) (total ∙ sym (stored_sum_all c.args.cols.now c.args.vals.now B j c.requires.sparse))
