use Rattle.std.proofs.Common.{ℕ, ◌≡◌, ◌+◌, ◌∙◌, List, ap, ap₂, arith, length, sym}
use Rattle.std.proofs.lemmas.List.{take_all}
use Rattle.residue_words.specs.Matrix.{entry, row}
use Rattle.residue_words.proofs.Vectors.{at_list_of, length_list_of, list_equal}
use Rattle.sparse_rows.specs.Stored.{entry_at}
use Rattle.sparse_rows.proofs.Spread.{entry_support}
use Rattle.kernel_solve.proofs.RightHalf.{half_behind, half_left, half_more}
use Rattle.kernel_solve.proofs.inverses.copy_right_half.Goals as goal
use Rattle.kernel_solve.proofs.inverses.copy_right_half.Goals.{then-n-cols+in_ok-push, else-n-cols}

pub push-requires-clause-behind : goal.push-requires-clause-behind
push-requires-clause-behind c = λ j a b.
    half_behind c.args.n c.loop-k.k c.cols-cols.result.now c.vals-vals.result.now c.loop-k.to.row (c.cols-cols.ensures.same_length ∙ ap length (sym c.vals-vals.ensures.values))
    c.cols-cols.ensures.ascending c.loop-k-test.true c.loop-k.invariant.1 j (omega arith) (omega (arith, c.loop-k.invariant.1.long))

pub loop-k-preserved : goal.loop-k-preserved
loop-k-preserved c =
    let cs : List ℕ = c.cols-cols.result.now in
    let vs : List ℕ = c.vals-vals.result.now in
    let long : length cs ≡ length vs = c.cols-cols.ensures.same_length ∙ ap length (sym c.vals-vals.ensures.values) in
    elim c.if-n-cols.branch [
      | then-n-cols+in_ok-push w ↦
          rw w.to-is (
            w.push.ensures.modulus ∙ c.loop-k.invariant.0,
            half_more c.args.n c.loop-k.k cs vs c.loop-k.to.row long c.cols-cols.ensures.ascending c.loop-k-test.true c.loop-k.invariant.1 w.push.new.self.row w.if-n-cols.true
                (omega (arith, c.cols-cols.ensures.below_width c.loop-k.k c.loop-k-test.true, c.requires.width)) w.in_ok-push.ensures.ok,
          )
      | else-n-cols w ↦
          rw w.to-is (
            c.loop-k.invariant.0,
            half_left c.args.n c.loop-k.k cs vs c.loop-k.to.row long c.cols-cols.ensures.ascending c.loop-k-test.true c.loop-k.invariant.1 (omega (arith, w.if-n-cols.false)),
          )
    ]

pub returns-clause-row : goal.returns-clause-row
returns-clause-row c =
    let n : ℕ = c.args.n in
    let k : ℕ = c.loop-k.k in
    let v : List ℕ = row c.args.rows.now.matrix c.args.i in
    let long : length c.cols-cols.result.now ≡ length c.vals-vals.result.now = c.cols-cols.ensures.same_length ∙ ap length (sym c.vals-vals.ensures.values) in
    list_equal n _ _ c.loop-k.invariant.1.long (length_list_of n _) (λ j l.
    c.loop-k.invariant.1.each j l
    ∙ ap₂ (λ cs vs. entry_at cs vs (n + j)) (take_all k c.cols-cols.result.now c.loop-k-test.false ∙ c.cols-cols.ensures.support)
    (take_all k c.vals-vals.result.now (omega (arith, long, c.loop-k-test.false)) ∙ c.vals-vals.ensures.values)
    ∙ entry_support v (n + j) ∙ sym (at_list_of n (λ j. entry c.args.rows.now.matrix c.args.i (n + j)) j l))
