use Rattle.std.proofs.Common.{ℕ, ◌≡◌, ◌+◌, ◌*◌, ◌%◌, ◌<◌, List, [], length, slice_index, slice_index_or, sym, ap, subst, ◌∙◌, arith}
use Rattle.residue_words.specs.Matrix.{IsVector}
use Rattle.plain_elimination.specs.Plain.{lists}
use Rattle.plain_elimination.proofs.Elimination.{IsReducing, list_at, lists_length, reducing_none, reducing_more, reducing_same}
use Rattle.plain_elimination.proofs.reduce.Goals as goal
use Rattle.plain_elimination.proofs.reduce.Goals.{then-a-ne0, else-a-ne0}

pub loop-k-init : goal.loop-k-init
loop-k-init c = reducing_none c.args.p.now (length c.args.row.now) (lists c.args.kept.now) c.args.leads.now c.args.row.now c.requires.row

pub subtract_multiple-requires-clause-kept : goal.subtract_multiple-requires-clause-kept
subtract_multiple-requires-clause-kept c =
    let n : ℕ = length c.args.row.now in
    let inside : c.loop-k.k < length (lists c.args.kept.now) = omega (arith, lists_length c.args.kept.now) in
    let same : slice_index_or (lists c.args.kept.now) c.loop-k.k [] ≡ c.deref.result.now = list_at c.args.kept.now c.loop-k.k c.index-kept-k.result c.loop-k-test.true c.index-kept-k.is ∙ sym c.deref.ensures.value in
    subst (λ m. IsVector c.args.p.now m c.deref.result.now) (sym c.loop-k.auto.row) (subst (IsVector c.args.p.now n) same (c.requires.kept.matrix.each c.loop-k.k inside))

pub loop-k-preserved : goal.loop-k-preserved
loop-k-preserved c =
    let p : ℕ = c.args.p.now in
    let n : ℕ = length c.args.row.now in
    let kept = lists c.args.kept.now in
    let inside : c.loop-k.k < length (lists c.args.kept.now) = omega (arith, lists_length c.args.kept.now) in
    elim c.if-a-ne0.branch [
      | then-a-ne0 w ↦
          let x : List ℕ = w.subtract_multiple.new.row in
          let a : ℕ = slice_index c.loop-k.row (slice_index c.args.leads.now c.loop-k.k) in
          let same : slice_index_or kept c.loop-k.k [] ≡ w.deref.result.now =
          list_at c.args.kept.now c.loop-k.k w.index-kept-k.result c.loop-k-test.true w.index-kept-k.is ∙ sym w.deref.ensures.value in
          subst (λ x. IsReducing p n kept c.args.leads.now c.args.row.now x (c.loop-k.k + 1)) (sym w.row-is)
          (reducing_more p n kept c.args.leads.now c.args.row.now c.loop-k.row x c.loop-k.k c.requires.kept c.loop-k.invariant inside
          (subst (λ m. IsVector p m x) c.loop-k.auto.row w.subtract_multiple.ensures.vector)
          (λ j l. w.subtract_multiple.ensures.value j (omega (arith, c.loop-k.auto.row)) ∙ ap (λ u. (slice_index x j + a * slice_index u j) % p) (sym same)))
      | else-a-ne0 w ↦ subst (λ x. IsReducing p n kept c.args.leads.now c.args.row.now x (c.loop-k.k + 1)) (sym w.row-is)
          (reducing_same p n kept c.args.leads.now c.args.row.now c.loop-k.row c.loop-k.k c.loop-k.invariant w.if-a-ne0.false)
    ]
