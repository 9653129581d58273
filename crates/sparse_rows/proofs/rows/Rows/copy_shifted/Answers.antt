use Rattle.std.proofs.Common.{ℕ, ◌≡◌, ◌+◌, ◌-◌, ◌<◌, ◌∙◌, List, ap, ap₂, arith, length, slice_index, sym, take}
use Rattle.std.proofs.lemmas.List.{get_or_past, take_all}
use Rattle.residue_words.specs.Matrix.{row}
use Rattle.sparse_rows.specs.Rows.{nonzeros, support}
use Rattle.sparse_rows.specs.Stored.{entry_at}
use Rattle.sparse_rows.proofs.Loops.{copied_behind, copied_more}
use Rattle.sparse_rows.proofs.Spread.{entry_support}
use Rattle.sparse_rows.proofs.rows.Rows.copy_shifted.Goals as goal
use Rattle.sparse_rows.proofs.rows.Rows.copy_shifted.Goals.{After-loop-k}

-- a row has as many entries as columns of entries
entry_inside : (v cols vals : List ℕ) (k : ℕ) → cols ≡ support v → length vals ≡ length (support v) → k < length cols → k < length vals
entry_inside v cols vals k e same l = omega (arith, ap length e, same, l)

pub overflow_add-by : goal.overflow_add-by
overflow_add-by c = omega (arith, c.cols-cols.ensures.below_width c.loop-k.k c.loop-k-test.true, c.requires.narrow)

pub push-requires-clause-behind : goal.push-requires-clause-behind
push-requires-clause-behind c =
    copied_behind c.args.by c.loop-k.k _ _ _ _ (c.cols-cols.ensures.same_length ∙ ap length (sym c.vals-vals.ensures.values)) c.cols-cols.ensures.ascending c.loop-k-test.true c.loop-k.invariant.1

pub loop-k-preserved : goal.loop-k-preserved
loop-k-preserved c = (
  c.push.ensures.modulus ∙ c.loop-k.invariant.0,
  copied_more c.args.by c.loop-k.k _ _ _ _ (c.cols-cols.ensures.same_length ∙ ap length (sym c.vals-vals.ensures.values)) c.cols-cols.ensures.ascending c.loop-k-test.true c.loop-k.invariant.1
      c.push.new.self.row (omega (arith, c.cols-cols.ensures.below_width c.loop-k.k c.loop-k-test.true, c.requires.width)) c.in_ok-push.ensures.ok,
)

-- the entries from `by` on
copied : (c : After-loop-k) → (j : ℕ) → c.args.by + j < length c.args.to.now.row → slice_index c.loop-k.to.row (c.args.by + j) ≡ slice_index (row c.args.self.now.matrix c.args.i) j
copied c j l =
    let v : List ℕ = row c.args.self.now.matrix c.args.i in
    let columns : take c.loop-k.k c.cols-cols.result.now ≡ support v = take_all c.loop-k.k c.cols-cols.result.now c.loop-k-test.false ∙ c.cols-cols.ensures.support in
    let values : take c.loop-k.k c.vals-vals.result.now ≡ nonzeros v = take_all c.loop-k.k c.vals-vals.result.now (omega (arith, c.loop-k-test.false, c.vals-vals.ensures.same_length, ap length c.cols-cols.ensures.support)) ∙ c.vals-vals.ensures.values in
    c.loop-k.invariant.1.inside j l ∙ ap₂ (λ cs vs. entry_at cs vs j) columns values ∙ entry_support v j

pub returns-clause-inside : goal.returns-clause-inside
returns-clause-inside c = λ j l. copied c j (omega (arith, c.requires.width))

pub returns-clause-after : goal.returns-clause-after
returns-clause-after c = λ j a b.
    let e : c.args.by + (j - c.args.by) ≡ j = omega arith in
    ap (slice_index c.loop-k.to.row) (sym e) ∙ copied c (j - c.args.by) (omega arith)
    ∙ get_or_past (row c.args.self.now.matrix c.args.i) (j - c.args.by) 0 (omega (arith, (c.is_sound.ensures.entries.each c.args.i c.requires.row).len))

pub bounds-vals-k : goal.bounds-vals-k
bounds-vals-k c = entry_inside (row c.args.self.now.matrix c.args.i) c.cols-cols.result.now c.vals-vals.result.now c.loop-k.k c.cols-cols.ensures.support c.vals-vals.ensures.same_length c.loop-k-test.true

pub push-requires-clause-column : goal.push-requires-clause-column
push-requires-clause-column c = omega (arith, c.cols-cols.ensures.below_width c.loop-k.k c.loop-k-test.true, c.requires.width, c.loop-k.invariant.1.long)

pub push-requires-clause-positive : goal.push-requires-clause-positive
push-requires-clause-positive c = c.vals-vals.ensures.positive c.loop-k.k (entry_inside (row c.args.self.now.matrix c.args.i) c.cols-cols.result.now c.vals-vals.result.now c.loop-k.k c.cols-cols.ensures.support c.vals-vals.ensures.same_length c.loop-k-test.true)

pub push-requires-clause-residue : goal.push-requires-clause-residue
push-requires-clause-residue c =
    omega (arith, c.vals-vals.ensures.residues c.loop-k.k (entry_inside (row c.args.self.now.matrix c.args.i) c.cols-cols.result.now c.vals-vals.result.now c.loop-k.k c.cols-cols.ensures.support c.vals-vals.ensures.same_length c.loop-k-test.true), c.loop-k.invariant.0, c.requires.modulus)

pub returns-clause-modulus : goal.returns-clause-modulus
returns-clause-modulus c = c.loop-k.invariant.0

pub returns-clause-length : goal.returns-clause-length
returns-clause-length c = c.loop-k.invariant.1.long

pub returns-clause-before : goal.returns-clause-before
returns-clause-before c = c.loop-k.invariant.1.before
