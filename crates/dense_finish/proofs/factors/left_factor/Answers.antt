use Rattle.std.proofs.Common.{ℕ, ◌≡◌, ◌<◌, ◌≤◌, ◌-◌, ◌∙◌, inl, inr, List, ap, arith, length, slice_index, slice_index_or, subst, sym}
use Rattle.std.proofs.lemmas.Bool.{cases_eq}
use Rattle.std.proofs.lemmas.List.{get_or-take, get_or_default, length-take, length-take-le}
use Rattle.sparse_rows.specs.Rows.{AreRising}
use Rattle.residue_words.specs.Matrix.{IsVector}
use Rattle.dense_finish.specs.Block.{DenseBlock}
use Rattle.dense_rows.specs.Rows.{block_row, entry_of}
use Rattle.dense_finish.proofs.Gathering.{IsLeftSoFar, gathered_all, left_all, left_filled, left_none, left_zeros}
use Rattle.dense_rows.proofs.BlockRows.{read_row}
use Rattle.dense_finish.proofs.factors.left_factor.Goals as goal

-- indices ascend
index_grows : (xs : List ℕ) → AreRising xs → (t s : ℕ) → t ≤ s → s < length xs → slice_index xs t ≤ slice_index xs s
index_grows xs rising t s le l = elim (cases_eq t s) [
  | inl e ↦ omega (arith, ap (slice_index xs) e)
  | inr d ↦ omega (arith, rising t s (omega arith) l)
]

-- what is read of a block's rows and of its entries
index_read : {xs : List ℕ} (ys : List ℕ) (t x : ℕ) → xs ≡ ys → t < length ys → x ≡ slice_index_or xs t x → x ≡ slice_index ys t
index_read ys t x same l read = read ∙ ap (λ zs. slice_index_or zs t x) same ∙ get_or_default ys t x 0 l

row_read : {xs : List (List ℕ)} (ys : List (List ℕ)) (t : ℕ) (v : List ℕ) → xs ≡ ys → t < length ys → v ≡ slice_index_or xs t v → v ≡ block_row ys t
row_read ys t v same l read = read ∙ ap (λ zs. slice_index_or zs t v) same ∙ read_row ys t v l

pub loop-t-init : goal.loop-t-init
loop-t-init g c =
    let modulus = ap (λ (b : DenseBlock). b.modulus) c.block.view_is in
    let width : c.len-width.result ≡ length c.args.pivots.now.columns.items = omega (arith, c.args.pivots.now.columns.ok.0) in
    record {
      left = left_none c.args.block.now.rows c.args.pivots.now.columns.items c.args.block.now.entries (c.in_ok-left.ensures.modulus ∙ modulus) (rw width at c.in_ok-left.ensures.matrix);
      inside = omega arith;
      rest = λ k a l. omega arith;
      room = rw (modulus, width) at c.in_ok-row_room.ensures;
      below = omega (arith, ap (λ A. A.height) c.in_ok-left.ensures.matrix);
    }

pub pad-requires-clause-low : goal.pad-requires-clause-low
pad-requires-clause-low g c =
    let b = c.args.block.now in
    let t = c.loop-t.t in
    let same = ap (λ (b : DenseBlock). b.rows) c.block.view_is in
    let some : t < length b.rows = omega (arith, c.block.inside.rows.ok.0, ap length same) in
    omega (arith, index_read b.rows t c.index.result.now same some c.index.ensures, c.loop-t.invariant.left.coming t (omega arith) some)

pub pad-requires-clause-small : goal.pad-requires-clause-small
pad-requires-clause-small g c =
    let b = c.args.block.now in
    let t = c.loop-t.t in
    let same = ap (λ (b : DenseBlock). b.rows) c.block.view_is in
    let some : t < length b.rows = omega (arith, c.block.inside.rows.ok.0, ap length same) in
    omega (arith, index_read b.rows t c.index.result.now same some c.index.ensures, c.requires.dense.rows_below t some, c.requires.dense.low)

pub append_to-requires-clause-room : goal.append_to-requires-clause-room
append_to-requires-clause-room g c κs within =
    rw (c.pad.ensures.modulus ∙ c.loop-t.invariant.left.modulus, ap (λ A. A.width) c.in_ok-pad.ensures.matrix ∙ c.loop-t.invariant.left.width) c.loop-t.invariant.room

pub append_to-requires-clause-narrow : goal.append_to-requires-clause-narrow
append_to-requires-clause-narrow g c κs within =
    omega (
      arith,
      ap (λ A. A.width) c.in_ok-pad.ensures.matrix,
      c.loop-t.invariant.left.width,
      ap length c.deref-in-loop-t.ensures.value,
      length-take c.count_up_to-count.result c.deref-in-loop-t.result.now,
    )

pub append_to-requires-clause-few : goal.append_to-requires-clause-few
append_to-requires-clause-few g c κs within =
    omega (arith, ap length c.deref-in-loop-t.ensures.value, length-take c.count_up_to-count.result c.deref-in-loop-t.result.now, c.requires.pivots.few, c.requires.dense.rows_few)

pub append_to-requires-clause-residues : goal.append_to-requires-clause-residues
append_to-requires-clause-residues g c κs within =
    let b = c.args.block.now in
    let t = c.loop-t.t in
    let inside : t < length b.entries = omega (arith, c.block.inside.rows.ok.0, ap (λ (b : DenseBlock). length b.rows) c.block.view_is, c.requires.dense.long) in
    let read = row_read b.entries t c.index-in-loop-t.result.now (ap (λ (b : DenseBlock). b.entries) c.block.view_is) inside c.index-in-loop-t.ensures in
    let vector = c.requires.dense.residues t inside in
    let own : IsVector b.modulus (length (block_row b.entries t)) (block_row b.entries t) = subst (λ n. IsVector b.modulus n (block_row b.entries t)) (sym vector.len) vector in
    rw (c.pad.ensures.modulus ∙ c.loop-t.invariant.left.modulus, read) own

pub append_to-requires-clause-inside : goal.append_to-requires-clause-inside
append_to-requires-clause-inside g c κs within =
    let b = c.args.block.now in
    let t = c.loop-t.t in
    let inside : t < length b.entries = omega (arith, c.block.inside.rows.ok.0, ap (λ (b : DenseBlock). length b.rows) c.block.view_is, c.requires.dense.long) in
    let read = row_read b.entries t c.index-in-loop-t.result.now (ap (λ (b : DenseBlock). b.entries) c.block.view_is) inside c.index-in-loop-t.ensures in
    let columns = c.args.pivots.now.columns.items in
    let count = c.count_up_to-count.result in
    rw c.deref-in-loop-t.ensures.value (λ k l.
    let less : k < count = omega (arith, length-take count columns) in
    omega (arith, ap length read, (c.requires.dense.residues t inside).len, get_or-take count columns k 0 less, c.requires.pivots.columns k (omega (arith, length-take count columns))))

pub append_to-requires-clause-low : goal.append_to-requires-clause-low
append_to-requires-clause-low g c κs within =
    let b = c.args.block.now in
    let t = c.loop-t.t in
    let same = ap (λ (b : DenseBlock). b.rows) c.block.view_is in
    let some : t < length b.rows = omega (arith, c.block.inside.rows.ok.0, ap length same) in
    omega (
      arith,
      ap (λ A. A.height) c.in_ok-pad.ensures.matrix,
      index_read b.rows t c.index.result.now same some c.index.ensures,
      c.requires.dense.rows_below t some,
      c.loop-t.invariant.left.coming t (omega arith) some,
      c.requires.dense.low,
    )

pub loop-t-preserved : goal.loop-t-preserved
loop-t-preserved g c =
    let b = c.args.block.now in
    let p = b.modulus in
    let t = c.loop-t.t in
    let columns = c.args.pivots.now.columns.items in
    let left = c.loop-t.invariant.left in
    let pos : 0 < p = omega (arith, c.requires.dense.modulus) in
    let same = ap (λ (b : DenseBlock). b.rows) c.block.view_is in
    let some : t < length b.rows = omega (arith, c.block.inside.rows.ok.0, ap length same) in
    let index = index_read b.rows t c.index.result.now same some c.index.ensures in
    let low : c.loop-t.left.matrix.height ≤ slice_index b.rows t = left.coming t (omega arith) some in
    let padded : IsLeftSoFar p b.rows columns b.entries t c.pad.new.rows =
    left_zeros (slice_index b.rows t - c.loop-t.left.matrix.height) pos left (λ s a l. omega (arith, low, left.coming s a l, index_grows b.rows c.requires.dense.rows_rising t s a l)) c.pad.ensures.modulus
    (rw index at c.in_ok-pad.ensures.matrix) in
    let at : slice_index b.rows t ≡ c.pad.new.rows.matrix.height = omega (arith, low, index, ap (λ A. A.height) c.in_ok-pad.ensures.matrix) in
    let inside : t < length b.entries = omega (arith, c.requires.dense.long) in
    let row-is = row_read b.entries t c.index-in-loop-t.result.now (ap (λ (b : DenseBlock). b.entries) c.block.view_is) inside c.index-in-loop-t.ensures in
    let pivots = c.requires.pivots in
    let count = c.count_up_to-count in
    let added = c.in_ok-append_to.ensures.row in
    let wide = ap (λ A. A.width) c.in_ok-pad.ensures.matrix ∙ left.width in
    let few : count.result ≤ length columns = omega (arith, count.ensures.inside, ap length c.deref.ensures.value, pivots.long) in
    let rest = rw c.deref.ensures.value at count.ensures.rest in
    let read : (k : ℕ) → k < length columns → slice_index added.row k ≡ entry_of b.entries t (slice_index columns k) =
    gathered_all (block_row b.entries t) columns count.result few wide (rw (c.deref-in-loop-t.ensures.value, row-is) at added.put) (λ k a l. pivots.after t k l (rest k a (omega (arith, pivots.long)))) in
    let vector : IsVector p (length columns) added.row = record {
      len = added.put.long ∙ wide;
      residues = λ k l. omega (arith, read k l, (c.requires.dense.residues t inside).residues (slice_index columns k) (c.requires.pivots.columns k l));
    } in
    record {
      left = left_filled padded c.requires.dense.rows_rising vector added.modulus added.matrix some at read;
      inside = omega (arith, count.ensures.inside, ap length c.deref.ensures.value);
      rest = λ k a l. omega (arith, rest k a l);
      room = rw (c.pad.ensures.modulus ∙ left.modulus, wide) at c.in_ok-append_to.ensures.room;
      below = omega (arith, ap (λ A. A.height) added.matrix, at, c.requires.dense.rows_below t some);
    }

pub returns-clause-residues : goal.returns-clause-residues
returns-clause-residues g c =
    let pos : 0 < c.args.block.now.modulus = omega (arith, c.requires.dense.modulus) in
    let all : c.loop-t.t ≡ length c.args.block.now.rows = omega (arith, c.block.inside.rows.ok.0, ap (λ (b : DenseBlock). length b.rows) c.block.view_is) in
    (left_zeros (c.block.inside.height - c.loop-t.left.matrix.height) pos c.loop-t.invariant.left (λ t a l. absurd (omega arith)) c.pad-2.ensures.modulus c.in_ok-pad-2.ensures.matrix).matrix

pub returns-clause-left : goal.returns-clause-left
returns-clause-left g c =
    let b = c.args.block.now in
    let pos : 0 < b.modulus = omega (arith, c.requires.dense.modulus) in
    let all : c.loop-t.t ≡ length b.rows = omega (arith, c.block.inside.rows.ok.0, ap (λ (b : DenseBlock). length b.rows) c.block.view_is) in
    let end : c.pad-2.new.rows.matrix.height ≡ b.height = omega (arith, ap (λ A. A.height) c.in_ok-pad-2.ensures.matrix, c.loop-t.invariant.below, ap (λ (b : DenseBlock). b.height) c.block.view_is) in
    left_all end (omega arith)
    (left_zeros (c.block.inside.height - c.loop-t.left.matrix.height) pos c.loop-t.invariant.left (λ t a l. absurd (omega arith)) c.pad-2.ensures.modulus c.in_ok-pad-2.ensures.matrix)

pub count_up_to-count-requires-clause-rising : goal.count_up_to-count-requires-clause-rising
count_up_to-count-requires-clause-rising g c = rw c.deref.ensures.value c.requires.pivots.rising

pub in_room-requires-clause-width_small : goal.in_room-requires-clause-width_small
in_room-requires-clause-width_small g c = omega (arith, c.requires.pivots.few, c.requires.dense.rows_few, c.args.pivots.now.columns.ok.0)

pub in_room-requires-clause-height_small : goal.in_room-requires-clause-height_small
in_room-requires-clause-height_small g c = omega (arith, ap (λ (b : DenseBlock). b.height) c.block.view_is, c.requires.dense.low)

pub count_up_to-count-requires-clause-inside : goal.count_up_to-count-requires-clause-inside
count_up_to-count-requires-clause-inside g c = omega (arith, c.loop-t.invariant.inside, ap length c.deref.ensures.value)

pub count_up_to-count-requires-clause-rest : goal.count_up_to-count-requires-clause-rest
count_up_to-count-requires-clause-rest g c = rw c.deref.ensures.value c.loop-t.invariant.rest

pub index-requires-in-loop-t : goal.index-requires-in-loop-t
index-requires-in-loop-t g c =
    omega (arith, c.block.inside.rows.ok.0, c.block.inside.entries.ok.0, ap (λ (b : DenseBlock). length b.rows) c.block.view_is, ap (λ (b : DenseBlock). length b.entries) c.block.view_is, c.requires.dense.long)

pub slice_bounds-append_to-end : goal.slice_bounds-append_to-end
slice_bounds-append_to-end g c =
    let count = c.count_up_to-count in
    let few : count.result ≤ length c.deref-in-loop-t.result.now =
    omega (arith, count.ensures.inside, ap length c.deref.ensures.value, c.requires.pivots.long, ap length c.deref-in-loop-t.ensures.value) in
    sym (length-take-le count.result c.deref-in-loop-t.result.now few)

pub returns-clause-modulus : goal.returns-clause-modulus
returns-clause-modulus g c = c.pad-2.ensures.modulus ∙ c.loop-t.invariant.left.modulus
