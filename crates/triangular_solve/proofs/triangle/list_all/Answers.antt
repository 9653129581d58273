use Rattle.sparse_rows.specs.Rows.{AreRising}
use Rattle.std.proofs.Common.{ℕ, List, ◌≡◌, ◌≢◌, ◌<◌, length, get_or, slice_index, subst, sym, ap, ◌∙◌, arith}
use Rattle.std.specs.List.{Contains}
use Rattle.std.proofs.lemmas.List.{length-map, length_push}
use Rattle.std.proofs.lemmas.List.Elements.{Contains-get_or}
use Rattle.residue_words.specs.Matrix.{entry}
use Rattle.residue_words.specs.declared.plain.Pair.{Pair}
use Rattle.row_space.specs.Factors.{col_at}
use Rattle.sparse_rows.proofs.Supports.{in_support, of_support}
use Rattle.triangular_solve.specs.Listing.{column_count}
use Rattle.triangular_solve.proofs.Counting.{count_some}
use Rattle.triangular_solve.proofs.Listing.{listing_begins, listing_ends, listing_goes, no_pair, queued_inside, waits_left}
use Rattle.triangular_solve.proofs.triangle.list_all.Goals as goal

pub loop-place-init : goal.loop-place-init
loop-place-init c = rw c.in_ok-order.ensures.items (listing_begins c.requires.pivots c.requires.waits c.requires.ready)

pub next_ready-requires : goal.next_ready-requires
next_ready-requires c = c.loop-place.invariant.room ∙ sym c.loop-place.invariant.long

pub cols-requires : goal.cols-requires
cols-requires c =
    let inside = queued_inside c.requires.pivots c.loop-place.invariant c.in-Some.place c.in-Some.ensures.some.here in
    (c.requires.pivots.nonzero _ (Contains-get_or c.args.pairs.now c.in-Some.place no_pair inside)).0

pub lower-requires-clause-some : goal.lower-requires-clause-some
lower-requires-clause-some c = λ k lk t.
    let A = c.args.rows.now.matrix in
    let pairs = c.args.pairs.now in
    let place = c.in-Some.place in
    let inv = c.loop-place.invariant in
    let some = c.in-Some.ensures.some in
    let lp = queued_inside c.requires.pivots inv place some.here in
    let q = get_or pairs place no_pair in
    let m = waits_left c.requires.pivots inv place lp some.ready in
    let kp : k < length pairs = omega (arith, lk, ap length c.requires.columns, length-map pairs (λ (p : Pair). p.col)) in
    let col : slice_index c.args.columns.now k ≡ col_at pairs k = ap (λ (xs : List ℕ). slice_index xs k) c.requires.columns in
    let here = subst (λ (xs : List ℕ). Contains xs (slice_index c.args.columns.now k)) c.cols.ensures.support t in
    let n = of_support c.is_sound.ensures.entries q.row (c.requires.pivots.nonzero q (inv.others q m)).0 (slice_index c.args.columns.now k) here in
    omega (arith, inv.counts k kp, ap (column_count A inv.left) col, count_some A inv.left q (slice_index c.args.columns.now k) m n)

pub loop-place-preserved : goal.loop-place-preserved
loop-place-preserved c =
    let A = c.args.rows.now.matrix in
    let pairs = c.args.pairs.now in
    let columns = c.args.columns.now in
    let place = c.in-Some.place in
    let inv = c.loop-place.invariant in
    let some = c.in-Some.ensures.some in
    let lp = queued_inside c.requires.pivots inv place some.here in
    let q = get_or pairs place no_pair in
    let nq = (c.requires.pivots.nonzero q (Contains-get_or pairs place no_pair lp)).0 in
    let many : length columns ≡ length pairs = ap length c.requires.columns ∙ length-map pairs (λ (p : Pair). p.col) in
    let col : (d : ℕ) → slice_index columns d ≡ col_at pairs d = λ d. ap (λ (xs : List ℕ). slice_index xs d) c.requires.columns in
    let has : (d : ℕ) → entry A q.row (col_at pairs d) ≢ 0 → Contains c.cols.result.now (slice_index columns d) = λ d n.
    subst (λ (xs : List ℕ). Contains xs (slice_index columns d)) (sym c.cols.ensures.support) (in_support c.is_sound.ensures.entries q.row nq (slice_index columns d) (λ z. n (ap (entry A q.row) (sym (col d)) ∙ z))) in
    let off : (d : ℕ) → entry A q.row (col_at pairs d) ≡ 0 → ¬ Contains c.cols.result.now (slice_index columns d) = λ d z t.
    of_support c.is_sound.ensures.entries q.row nq (slice_index columns d) (subst (λ (xs : List ℕ). Contains xs (slice_index columns d)) c.cols.ensures.support t) (ap (entry A q.row) (col d) ∙ z) in
    rw c.in_ok-push.ensures.items (listing_goes c.requires.pivots inv place c.next_ready.new.queue c.lower.new.waits c.lower.new.queue some
    c.lower.auto.waits
    (λ d l n. c.lower.ensures.lowered d (omega arith) (has d n))
    (λ d l z. c.lower.ensures.kept d (omega arith) (off d z))
    c.lower.ensures.queued
    c.lower.ensures.room
    (λ d l n one. c.lower.ensures.pushed d (omega arith) (has d n) one))

pub returns : goal.returns
returns c = listing_ends c.requires.pivots c.loop-place.invariant c.in_default.ensures.none

pub bounds-pairs-place : goal.bounds-pairs-place
bounds-pairs-place c = queued_inside c.requires.pivots c.loop-place.invariant c.in-Some.place c.in-Some.ensures.some.here

pub lower-requires-clause-rising : goal.lower-requires-clause-rising
lower-requires-clause-rising c = c.cols.ensures.ascending

pub lower-requires-clause-many : goal.lower-requires-clause-many
lower-requires-clause-many c = c.loop-place.auto.waits ∙ c.requires.waits.many ∙ sym (ap length c.requires.columns ∙ length-map c.args.pairs.now (λ (p : Pair). p.col))

pub lower-requires-clause-pivotal : goal.lower-requires-clause-pivotal
lower-requires-clause-pivotal c = subst AreRising (sym c.requires.columns) c.requires.pivots.rising

pub loop-place-smaller : goal.loop-place-smaller
loop-place-smaller c =
    let inv = c.loop-place.invariant in
    let some = c.in-Some.ensures.some in
    let left = waits_left c.requires.pivots inv c.in-Some.place (queued_inside c.requires.pivots inv c.in-Some.place some.here) some.ready in
    omega (arith, ap length c.in_ok-push.ensures.items, length_push c.loop-place.order.items (get_or c.args.pairs.now c.in-Some.place no_pair), inv.many, left.1)

pub lower-requires-clause-room : goal.lower-requires-clause-room
lower-requires-clause-room c = c.in-Some.ensures.some.room ∙ c.loop-place.invariant.room ∙ sym (ap length c.requires.columns ∙ length-map c.args.pairs.now (λ (p : Pair). p.col))
