use Rattle.std.proofs.Common.{List, rules, ℕ, ◌≡◌, ◌<◌, ◌∙◌, ap, ap₂, arith, get_or, length, map, sym, take}
use Rattle.std.proofs.lemmas.List.{take_more}
use Rattle.std.proofs.lemmas.List.Sorted.{IsNonDecreasingBy-from_sort_by_key}
use Rattle.std.proofs.lemmas.List.Elements.{All-get_or}
use Rattle.residue_words.specs.Matrix.{Matrix, row}
use Rattle.sparse_rows.specs.Rows.{narrowed, selected}
use Rattle.sparse_rows.specs.Stored.{spread, with_row}
use Rattle.sparse_rows.proofs.Loops.{selected_more}
use Rattle.weight_order.proofs.Rearranging.{row_renamed}
use Rattle.weight_order.proofs.in_order.rearranged.Goals as goal

pub pair-requires-clause-below : goal.pair-requires-clause-below
pair-requires-clause-below c k l =
    omega (arith, c.cols.ensures.below_width k l, ap length c.deref.ensures.value, c.in_ok-places.ensures.long, c.width.ensures.value)

pub append_entries-requires-clause-sparse : goal.append_entries-requires-clause-sparse
append_entries-requires-clause-sparse c =
    let i : ℕ = get_or c.args.rows.now c.loop-i.i-index 0 in
    let up = IsNonDecreasingBy-from_sort_by_key (λ (q : ℕ × ℕ). q.0) c.sort_unstable_by_key.new.self.items c.sort_unstable_by_key.ensures.sorted (λ a r q k. search rules) in
    let low : i < c.args.matrix.now.matrix.height = All-get_or (λ k. k < c.args.matrix.now.matrix.height) c.args.rows.now c.loop-i.i-index 0 c.loop-i-test.true c.requires.rows in
    rw (c.loop-i.invariant.modulus, ap (λ m. m.width) c.loop-i.invariant.matrix)
    (row_renamed c.args.matrix.now c.args.columns.now c.in_ok-places.places.items c.modulus.ensures.sound c.requires.columns c.in_ok-places.ensures.places i low
    c.cols.ensures.support c.vals.ensures.values c.deref.ensures.value c.in_ok-pair.ensures c.sort_unstable_by_key.ensures.permutation up
    (c.deref-in-loop-i-2.ensures.value ∙ c.in_ok-part.ensures.cols ∙ ap (map (λ (q : ℕ × ℕ). q.0)) c.deref-in-loop-i.ensures.value)
    (c.deref-in-loop-i-3.ensures.value ∙ c.in_ok-part.ensures.vals ∙ ap (map (λ (q : ℕ × ℕ). q.1)) c.deref-in-loop-i.ensures.value)).0

pub loop-i-preserved : goal.loop-i-preserved
loop-i-preserved c =
    let N : Matrix = narrowed c.args.matrix.now.matrix c.args.columns.now in
    let i : ℕ = get_or c.args.rows.now c.loop-i.i-index 0 in
    let up = IsNonDecreasingBy-from_sort_by_key (λ (q : ℕ × ℕ). q.0) c.sort_unstable_by_key.new.self.items c.sort_unstable_by_key.ensures.sorted (λ a r q k. search rules) in
    let low : i < c.args.matrix.now.matrix.height = All-get_or (λ k. k < c.args.matrix.now.matrix.height) c.args.rows.now c.loop-i.i-index 0 c.loop-i-test.true c.requires.rows in
    let width : c.loop-i.made.matrix.width ≡ length c.args.columns.now = ap (λ m. m.width) c.loop-i.invariant.matrix in
    let new : spread c.loop-i.made.matrix.width c.deref-in-loop-i-2.result.now c.deref-in-loop-i-3.result.now ≡ row N i =
    rw width (row_renamed c.args.matrix.now c.args.columns.now c.in_ok-places.places.items c.modulus.ensures.sound c.requires.columns c.in_ok-places.ensures.places i low
    c.cols.ensures.support c.vals.ensures.values c.deref.ensures.value c.in_ok-pair.ensures c.sort_unstable_by_key.ensures.permutation up
    (c.deref-in-loop-i-2.ensures.value ∙ c.in_ok-part.ensures.cols ∙ ap (map (λ (q : ℕ × ℕ). q.0)) c.deref-in-loop-i.ensures.value)
    (c.deref-in-loop-i-3.ensures.value ∙ c.in_ok-part.ensures.vals ∙ ap (map (λ (q : ℕ × ℕ). q.1)) c.deref-in-loop-i.ensures.value)).1 in
    record {
      modulus = c.append_entries.ensures.modulus ∙ c.loop-i.invariant.modulus;
      matrix = c.in_ok-append_entries.ensures.matrix ∙ ap₂ with_row c.loop-i.invariant.matrix new ∙ selected_more N (take c.loop-i.i-index c.args.rows.now) i
          ∙ ap (selected N) (sym (take_more c.args.rows.now c.loop-i.i-index 0 c.loop-i-test.true));
    }
