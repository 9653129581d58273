use Rattle.std.proofs.Common.{List, rules, ◌≡◌, ◌∙◌, ap, ap₂, length}
use Rattle.std.proofs.lemmas.List.Sorted.{IsNonDecreasingBy-from_sort_by_key}
use Rattle.std.proofs.lemmas.Result.{on_ok_weaker}
use Rattle.sparse_rows.specs.Stored.{spread, with_row}
use Rattle.triangular_solve.specs.declared.placed_entries.PlacedEntry.{PlacedEntry}
use Rattle.triangular_solve.proofs.PlacingEntries.{entries_moved, entries_row, entries_sparse, places_of, values_of}
use Rattle.triangular_solve.proofs.placed_entries.RowRoom.append_row.Goals as goal

pub append_entries-requires-clause-sparse : goal.append_entries-requires-clause-sparse
append_entries-requires-clause-sparse c =
    let sorted : List PlacedEntry = c.sort_unstable_by_key.new.self.items in
    let are = entries_moved c.in_ok-place_entries.ensures c.sort_unstable_by_key.ensures.permutation in
    let order = IsNonDecreasingBy-from_sort_by_key (λ (x : PlacedEntry). x.place) sorted c.sort_unstable_by_key.ensures.sorted (λ a r q k. search rules) in
    let places : c.deref-2.result.now ≡ places_of sorted = c.deref-2.ensures.value ∙ c.in_ok-part_entries.ensures.places ∙ ap places_of c.deref.ensures.value in
    let values : c.deref-3.result.now ≡ values_of sorted = c.deref-3.ensures.value ∙ c.in_ok-part_entries.ensures.values ∙ ap values_of c.deref.ensures.value in
    rw (places, values, c.requires.modulus, c.requires.width) (entries_sparse (c.is_sound.ensures.entries.each c.args.i c.requires.inside) are order)

pub returns-clause-matrix : goal.returns-clause-matrix
returns-clause-matrix c =
    let sorted : List PlacedEntry = c.sort_unstable_by_key.new.self.items in
    let are = entries_moved c.in_ok-place_entries.ensures c.sort_unstable_by_key.ensures.permutation in
    let order = IsNonDecreasingBy-from_sort_by_key (λ (x : PlacedEntry). x.place) sorted c.sort_unstable_by_key.ensures.sorted (λ a r q k. search rules) in
    let places : c.deref-2.result.now ≡ places_of sorted = c.deref-2.ensures.value ∙ c.in_ok-part_entries.ensures.places ∙ ap places_of c.deref.ensures.value in
    let values : c.deref-3.result.now ≡ values_of sorted = c.deref-3.ensures.value ∙ c.in_ok-part_entries.ensures.values ∙ ap values_of c.deref.ensures.value in
    on_ok_weaker c.append_entries.result
    (λ e. e ∙ ap (with_row c.args.placed.now.matrix) (ap (λ n. spread n c.deref-2.result.now c.deref-3.result.now) c.requires.width ∙ ap₂ (spread (length c.args.order.now)) places values
    ∙ entries_row (c.is_sound.ensures.entries.each c.args.i c.requires.inside) are order))
    c.append_entries.ensures.matrix
