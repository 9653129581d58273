use Rattle.std.proofs.Common.{◌≡◌, ◌<◌, ◌∙◌, List, ap, length, map, rules, subst, sym, take}
use Rattle.std.specs.List.{All}
use Rattle.std.specs.List.Sorted.{IsNonDecreasingBy}
use Rattle.std.proofs.lemmas.List.Sorted.{All-permutation, IsNonDecreasingBy-from_sort_by_key}
use Rattle.matrix_cells.specs.declared.values_at_places.Cell.{Cell}
use Rattle.matrix_cells.specs.Cells.{AreSums, place_of, weight}
use Rattle.sparse_rows.specs.Cells.{triple_of}
use Rattle.sparse_rows.specs.Rows.{built, matrix_by}
use Rattle.matrix_cells.proofs.Sums.{read_back, sums_within}
use Rattle.sparse_rows.proofs.Building.{sums_built}
use Rattle.sparse_rows.proofs.builder.sort_and_sum.Goals as goal
use Rattle.sparse_rows.proofs.builder.sort_and_sum.Goals.{After-deref}

pub sum_cells-kept-requires-clause-residues : goal.sum_cells-kept-requires-clause-residues
sum_cells-kept-requires-clause-residues c =
    subst (All (λ (t : Cell). t.val < c.args.modulus)) (sym c.deref_mut.ensures.value)
    (All-permutation (λ t. t.val < c.args.modulus) c.args.cells.items c.sort_unstable_by_key.new.self.items c.sort_unstable_by_key.ensures.permutation c.requires.residues)

pub sum_cells-kept-requires-clause-sorted : goal.sum_cells-kept-requires-clause-sorted
sum_cells-kept-requires-clause-sorted c =
    subst (IsNonDecreasingBy (λ (t : Cell). t.place)) (sym c.deref_mut.ensures.value)
    (IsNonDecreasingBy-from_sort_by_key (λ (t : Cell). t.place) c.sort_unstable_by_key.new.self.items c.sort_unstable_by_key.ensures.sorted (λ a r q k. search rules))

-- the sums, as they are read back
summed : (c : After-deref) → AreSums c.args.modulus c.sort_unstable_by_key.new.self.items (take c.sum_cells-kept.result c.deref.result.now)
summed c =
    let read : List Cell = c.deref_mut.result.now in
    let same : c.deref.result.now ≡ c.sum_cells-kept.new.cells =
    read_back read c.sum_cells-kept.new.cells c.deref.result.now _ _ c.deref.ensures.value c.sum_cells-kept.auto.cells (c.sort_unstable_by_key.new.self.ok.0 ∙ sym (ap length c.deref_mut.ensures.value)) in
    subst (λ t. AreSums c.args.modulus t (take c.sum_cells-kept.result c.deref.result.now)) c.deref_mut.ensures.value (rw same c.sum_cells-kept.ensures.sums)

pub from_cells-requires-clause-within : goal.from_cells-requires-clause-within
from_cells-requires-clause-within c = sums_within c.args.modulus _ _ c.args.cells.items c.sort_unstable_by_key.new.self.items _ c.sort_unstable_by_key.ensures.permutation (summed c) c.requires.within

pub from_cells-requires-clause-entries : goal.from_cells-requires-clause-entries
from_cells-requires-clause-entries c = (summed c).entries

pub returns-clause-matrix : goal.returns-clause-matrix
returns-clause-matrix c =
    let f = c.args in
    let kept : List Cell = take c.sum_cells-kept.result c.deref.result.now in
    let made : matrix_by f.height f.width (λ i j. weight (place_of i j) kept) ≡ built f.modulus f.height f.width (map triple_of f.cells.items) =
    sums_built f.modulus f.height f.width f.cells.items c.sort_unstable_by_key.new.self.items kept c.requires.width_small c.sort_unstable_by_key.ensures.permutation (summed c.before.before) in
    rw made at c.from_cells.ensures.matrix
