use Rattle.std.proofs.Common.{◌<◌, ◌++◌, List, drop, length, refl, take}
use Rattle.std.proofs.lemmas.List.Elements.{All-weaker}
use Rattle.std.proofs.lemmas.List.Sorted.{All-permutation}
use Rattle.matrix_cells.specs.declared.values_at_places.Cell.{Cell}
use Rattle.matrix_cells.specs.Cells.{IsWithin, row_of}
use Rattle.sparse_rows.proofs.Building.{built_reordered, pushed_reordered, sums_built}
use Rattle.matrix_cells.proofs.Sums.{reordered, sums_within}
use Rattle.sparse_rows.proofs.builder.sum_up.Goals as goal

pub sums_of-requires-clause-within : goal.sums_of-requires-clause-within
sums_of-requires-clause-within c =
    All-weaker (IsWithin c.args.height c.args.width) (λ t. row_of t < c.args.height) (λ t h. h.row) c.deref.result.now
    (All-permutation (IsWithin c.args.height c.args.width) c.args.cells.items c.deref.result.now
    (reordered _ _ c.bring_near.new.cells _ _ _ c.deref_mut.ensures.value c.bring_near.ensures c.deref.ensures.value c.bring_near.auto.cells c.args.cells.ok.0) c.requires.within)

pub sums_of-requires-clause-residues : goal.sums_of-requires-clause-residues
sums_of-requires-clause-residues c =
    All-permutation (λ t. t.val < c.args.modulus) c.args.cells.items c.deref.result.now
    (reordered _ _ c.bring_near.new.cells _ _ _ c.deref_mut.ensures.value c.bring_near.ensures c.deref.ensures.value c.bring_near.auto.cells c.args.cells.ok.0) c.requires.residues

pub from_ordered-requires-clause-within : goal.from_ordered-requires-clause-within
from_ordered-requires-clause-within c =
    sums_within c.args.modulus _ _ c.args.cells.items c.deref.result.now _
    (reordered _ _ c.bring_near.new.cells _ _ _ c.deref_mut.ensures.value c.bring_near.ensures c.deref.ensures.value c.bring_near.auto.cells c.args.cells.ok.0)
    (rw c.in-Some.is at c.in_ok-sums.ensures) c.requires.within

pub returns-in-Some-clause-matrix : goal.returns-in-Some-clause-matrix
returns-in-Some-clause-matrix c =
    let made = sums_built c.args.modulus c.args.height c.args.width c.args.cells.items c.deref.result.now c.in-Some.sums c.requires.width_small
    (reordered _ _ c.bring_near.new.cells _ _ _ c.deref_mut.ensures.value c.bring_near.ensures c.deref.ensures.value c.bring_near.auto.cells c.args.cells.ok.0)
    (rw c.in-Some.is at c.in_ok-sums.ensures) in
    rw made at c.from_ordered.ensures.matrix

pub sort_and_sum-requires-in-None : goal.sort_and_sum-requires-in-None
sort_and_sum-requires-in-None c =
    pushed_reordered c.args.modulus c.args.height c.args.width c.args.cells.items _
    (reordered _ _ c.bring_near.new.cells _ _ _ c.deref_mut.ensures.value c.bring_near.ensures refl c.bring_near.auto.cells c.args.cells.ok.0) c.requires

pub returns-in-None-clause-matrix : goal.returns-in-None-clause-matrix
returns-in-None-clause-matrix c =
    let other : List Cell = take c.args.cells.len (c.bring_near.new.cells ++ drop (length c.bring_near.new.cells) c.args.cells.items) in
    let made = built_reordered c.args.modulus c.args.height c.args.width c.args.cells.items other c.requires.width_small
    (reordered _ _ c.bring_near.new.cells _ _ _ c.deref_mut.ensures.value c.bring_near.ensures refl c.bring_near.auto.cells c.args.cells.ok.0) in
    rw made at c.sort_and_sum-in-None.ensures.matrix
