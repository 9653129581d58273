use Rattle.std.proofs.Common.{ℕ, ◌∙◌, List, ap, length, subst, sym}
use Rattle.sparse_rows.specs.Rows.{ResidueRow}
use Rattle.sparse_rows.specs.Stored.{IsSparse, spread}
use Rattle.triangular_solve.specs.PivotRows.{AreDisjointParts, IsSplitRow}
use Rattle.triangular_solve.proofs.PivotReduction.{reduced_parts}
use Rattle.triangular_solve.proofs.Rooms.{disjoint_parts, room_clear, room_modulus, split_sums, zeros_long, zeros_row}
use Rattle.triangular_solve.proofs.TakenRows.{left_vector}
use Rattle.triangular_solve.proofs.work.reduce_by.Goals as goal

pub split-requires-clause-row : goal.split-requires-clause-row
split-requires-clause-row c = subst (λ m. IsSparse m (length c.args.passed.now.row) c.args.row.cols.now c.args.row.vals.now) (sym (ap (λ (r : ResidueRow). r.modulus) c.requires.room.clear)) c.requires.row

pub split-requires-clause-modulus : goal.split-requires-clause-modulus
split-requires-clause-modulus c = room_modulus c.requires.room

pub split-requires-clause-clear : goal.split-requires-clause-clear
split-requires-clause-clear c = room_clear c.requires.room c.order.result.now c.order.ensures.columns

pub split-requires-clause-none : goal.split-requires-clause-none
split-requires-clause-none c = c.requires.room.zero

pub split-requires-clause-distinct : goal.split-requires-clause-distinct
split-requires-clause-distinct c = rw c.order.ensures.columns c.order.ensures.placed.distinct

pub split-requires-clause-below : goal.split-requires-clause-below
split-requires-clause-below c = rw c.order.ensures.columns c.requires.below

pub eliminate-requires-clause-sums : goal.eliminate-requires-clause-sums
eliminate-requires-clause-sums c = split_sums c.requires.room c.order.result.now c.order.ensures.columns c.split.new.sums c.split.ensures.sums.0 c.split.ensures.vector

pub eliminate-requires-clause-modulus : goal.eliminate-requires-clause-modulus
eliminate-requires-clause-modulus c = ap (λ (r : ResidueRow). r.modulus) c.requires.coefficients ∙ c.requires.room.modulus

pub eliminate-requires-clause-none : goal.eliminate-requires-clause-none
eliminate-requires-clause-none c = ap (λ (r : ResidueRow). r.row) c.requires.coefficients

pub join-requires-clause-vector : goal.join-requires-clause-vector
join-requires-clause-vector c = rw (c.eliminate.ensures.sums.modulus, c.order-2.ensures.columns) c.eliminate.ensures.sums.vector

pub join-requires-clause-alike : goal.join-requires-clause-alike
join-requires-clause-alike c = (ap (λ (r : ResidueRow). r.modulus) c.requires.rest ∙ sym c.split.ensures.passed.0, zeros_long (length c.args.passed.now.row) c.requires.rest ∙ sym c.split.ensures.passed.1)

pub join-requires-clause-modulus : goal.join-requires-clause-modulus
join-requires-clause-modulus c = c.eliminate.ensures.sums.modulus ∙ sym (ap (λ (r : ResidueRow). r.modulus) c.requires.rest ∙ c.requires.room.modulus)

pub join-requires-clause-none : goal.join-requires-clause-none
join-requires-clause-none c = zeros_row (length c.args.passed.now.row) c.requires.rest

pub join-requires-clause-distinct : goal.join-requires-clause-distinct
join-requires-clause-distinct c = rw c.order-2.ensures.columns c.order-2.ensures.placed.distinct

pub join-requires-clause-below : goal.join-requires-clause-below
join-requires-clause-below c = rw (zeros_long (length c.args.passed.now.row) c.requires.rest, c.order-2.ensures.columns) c.requires.below

pub join-requires-clause-parts : goal.join-requires-clause-parts
join-requires-clause-parts c =
    subst (λ (xs : List ℕ). AreDisjointParts xs c.eliminate.new.sums.row c.split.new.passed.row) (sym c.order-2.ensures.columns)
    (disjoint_parts c.order.ensures.placed c.eliminate.new.sums.row c.in_ok-eliminate.ensures.zero
    (subst (λ (xs : List ℕ). IsSplitRow xs (spread (length c.args.passed.now.row) c.args.row.cols.now c.args.row.vals.now) c.split.new.sums.row c.split.new.passed.row) c.order.ensures.columns c.in_ok-split.ensures.split))

pub returns-clause-passed : goal.returns-clause-passed
returns-clause-passed c = c.split.ensures.passed

pub returns-clause-rest : goal.returns-clause-rest
returns-clause-rest c = c.join.ensures.rest

pub returns-clause-coefficients : goal.returns-clause-coefficients
returns-clause-coefficients c = c.eliminate.ensures.coefficients

pub returns-clause-reduced : goal.returns-clause-reduced
returns-clause-reduced c = reduced_parts c.order.ensures.placed
    (subst (λ (xs : List ℕ). IsSplitRow xs (spread (length c.args.passed.now.row) c.args.row.cols.now c.args.row.vals.now) c.split.new.sums.row c.split.new.passed.row) c.order.ensures.columns c.in_ok-split.ensures.split)
    c.in_ok-eliminate.ensures.ok c.in_ok-eliminate.ensures.zero
    (subst (λ (xs : List ℕ). IsSplitRow xs c.join.new.rest.row c.eliminate.new.sums.row c.split.new.passed.row) c.order-2.ensures.columns c.in_ok-join.ensures.joined)
    (left_vector c.args.row.cols.now c.args.row.vals.now (c.join.ensures.rest.1 ∙ zeros_long (length c.args.passed.now.row) c.requires.rest)
    (c.join.ensures.rest.0 ∙ ap (λ (r : ResidueRow). r.modulus) c.requires.rest ∙ c.requires.room.modulus) c.is_sound.ensures.entries)
