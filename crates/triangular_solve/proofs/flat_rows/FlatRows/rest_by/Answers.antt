use Rattle.std.proofs.Common.{ℕ, ◌∙◌, List, length, ap, subst, sym}
use Rattle.sparse_rows.specs.Rows.{ResidueRow}
use Rattle.triangular_solve.specs.PivotRows.{AreDisjointParts, IsSplitRow}
use Rattle.triangular_solve.proofs.Rooms.{disjoint_parts, zeros_long, zeros_row}
use Rattle.triangular_solve.proofs.TakenRows.{left_parts, left_vector}
use Rattle.triangular_solve.proofs.flat_rows.FlatRows.rest_by.Goals as goal

pub returns-clause-left : goal.returns-clause-left
returns-clause-left c = left_parts c.order.ensures.placed c.in_ok-take_row.ensures.taken
    (subst (λ xs. IsSplitRow xs c.join.new.rest.row c.take_row.new.sums.row c.take_row.new.passed.row) c.order.ensures.columns c.in_ok-join.ensures.joined)
    (left_vector c.args.row.cols.now c.args.row.vals.now (c.in_ok-join.ensures.rest.1 ∙ zeros_long (length c.args.passed.now.row) c.requires.rest)
    (c.in_ok-join.ensures.rest.0 ∙ ap (λ (r : ResidueRow). r.modulus) c.requires.rest ∙ c.requires.room.modulus) c.is_sound.ensures.entries)

pub take_row-requires-clause-flat : goal.take_row-requires-clause-flat
take_row-requires-clause-flat c = c.requires.flat

pub take_row-requires-clause-row : goal.take_row-requires-clause-row
take_row-requires-clause-row c = c.requires.row

pub take_row-requires-clause-room : goal.take_row-requires-clause-room
take_row-requires-clause-room c = c.requires.room

pub take_row-requires-clause-below : goal.take_row-requires-clause-below
take_row-requires-clause-below c = c.requires.below

pub join-requires-clause-alike : goal.join-requires-clause-alike
join-requires-clause-alike c = (ap (λ (r : ResidueRow). r.modulus) c.requires.rest ∙ sym c.take_row.ensures.passed.0, zeros_long (length c.args.passed.now.row) c.requires.rest ∙ sym c.take_row.ensures.passed.1)

pub join-requires-clause-modulus : goal.join-requires-clause-modulus
join-requires-clause-modulus c = c.take_row.ensures.sums.0 ∙ ap (λ (r : ResidueRow). r.modulus) c.requires.room.clear ∙ sym (ap (λ (r : ResidueRow). r.modulus) c.requires.rest ∙ c.requires.room.modulus)

pub join-requires-clause-none : goal.join-requires-clause-none
join-requires-clause-none c = zeros_row (length c.args.passed.now.row) c.requires.rest

pub join-requires-clause-distinct : goal.join-requires-clause-distinct
join-requires-clause-distinct c = rw c.order.ensures.columns c.order.ensures.placed.distinct

pub join-requires-clause-below : goal.join-requires-clause-below
join-requires-clause-below c = rw (zeros_long (length c.args.passed.now.row) c.requires.rest, c.order.ensures.columns) c.requires.below

pub join-requires-clause-parts : goal.join-requires-clause-parts
join-requires-clause-parts c =
    subst (λ (xs : List ℕ). AreDisjointParts xs c.take_row.new.sums.row c.take_row.new.passed.row) (sym c.order.ensures.columns)
    (disjoint_parts c.order.ensures.placed c.take_row.new.sums.row c.in_ok-take_row.ensures.taken.flattened.zero c.in_ok-take_row.ensures.taken.split)

pub returns-clause-passed : goal.returns-clause-passed
returns-clause-passed c = c.take_row.ensures.passed

pub returns-clause-rest : goal.returns-clause-rest
returns-clause-rest c = c.join.ensures.rest

pub returns-clause-sums : goal.returns-clause-sums
returns-clause-sums c = (c.join.ensures.sums.0 ∙ c.take_row.ensures.sums.0, c.join.ensures.sums.1 ∙ c.take_row.ensures.sums.1)
