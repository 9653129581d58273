use Rattle.std.proofs.Common.{ap, length, subst, sym}
use Rattle.sparse_rows.specs.Rows.{ResidueRow}
use Rattle.sparse_rows.specs.Stored.{IsSparse}
use Rattle.triangular_solve.proofs.Rooms.{room_clear, room_modulus, split_sums}
use Rattle.triangular_solve.proofs.work.count_by.Goals as goal

pub split-requires-clause-row : goal.split-requires-clause-row
split-requires-clause-row c = subst (λ m. IsSparse m (length c.args.passed.now.row) c.args.row.cols.now c.args.row.vals.now) (sym (ap (λ (r : ResidueRow). r.modulus) c.requires.room.clear)) c.requires.row

pub split-requires-clause-modulus : goal.split-requires-clause-modulus
split-requires-clause-modulus c = room_modulus c.requires.room

pub split-requires-clause-clear : goal.split-requires-clause-clear
split-requires-clause-clear c = room_clear c.requires.room c.order.result.now c.order.ensures.columns

pub split-requires-clause-none : goal.split-requires-clause-none
split-requires-clause-none c = c.requires.room.zero

pub split-requires-clause-distinct : goal.split-requires-clause-distinct
split-requires-clause-distinct c = rw c.order.ensures.columns c.order.ensures.placed.distinct

pub split-requires-clause-below : goal.split-requires-clause-below
split-requires-clause-below c = rw c.order.ensures.columns c.requires.below

pub count_walk-met-requires : goal.count_walk-met-requires
count_walk-met-requires c = record { sums = split_sums c.requires.room c.order.result.now c.order.ensures.columns c.split.new.sums c.split.ensures.sums.0 c.split.ensures.vector }

pub returns-clause-passed : goal.returns-clause-passed
returns-clause-passed c = c.split.ensures.passed
