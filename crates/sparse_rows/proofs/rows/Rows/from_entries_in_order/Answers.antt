use Rattle.std.proofs.Common.{◌≡◌, ◌∙◌, List, map}
use Rattle.matrix_cells.specs.declared.values_at_places.Cell.{Cell}
use Rattle.matrix_cells.specs.Cells.{column_of, listed_cells}
use Rattle.sparse_rows.proofs.Cuts.{cells_matrix, cells_stored}
use Rattle.sparse_rows.proofs.InLists.{built_listed, columns_listed, cuts_listed, entries_listed, rows_ascend, values_listed, within_listed}
use Rattle.sparse_rows.proofs.rows.Rows.from_entries_in_order.Goals as goal

pub from_cells-requires-clause-within : goal.from_cells-requires-clause-within
from_cells-requires-clause-within c =
    let a = c.args in
    let s = c.requires in
    rw (c.deref.ensures.value, c.in_ok-cells.ensures) (within_listed a.rows.now a.columns.now a.values.now a.p a.m a.n s.columns s.values s.width s.inside s.positive s.order)

pub from_cells-requires-clause-entries : goal.from_cells-requires-clause-entries
from_cells-requires-clause-entries c =
    let a = c.args in
    let s = c.requires in
    rw (c.deref.ensures.value, c.in_ok-cells.ensures) (entries_listed a.rows.now a.columns.now a.values.now a.p a.m a.n s.columns s.values s.width s.inside s.positive s.order)

pub returns-then-not-stores_every_row-clause-matrix : goal.returns-then-not-stores_every_row-clause-matrix
returns-then-not-stores_every_row-clause-matrix c =
    let a = c.args in
    let s = c.requires in
    rw (built_listed a.rows.now a.columns.now a.values.now a.p a.m a.n s.columns s.values s.width s.inside s.positive s.order)
    at (rw (c.deref.ensures.value, c.in_ok-cells.ensures) at c.from_cells.ensures.matrix)

pub starts_of-requires-clause-ascending : goal.starts_of-requires-clause-ascending
starts_of-requires-clause-ascending c =
    let a = c.args in
    let s = c.requires in
    rows_ascend a.rows.now a.columns.now a.values.now a.p a.m a.n s.columns s.values s.width s.inside s.positive s.order

pub of_parts-requires : goal.of_parts-requires
of_parts-requires c =
    let a = c.args in
    let s = c.requires in
    let cells : List Cell = listed_cells a.rows.now a.columns.now a.values.now in
    let columns : c.in_ok-from_slice.field-0.items ≡ map column_of cells =
    c.in_ok-from_slice.ensures.items ∙ columns_listed a.rows.now a.columns.now a.values.now a.p a.m a.n s.columns s.values s.width s.inside s.positive s.order in
    let values : c.in_ok-from_slice-2.field-0.items ≡ map (λ t. t.val) cells =
    c.in_ok-from_slice-2.ensures.items ∙ values_listed a.rows.now a.columns.now a.values.now a.p a.m a.n s.columns s.values s.width s.inside s.positive s.order in
    rw (columns, values) (cells_stored a.p a.m a.n cells c.in_ok-starts_of.field-0.items
    (cuts_listed a.rows.now a.columns.now a.values.now a.p a.m a.n s.columns s.values s.width s.inside s.positive s.order c.in_ok-starts_of.field-0.items c.in_ok-starts_of.ensures)
    (entries_listed a.rows.now a.columns.now a.values.now a.p a.m a.n s.columns s.values s.width s.inside s.positive s.order)
    (within_listed a.rows.now a.columns.now a.values.now a.p a.m a.n s.columns s.values s.width s.inside s.positive s.order)
    record { place = 0; val = 0 } s.height s.width c.is_sound.ensures.two_or_more c.is_sound.ensures.in_range)

pub returns-clause-matrix : goal.returns-clause-matrix
returns-clause-matrix c =
    let a = c.args in
    let s = c.requires in
    let cells : List Cell = listed_cells a.rows.now a.columns.now a.values.now in
    let columns : c.in_ok-from_slice.field-0.items ≡ map column_of cells =
    c.in_ok-from_slice.ensures.items ∙ columns_listed a.rows.now a.columns.now a.values.now a.p a.m a.n s.columns s.values s.width s.inside s.positive s.order in
    let values : c.in_ok-from_slice-2.field-0.items ≡ map (λ t. t.val) cells =
    c.in_ok-from_slice-2.ensures.items ∙ values_listed a.rows.now a.columns.now a.values.now a.p a.m a.n s.columns s.values s.width s.inside s.positive s.order in
    c.of_parts.ensures.matrix ∙ rw (columns, values) (cells_matrix a.p a.m a.n cells c.in_ok-starts_of.field-0.items
    (cuts_listed a.rows.now a.columns.now a.values.now a.p a.m a.n s.columns s.values s.width s.inside s.positive s.order c.in_ok-starts_of.field-0.items c.in_ok-starts_of.ensures)
    (entries_listed a.rows.now a.columns.now a.values.now a.p a.m a.n s.columns s.values s.width s.inside s.positive s.order)
    (within_listed a.rows.now a.columns.now a.values.now a.p a.m a.n s.columns s.values s.width s.inside s.positive s.order)
    record { place = 0; val = 0 } s.width)
    ∙ built_listed a.rows.now a.columns.now a.values.now a.p a.m a.n s.columns s.values s.width s.inside s.positive s.order

pub listed-requires-clause-columns : goal.listed-requires-clause-columns
listed-requires-clause-columns c = c.requires.columns

pub listed-requires-clause-values : goal.listed-requires-clause-values
listed-requires-clause-values c = c.requires.values

pub from_cells-requires-clause-height_small : goal.from_cells-requires-clause-height_small
from_cells-requires-clause-height_small c = c.requires.height

pub from_cells-requires-clause-width_small : goal.from_cells-requires-clause-width_small
from_cells-requires-clause-width_small c = c.requires.width

pub returns-then-not-stores_every_row-clause-modulus : goal.returns-then-not-stores_every_row-clause-modulus
returns-then-not-stores_every_row-clause-modulus c = c.from_cells.ensures.modulus

pub starts_of-requires-clause-below : goal.starts_of-requires-clause-below
starts_of-requires-clause-below c = λ k l. (c.requires.inside k l).row

pub returns-clause-modulus : goal.returns-clause-modulus
returns-clause-modulus c = c.of_parts.ensures.modulus
