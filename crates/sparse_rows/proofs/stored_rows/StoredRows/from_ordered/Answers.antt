use Rattle.matrix_cells.specs.declared.values_at_places.Cell.{Cell}
use Rattle.sparse_rows.proofs.Cuts.{cells_matrix, cells_stored}
use Rattle.sparse_rows.proofs.stored_rows.StoredRows.from_ordered.Goals as goal

-- a cell
abbrev some : Cell
some = record { place = 0; val = 0 }

pub invariant_of-result : goal.invariant_of-result
invariant_of-result c =
    rw (c.in_ok-parts.ensures.cols, c.in_ok-parts.ensures.vals)
    (cells_stored _ _ _ _ _ c.in_ok-parts.ensures.starts c.requires.entries c.requires.within some c.requires.height_small c.requires.width_small
    c.is_sound.ensures.two_or_more c.is_sound.ensures.in_range)

pub returns-clause-matrix : goal.returns-clause-matrix
returns-clause-matrix c =
    rw (c.in_ok-parts.ensures.cols, c.in_ok-parts.ensures.vals)
    (cells_matrix _ _ _ _ _ c.in_ok-parts.ensures.starts c.requires.entries c.requires.within some c.requires.width_small)
