use Rattle.std.proofs.Common.{◌∙◌, length, ap, ap₂, sym}
use Rattle.residue_words.specs.Matrix.{Matrix, zeros}
use Rattle.sparse_rows.specs.Rows.{ResidueRow}
use Rattle.sparse_rows.proofs.Loops.{length_zeros}
use Rattle.lead_rows.proofs.Accumulating.{as_row}
use Rattle.triangular_solve.proofs.Flattening.{flat_more}
use Rattle.triangular_solve.proofs.flat_rows.FlatRows.append_row.Goals as goal

pub append_sums-requires-clause-modulus : goal.append_sums-requires-clause-modulus
append_sums-requires-clause-modulus c = c.in_ok-flatten.ensures.sums.0 ∙ ap (λ (r : ResidueRow). r.modulus) c.requires.clear ∙ sym c.requires.flat.modulus

pub append_sums-requires-clause-width : goal.append_sums-requires-clause-width
append_sums-requires-clause-width c =
    c.in_ok-flatten.ensures.sums.1 ∙ ap (λ (r : ResidueRow). length r.row) c.requires.clear ∙ length_zeros (length c.args.pivots.now.columns) ∙ sym c.requires.flat.width

pub returns-clause-flat : goal.returns-clause-flat
returns-clause-flat c = flat_more c.requires.flat c.is_sound.ensures c.requires.next c.in_ok-flatten.ensures.tail c.append_sums.ensures.modulus c.in_ok-append_sums.ensures.matrix

pub returns-clause-height : goal.returns-clause-height
returns-clause-height c = ap (λ (M : Matrix). M.height) c.in_ok-append_sums.ensures.matrix

pub returns-clause-clear : goal.returns-clause-clear
returns-clause-clear c = c.in_ok-append_sums.ensures.clear ∙ ap₂ (λ m n. as_row m (zeros n)) (c.in_ok-flatten.ensures.sums.0 ∙ ap (λ (r : ResidueRow). r.modulus) c.requires.clear)
    (c.in_ok-flatten.ensures.sums.1 ∙ ap (λ (r : ResidueRow). length r.row) c.requires.clear ∙ length_zeros (length c.args.pivots.now.columns))
