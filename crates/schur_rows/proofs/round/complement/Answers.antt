use Rattle.std.proofs.Common.{false, subst, sym}
use Rattle.residue_words.specs.Residues.{IsPrime}
use Rattle.sparse_rows.specs.Rows.{ResidueMatrix}
use Rattle.triangular_solve.specs.Reduced.{IsComplement}
use Rattle.schur_rows.specs.Round.{FitsComplement}
use Rattle.schur_rows.proofs.Whole.{whole_complement, whole_fits}
use Rattle.schur_rows.proofs.round.complement.Goals as goal

pub returns-clause-fits : goal.returns-clause-fits
returns-clause-fits g c = subst (FitsComplement c.args.reducer.now) (sym c.into_rows.ensures) (whole_fits {with_coefficients = false} {s = c.in_ok-left.left} c.in_ok-left.ensures).rest

pub returns-clause-complement : goal.returns-clause-complement
returns-clause-complement g c =
    let t = c.args.reducer.now in
    subst (λ (R : ResidueMatrix). IsPrime t.rows.modulus → IsComplement t.rows.modulus t.rows.matrix t.pairs R.matrix) (sym c.into_rows.ensures)
    (λ prime. whole_complement {t = t} {with_coefficients = false} {s = c.in_ok-left.left} c.is_sound.ensures c.in_ok-left.ensures prime)
