use Rattle.std.proofs.Common.{subst}
use Rattle.residue_words.specs.Matrix.{IsMatrix}
use Rattle.sparse_rows.specs.Rows.{ResidueMatrix}
use Rattle.triangular_solve.proofs.StoredScattered.{scattered_sound}
use Rattle.triangular_solve.proofs.scattered_rows.ScatteredRows.is_sound.Goals as goal

pub returns : goal.returns
returns c = subst (λ (m : ResidueMatrix). IsMatrix m.modulus m.matrix) c.self.view_is (scattered_sound c.self.invariant)
