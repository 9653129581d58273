use Rattle.std.proofs.Common.{arith, subst}
use Rattle.residue_words.specs.Matrix.{IsMatrix}
use Rattle.sparse_rows.specs.Rows.{ResidueMatrix}
use Rattle.sparse_rows.proofs.Expanding.{placed_small, placed_sound}
use Rattle.sparse_rows.proofs.rows.Rows.height.Goals as goal

pub returns-clause-sound : goal.returns-clause-sound
returns-clause-sound c =
    subst (λ (m : ResidueMatrix). IsMatrix m.modulus m.matrix) c.self.view_is
    (placed_sound c.self.inside.every_row _ _ _ (omega (arith, c.modulus.ensures.two_or_more)) c.modulus.ensures.sound c.self.invariant)

pub returns-clause-bound : goal.returns-clause-bound
returns-clause-bound c = placed_small c.self.inside.every_row _ _ _ c.self.invariant
