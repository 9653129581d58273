use Rattle.std.proofs.Common.{subst}
use Rattle.residue_words.specs.Matrix.{IsMatrix}
use Rattle.sparse_rows.specs.Rows.{ResidueMatrix}
use Rattle.sparse_rows.proofs.Stored.{stored_sound}
use Rattle.sparse_rows.proofs.stored_rows.StoredRows.height.Goals as goal

pub returns-clause-sound : goal.returns-clause-sound
returns-clause-sound c = subst (λ (m : ResidueMatrix). IsMatrix m.modulus m.matrix) c.self.view_is (stored_sound c.self.invariant)
