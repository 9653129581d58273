use Rattle.std.proofs.Common.{◌∙◌, ap, arith, length, subst, sym}
use Rattle.residue_words.specs.Matrix.{IsVector}
use Rattle.sparse_rows.specs.Rows.{ResidueRow}
use Rattle.sparse_rows.proofs.Spread.{length_spread, spread_vector}
use Rattle.sparse_rows.proofs.sparse.Sparse.width.Goals as goal

pub returns-clause-value : goal.returns-clause-value
returns-clause-value c = sym (length_spread _ _ _) ∙ ap (λ r. length r.row) c.self.view_is

pub returns-clause-sound : goal.returns-clause-sound
returns-clause-sound c =
    subst (λ (r : ResidueRow). IsVector r.modulus c.self.inside.width r.row) c.self.view_is (spread_vector (omega (arith, c.self.invariant.1)) c.self.invariant.0)
