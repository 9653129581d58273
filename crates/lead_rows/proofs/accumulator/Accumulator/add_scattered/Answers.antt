use Rattle.std.proofs.Common.{length, arith, subst}
use Rattle.residue_words.specs.Matrix.{IsVector}
use Rattle.sparse_rows.specs.Rows.{ResidueRow}
use Rattle.lead_rows.proofs.Accumulating.{residues_vector}
use Rattle.lead_rows.proofs.accumulator.Accumulator.add_scattered.Goals as goal

pub add_products-requires-clause-residues : goal.add_products-requires-clause-residues
add_products-requires-clause-residues c =
    subst (λ (r : ResidueRow). IsVector r.modulus (length r.row) r.row) c.self.view_is (residues_vector c.self.inside.modulus c.self.inside.sums.items (omega (arith, c.self.invariant.limited.two_or_more)))

pub add_residues-requires-clause-residues : goal.add_residues-requires-clause-residues
add_residues-requires-clause-residues c =
    subst (λ (r : ResidueRow). IsVector r.modulus (length r.row) r.row) c.self.view_is (residues_vector c.self.inside.modulus c.self.inside.sums.items (omega (arith, c.self.invariant.limited.two_or_more)))
