use Rattle.std.proofs.Common.{ℕ, List, ◌<◌, get_or, subst}
use Rattle.std.proofs.lemmas.List.{map-id}
use Rattle.dense_rows.proofs.residue.U32Residue.add_multiple.Goals as goal

pub axpy_narrow-requires-clause-out_residues : goal.axpy_narrow-requires-clause-out_residues
axpy_narrow-requires-clause-out_residues c = λ k l. subst (λ (v : List ℕ). get_or v k 0 < c.args.p.now) (map-id c.args.out.now) (c.requires.out_residues k l)

pub axpy_narrow-requires-clause-residues : goal.axpy_narrow-requires-clause-residues
axpy_narrow-requires-clause-residues c = λ k l. subst (λ (v : List ℕ). get_or v k 0 < c.args.p.now) (map-id c.args.y.now) (c.requires.residues k l)
