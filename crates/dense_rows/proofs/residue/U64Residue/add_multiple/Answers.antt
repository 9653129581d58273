use Rattle.std.proofs.Common.{ℕ, List, ◌<◌, get_or, subst}
use Rattle.std.proofs.lemmas.List.{map-id}
use Rattle.dense_rows.proofs.residue.U64Residue.add_multiple.Goals as goal

pub axpy-requires-clause-out_residues : goal.axpy-requires-clause-out_residues
axpy-requires-clause-out_residues c = λ k l. subst (λ (v : List ℕ). get_or v k 0 < c.args.p.now) (map-id c.args.out.now) (c.requires.out_residues k l)

pub axpy-requires-clause-residues : goal.axpy-requires-clause-residues
axpy-requires-clause-residues c = λ k l. subst (λ (v : List ℕ). get_or v k 0 < c.args.p.now) (map-id c.args.y.now) (c.requires.residues k l)
