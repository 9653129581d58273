use Rattle.dense_rows.proofs.Vectors.{lane_of_residues}
use Rattle.dense_rows.proofs.multiplier.residues.Goals as goal

pub returns : goal.returns
returns c = λ k l. lane_of_residues 8 c.args.p c.args.x k c.fits-x.0 l c.requires.in_range (c.requires.lanes k l)
