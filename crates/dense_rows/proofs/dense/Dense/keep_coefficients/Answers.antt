use Rattle.std.proofs.Common.{◌<◌, arith}
use Rattle.dense_rows.proofs.Dividing.{kept_alone}
use Rattle.dense_rows.proofs.dense.Dense.keep_coefficients.Goals as goal

pub clear_behind-requires-clause-some : goal.clear_behind-requires-clause-some
clear_behind-requires-clause-some g c κs within = omega (arith, c.requires.residues.residues c.args.c c.requires.first.inside)

pub returns-else-has_pivot : goal.returns-else-has_pivot
returns-else-has_pivot g c =
    let pos : 0 < c.args.p.now = omega (arith, c.requires.residues.residues c.args.c c.requires.first.inside) in
    kept_alone pos c.requires.residues c.requires.first (c.has_pivot.ensures c.if-has_pivot.false) c.clear_behind.ensures
