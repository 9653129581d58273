use Rattle.std.proofs.Common.{◌-◌, ◌%◌, ◌∙◌, ap, arith}
use Rattle.triangular_solve.proofs.StoredScattered.{adds_times}
use Rattle.triangular_solve.proofs.flat_rows.FlatRows.come_in.Goals as goal

pub returns : goal.returns
returns c = record {
  other = λ high. absurd (omega arith);
  pivotal = λ low. adds_times c.in_ok-add_multiple.ensures (c.taking_away-by.ensures.factor ∙ ap (λ m. (m - c.args.value) % m) c.requires.modulus) c.taking_away-by.ensures.row c.requires.width;
}
