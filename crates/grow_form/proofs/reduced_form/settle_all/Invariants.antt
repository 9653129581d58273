use Rattle.std.proofs.Common.{◌≡◌}
use Rattle.lead_rows.specs.Accumulator.{IsClear}
use Rattle.echelon_form.specs.Settling.{AreSettled}
use Rattle.grow_form.proofs.reduced_form.settle_all.Given as goal

abbrev pub invariant-loop-t : goal.invariant-loop-t
invariant-loop-t l = record {
  modulus : l.rows.modulus ≡ l.kept.modulus;
  settled : AreSettled l.kept l.order l.t l.rows.matrix;
  clear : IsClear l.kept.modulus l.kept.matrix.width l.accumulator;
}
