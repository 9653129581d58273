use Rattle.std.proofs.Common.{◌≡◌}
use Rattle.echelon_form.specs.Settling.{AreSettled}
use Rattle.echelon_form.proofs.settle.merged.Given as goal

abbrev pub invariant-loop-t : goal.invariant-loop-t
invariant-loop-t l = record {
  modulus : l.rows.modulus ≡ l.kept.modulus;
  settled : AreSettled l.kept l.order l.t l.rows.matrix;
}
