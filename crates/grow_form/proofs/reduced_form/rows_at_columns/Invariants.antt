use Rattle.std.proofs.Common.{◌≡◌}
use Rattle.grow_form.proofs.ByColumns.{first_moved}
use Rattle.grow_form.proofs.reduced_form.rows_at_columns.Given as goal

abbrev pub invariant-loop-k : goal.invariant-loop-k
invariant-loop-k l = record {
  modulus : l.rows.modulus ≡ l.kept.modulus;
  matrix : l.rows.matrix ≡ first_moved l.numbering l.settled.matrix l.k;
}
