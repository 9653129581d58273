use Rattle.std.proofs.Common.{◌≡◌, ◌≤◌, ◌-◌}
use Rattle.sparse_rows.specs.Rows.{above, first_rows}
use Rattle.sparse_rows.proofs.rows.Rows.append_filled.Given as goal

abbrev pub invariant-loop-i : goal.invariant-loop-i
invariant-loop-i l = record {
  low : l.next ≤ l.from.matrix.height;
  modulus : l.self.modulus ≡ l.fn.self.modulus;
  stacked : l.self.matrix ≡ above l.fn.self.matrix (first_rows l.next l.from.matrix);
}

abbrev pub decreases-loop-i : goal.decreases-loop-i
decreases-loop-i l = l.from.matrix.height - l.next
