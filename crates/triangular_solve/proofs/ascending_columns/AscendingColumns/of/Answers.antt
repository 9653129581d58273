use Rattle.std.proofs.Common.{ℕ, List, ◌≤◌, length, subst, arith}
use Rattle.sparse_rows.proofs.Rising.{rising_short}
use Rattle.triangular_solve.specs.AscendingColumns.{IsTable}
use Rattle.triangular_solve.proofs.ascending_columns.AscendingColumns.of.Goals as goal
use Rattle.triangular_solve.proofs.ascending_columns.AscendingColumns.of.Goals.{then-width-len+in_ok-table_of, else-width-len}

pub invariant_of-result : goal.invariant_of-result
invariant_of-result c =
    let cols = c.args.columns.items in
    let few : length cols ≤ 2147483648 = omega (arith, rising_short cols c.args.width c.requires.rising c.requires.below, c.requires.width) in
    elim c.if-width-len.branch [
      | then-width-len+in_ok-table_of w ↦ rw w.table-is record { rising = c.requires.rising; few = few; right = subst (λ (xs : List ℕ). IsTable xs w.in_ok-table_of.field-0.items) w.deref.ensures.value w.in_ok-table_of.ensures }
      | else-width-len w ↦ rw w.table-is record { rising = c.requires.rising; few = few; right = tt }
    ]
