use Rattle.std.proofs.Common.{subst}
use Rattle.std.proofs.lemmas.Result.{IfOk-weaker}
use Rattle.column_lists.specs.Columns.{AreOccurring}
use Rattle.sparse_rows.specs.Rows.{AreOccupied, ResidueMatrix}
use Rattle.sparse_rows.proofs.FilledRows.{occupied_stored}
use Rattle.sparse_rows.proofs.Transposed.{columns_below}
use Rattle.sparse_rows.proofs.stored_rows.StoredRows.occupied.Goals as goal

pub occurring-requires : goal.occurring-requires
occurring-requires c = rw c.deref.ensures.value (columns_below c.self.invariant)

pub returns : goal.returns
returns c =
    IfOk-weaker c.occurring.result _ _ (λ found h. subst (λ (m : ResidueMatrix). AreOccupied m.matrix found.items) c.self.view_is
    (occupied_stored c.self.invariant found.items (subst (λ xs. AreOccurring xs found.items) c.deref.ensures.value h))) c.occurring.ensures
