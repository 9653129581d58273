use Rattle.std.proofs.Common.{subst}
use Rattle.std.proofs.lemmas.Result.{IfOk-weaker}
use Rattle.sparse_rows.specs.Rows.{AreOccupied, ResidueMatrix}
use Rattle.sparse_rows.proofs.Expanding.{placed_occupied}
use Rattle.sparse_rows.proofs.rows.Rows.occupied.Goals as goal

pub returns : goal.returns
returns c =
    IfOk-weaker c.occupied.result _ _ (λ found h. subst (λ (m : ResidueMatrix). AreOccupied m.matrix found.items) c.self.view_is
    (placed_occupied c.self.inside.every_row _ _ _ found.items c.self.invariant h)) c.occupied.ensures
