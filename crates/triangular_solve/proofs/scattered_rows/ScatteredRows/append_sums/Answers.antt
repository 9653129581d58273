use Rattle.std.proofs.Common.{◌≡◌, ◌∙◌, [], ◌∷◌, ◌++◌, ap, ap₂, length, sym}
use Rattle.sparse_rows.specs.Rows.{ResidueMatrix}
use Rattle.sparse_rows.specs.Stored.{stored_matrix, with_row}
use Rattle.triangular_solve.specs.ScatteredRows.{AreScattered}
use Rattle.triangular_solve.proofs.StoredScattered.{scattered_appended}
use Rattle.triangular_solve.proofs.scattered_rows.ScatteredRows.append_sums.Goals as goal
use Rattle.triangular_solve.proofs.scattered_rows.ScatteredRows.append_sums.Goals.{After-push_reserved}

starts : (c : After-push_reserved) → c.push_reserved.new.self.items ≡ c.self.inside.starts.items ++ length c.drain_behind.new.cols.items ∷ []
starts c = c.push_reserved.ensures.items ∙ ap₂ (λ xs e. xs ++ e ∷ []) c.reserve.ensures.items (c.len.ensures ∙ c.drain_behind.new.cols.ok.0)

appended : (c : After-push_reserved) → AreScattered c.self.inside.modulus c.self.inside.width c.push_reserved.new.self.items c.drain_behind.new.cols.items c.drain_behind.new.vals.items
    × (stored_matrix c.self.inside.width c.push_reserved.new.self.items c.drain_behind.new.cols.items c.drain_behind.new.vals.items ≡ with_row (stored_matrix c.self.inside.width c.self.inside.starts.items c.self.inside.cols.items c.self.inside.vals.items) c.args.sums.now.row)
appended c =
    scattered_appended c.self.invariant c.in_ok-drain_behind.ensures.listed (c.requires.modulus ∙ sym (ap (λ (m : ResidueMatrix). m.modulus) c.self.view_is))
    (c.requires.width ∙ sym (ap (λ (m : ResidueMatrix). m.matrix.width) c.self.view_is)) (starts c)

pub invariant_of-self-2 : goal.invariant_of-self-2
invariant_of-self-2 c = (appended c).0

pub returns-clause-matrix : goal.returns-clause-matrix
returns-clause-matrix c = (appended c).1 ∙ ap (λ (m : ResidueMatrix). with_row m.matrix c.args.sums.now.row) c.self.view_is
