use Rattle.std.proofs.Common.{◌∙◌, ap, ap₂, subst, sym}
use Rattle.sparse_rows.specs.Placed.{placed}
use Rattle.sparse_rows.specs.Rows.{AreEnough, ResidueMatrix, narrowed}
use Rattle.sparse_rows.proofs.Expanding.{placed_enough, placed_narrowed, placed_read}
use Rattle.sparse_rows.proofs.rows.Rows.narrowed.Goals as goal

pub narrowed-requires : goal.narrowed-requires
narrowed-requires c =
    placed_enough c.self.inside.every_row _ _ _ c.args.columns.now c.self.invariant (subst (λ (m : ResidueMatrix). AreEnough m.matrix c.args.columns.now) (sym c.self.view_is) c.requires)

pub invariant_of-result : goal.invariant_of-result
invariant_of-result c =
    placed_read c.self.inside.every_row c.self.inside.height _ _ _ _ (c.in_ok-from_slice.ensures.items ∙ c.deref.ensures.value) c.in_ok-narrowed.ensures.matrix
    (placed_narrowed c.self.inside.every_row _ _ _ c.args.columns.now c.modulus.ensures.sound c.self.invariant
    (placed_enough c.self.inside.every_row _ _ _ c.args.columns.now c.self.invariant (subst (λ (m : ResidueMatrix). AreEnough m.matrix c.args.columns.now) (sym c.self.view_is) c.requires))).0

pub returns-clause-matrix : goal.returns-clause-matrix
returns-clause-matrix c =
    ap₂ (placed c.self.inside.every_row c.self.inside.height) (c.in_ok-from_slice.ensures.items ∙ c.deref.ensures.value) c.in_ok-narrowed.ensures.matrix
    ∙ (placed_narrowed c.self.inside.every_row _ _ _ c.args.columns.now c.modulus.ensures.sound c.self.invariant
    (placed_enough c.self.inside.every_row _ _ _ c.args.columns.now c.self.invariant (subst (λ (m : ResidueMatrix). AreEnough m.matrix c.args.columns.now) (sym c.self.view_is) c.requires))).1
    ∙ ap (λ m. narrowed m.matrix c.args.columns.now) c.self.view_is
