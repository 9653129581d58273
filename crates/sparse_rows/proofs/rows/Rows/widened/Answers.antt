use Rattle.std.proofs.Common.{◌∙◌, ap, ap₂, sym}
use Rattle.sparse_rows.specs.Placed.{placed}
use Rattle.sparse_rows.specs.Rows.{widened}
use Rattle.sparse_rows.proofs.Expanding.{placed_widened, placed_read, placed_width}
use Rattle.sparse_rows.proofs.rows.Rows.widened.Goals as goal

pub widened-requires-clause-many : goal.widened-requires-clause-many
widened-requires-clause-many c = c.requires.many ∙ ap (λ m. m.matrix.width) (sym c.self.view_is) ∙ placed_width c.self.inside.every_row _ _ _

pub invariant_of-result : goal.invariant_of-result
invariant_of-result c =
    placed_read c.self.inside.every_row c.self.inside.height _ _ _ _ (c.in_ok-from_slice.ensures.items ∙ c.deref.ensures.value) c.in_ok-widened.ensures.matrix
    (placed_widened c.self.inside.every_row _ _ _ c.args.width c.args.columns.now c.modulus.ensures.sound c.self.invariant
    (c.requires.many ∙ ap (λ m. m.matrix.width) (sym c.self.view_is) ∙ placed_width c.self.inside.every_row _ _ _) c.requires.rising c.requires.below).0

pub returns-clause-matrix : goal.returns-clause-matrix
returns-clause-matrix c =
    ap₂ (placed c.self.inside.every_row c.self.inside.height) (c.in_ok-from_slice.ensures.items ∙ c.deref.ensures.value) c.in_ok-widened.ensures.matrix
    ∙ (placed_widened c.self.inside.every_row _ _ _ c.args.width c.args.columns.now c.modulus.ensures.sound c.self.invariant
    (c.requires.many ∙ ap (λ m. m.matrix.width) (sym c.self.view_is) ∙ placed_width c.self.inside.every_row _ _ _) c.requires.rising c.requires.below).1
    ∙ ap (λ m. widened m.matrix c.args.width c.args.columns.now) c.self.view_is
