use Rattle.std.proofs.Common.{◌∙◌, ap, arith, subst, sym}
use Rattle.column_lists.specs.Columns.{ArePlaces}
use Rattle.sparse_rows.specs.Rows.{AreEnough, ResidueMatrix, narrowed}
use Rattle.sparse_rows.proofs.FilledRows.{columns_enough}
use Rattle.sparse_rows.proofs.Renaming.{narrowed_stored}
use Rattle.column_lists.proofs.Rising.{rising_short}
use Rattle.sparse_rows.proofs.stored_rows.StoredRows.narrowed.Goals as goal

pub overflow_cast-result : goal.overflow_cast-result
overflow_cast-result c =
    record { fits = omega (arith, rising_short c.args.columns.now c.args.self.now.matrix.width c.requires.rising c.requires.below, c.self.invariant.width_small, ap (λ m. m.matrix.width) c.self.view_is) }

pub places_among-requires-clause-few : goal.places_among-requires-clause-few
places_among-requires-clause-few c =
    omega (arith, rising_short c.args.columns.now c.args.self.now.matrix.width c.requires.rising c.requires.below, c.self.invariant.width_small, ap (λ m. m.matrix.width) c.self.view_is)

pub places_among-requires-clause-among : goal.places_among-requires-clause-among
places_among-requires-clause-among c =
    rw c.deref-2.ensures.value (columns_enough c.self.invariant c.args.columns.now (subst (λ (m : ResidueMatrix). AreEnough m.matrix c.args.columns.now) (sym c.self.view_is) c.requires).all)

pub invariant_of-result : goal.invariant_of-result
invariant_of-result c =
    (narrowed_stored _ _ c.args.columns.now _ _ _ _ _ _ (subst (λ (m : ResidueMatrix). AreEnough m.matrix c.args.columns.now) (sym c.self.view_is) c.requires) c.self.invariant
    (c.in_ok-from_slice.ensures.items ∙ c.deref.ensures.value)
    (subst (λ t. ArePlaces c.args.columns.now t c.in_ok-places_among.field-0.items) c.deref-2.ensures.value c.in_ok-places_among.ensures)
    (c.in_ok-from_slice-2.ensures.items ∙ c.deref-3.ensures.value)).0

pub returns-clause-matrix : goal.returns-clause-matrix
returns-clause-matrix c =
    (narrowed_stored _ _ c.args.columns.now _ _ _ _ _ _ (subst (λ (m : ResidueMatrix). AreEnough m.matrix c.args.columns.now) (sym c.self.view_is) c.requires) c.self.invariant
    (c.in_ok-from_slice.ensures.items ∙ c.deref.ensures.value)
    (subst (λ t. ArePlaces c.args.columns.now t c.in_ok-places_among.field-0.items) c.deref-2.ensures.value c.in_ok-places_among.ensures)
    (c.in_ok-from_slice-2.ensures.items ∙ c.deref-3.ensures.value)).1
    ∙ ap (λ m. narrowed m.matrix c.args.columns.now) c.self.view_is
