use Rattle.std.proofs.Common.{◌∙◌, ap, subst, sym}
use Rattle.sparse_rows.specs.Rows.{AreEnoughInSomeOrder, ResidueMatrix, selected, transposed}
use Rattle.column_lists.specs.Parts.{AreBegun}
use Rattle.sparse_rows.proofs.FilledRows.{columns_enough}
use Rattle.sparse_rows.proofs.Transposed.{begun_stored, columns_below}
use Rattle.sparse_rows.proofs.stored_rows.StoredRows.transpose_select.Goals as goal

pub starts_in_order-requires-clause-columns : goal.starts_in_order-requires-clause-columns
starts_in_order-requires-clause-columns c = rw c.deref.ensures.value (columns_below c.self.invariant)

pub starts_in_order-requires-clause-among : goal.starts_in_order-requires-clause-among
starts_in_order-requires-clause-among c =
    rw c.deref.ensures.value (columns_enough c.self.invariant c.args.columns.now
    (subst (λ (m : ResidueMatrix). AreEnoughInSomeOrder m.matrix c.args.columns.now) (sym c.self.view_is) c.requires.columns).all)

pub invariant_of-result : goal.invariant_of-result
invariant_of-result c = (begun_stored c.self.inside.modulus c.self.inside.width c.height.result c.self.inside.starts.items c.self.inside.cols.items c.self.inside.vals.items
    c.deref-2.result.now c.deref-3.result.now c.deref-4.result.now c.args.columns.now _ _ _ _ _ c.self.invariant (c.height.ensures.value ∙ sym (ap (λ m. m.matrix.height) c.self.view_is))
    c.deref-2.ensures.value c.deref-3.ensures.value c.deref-4.ensures.value c.requires.many
    (subst (λ (m : ResidueMatrix). AreEnoughInSomeOrder m.matrix c.args.columns.now) (sym c.self.view_is) c.requires.columns).below
    (subst (λ t. AreBegun c.args.columns.now t c.in_ok-parts.parts.starts.items c.in_ok-parts.parts.next.items) c.deref.ensures.value c.in_ok-parts.ensures)
    c.in_ok-turned.ensures.starts c.in_ok-turned.ensures.rows c.in_ok-turned.ensures.vals c.in_ok-turned.ensures.rows_length c.in_ok-turned.ensures.vals_length).0

pub returns-clause-matrix : goal.returns-clause-matrix
returns-clause-matrix c = (begun_stored c.self.inside.modulus c.self.inside.width c.height.result c.self.inside.starts.items c.self.inside.cols.items c.self.inside.vals.items
    c.deref-2.result.now c.deref-3.result.now c.deref-4.result.now c.args.columns.now _ _ _ _ _ c.self.invariant (c.height.ensures.value ∙ sym (ap (λ m. m.matrix.height) c.self.view_is))
    c.deref-2.ensures.value c.deref-3.ensures.value c.deref-4.ensures.value c.requires.many
    (subst (λ (m : ResidueMatrix). AreEnoughInSomeOrder m.matrix c.args.columns.now) (sym c.self.view_is) c.requires.columns).below
    (subst (λ t. AreBegun c.args.columns.now t c.in_ok-parts.parts.starts.items c.in_ok-parts.parts.next.items) c.deref.ensures.value c.in_ok-parts.ensures)
    c.in_ok-turned.ensures.starts c.in_ok-turned.ensures.rows c.in_ok-turned.ensures.vals c.in_ok-turned.ensures.rows_length c.in_ok-turned.ensures.vals_length).1
    ∙ ap (λ m. selected (transposed m.matrix) c.args.columns.now) c.self.view_is
