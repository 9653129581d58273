use Rattle.std.proofs.Common.{◌∙◌, ap, subst, sym}
use Rattle.std.specs.List.{range_with_len}
use Rattle.sparse_rows.specs.Rows.{transposed}
use Rattle.column_lists.specs.Parts.{AreBegun}
use Rattle.sparse_rows.proofs.Transposed.{all_begun_stored, columns_below}
use Rattle.sparse_rows.proofs.stored_rows.StoredRows.transpose.Goals as goal

pub all_starts-requires : goal.all_starts-requires
all_starts-requires c = rw c.deref.ensures.value (columns_below c.self.invariant)

pub invariant_of-result : goal.invariant_of-result
invariant_of-result c = (all_begun_stored c.self.inside.modulus c.self.inside.width c.height.result c.self.inside.starts.items c.self.inside.cols.items c.self.inside.vals.items
    c.deref-2.result.now c.deref-3.result.now c.deref-4.result.now _ _ _ _ _ c.self.invariant (c.height.ensures.value ∙ sym (ap (λ m. m.matrix.height) c.self.view_is))
    c.deref-2.ensures.value c.deref-3.ensures.value c.deref-4.ensures.value
    (subst (λ t. AreBegun (range_with_len 0 c.self.inside.width) t c.in_ok-parts.parts.starts.items c.in_ok-parts.parts.next.items) c.deref.ensures.value c.in_ok-parts.ensures)
    c.in_ok-turned.ensures.starts c.in_ok-turned.ensures.rows c.in_ok-turned.ensures.vals c.in_ok-turned.ensures.rows_length c.in_ok-turned.ensures.vals_length).0

pub returns-clause-matrix : goal.returns-clause-matrix
returns-clause-matrix c = (all_begun_stored c.self.inside.modulus c.self.inside.width c.height.result c.self.inside.starts.items c.self.inside.cols.items c.self.inside.vals.items
    c.deref-2.result.now c.deref-3.result.now c.deref-4.result.now _ _ _ _ _ c.self.invariant (c.height.ensures.value ∙ sym (ap (λ m. m.matrix.height) c.self.view_is))
    c.deref-2.ensures.value c.deref-3.ensures.value c.deref-4.ensures.value
    (subst (λ t. AreBegun (range_with_len 0 c.self.inside.width) t c.in_ok-parts.parts.starts.items c.in_ok-parts.parts.next.items) c.deref.ensures.value c.in_ok-parts.ensures)
    c.in_ok-turned.ensures.starts c.in_ok-turned.ensures.rows c.in_ok-turned.ensures.vals c.in_ok-turned.ensures.rows_length c.in_ok-turned.ensures.vals_length).1
    ∙ ap (λ m. transposed m.matrix) c.self.view_is
