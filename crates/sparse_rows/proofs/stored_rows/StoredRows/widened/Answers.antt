use Rattle.std.proofs.Common.{◌∙◌, ap, arith, map, slice_index}
use Rattle.sparse_rows.specs.Rows.{widened}
use Rattle.sparse_rows.proofs.Renaming.{widened_stored}
use Rattle.sparse_rows.proofs.Transposed.{columns_below}
use Rattle.sparse_rows.proofs.stored_rows.StoredRows.widened.Goals as goal

pub named_columns-requires : goal.named_columns-requires
named_columns-requires c =
    rw c.deref-2.ensures.value (λ k l. omega (arith, columns_below c.self.invariant k l, c.requires.many, ap (λ m. m.matrix.width) c.self.view_is))

pub invariant_of-result : goal.invariant_of-result
invariant_of-result c =
    (widened_stored _ _ _ c.args.columns.now _ _ _ _ _ _ c.requires.rising c.requires.below c.requires.width c.self.invariant
    (omega (arith, c.requires.many, ap (λ m. m.matrix.width) c.self.view_is))
    (c.in_ok-from_slice.ensures.items ∙ c.deref.ensures.value) (c.in_ok-named_columns.ensures ∙ ap (map (slice_index c.args.columns.now)) c.deref-2.ensures.value) (c.in_ok-from_slice-2.ensures.items ∙ c.deref-3.ensures.value)).0

pub returns-clause-matrix : goal.returns-clause-matrix
returns-clause-matrix c =
    (widened_stored _ _ _ c.args.columns.now _ _ _ _ _ _ c.requires.rising c.requires.below c.requires.width c.self.invariant
    (omega (arith, c.requires.many, ap (λ m. m.matrix.width) c.self.view_is))
    (c.in_ok-from_slice.ensures.items ∙ c.deref.ensures.value) (c.in_ok-named_columns.ensures ∙ ap (map (slice_index c.args.columns.now)) c.deref-2.ensures.value) (c.in_ok-from_slice-2.ensures.items ∙ c.deref-3.ensures.value)).1
    ∙ ap (λ m. widened m.matrix c.args.width c.args.columns.now) c.self.view_is
