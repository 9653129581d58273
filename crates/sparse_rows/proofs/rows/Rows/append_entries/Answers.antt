use Rattle.std.proofs.Common.{◌∙◌, ◌++◌, [], ◌∷◌, ap, arith, sym}
use Rattle.sparse_rows.proofs.Expanding.{empty_length, filled_length, listed_few, listed_push, listed_skip, placed_height, placed_width}
use Rattle.sparse_rows.proofs.rows.Rows.append_entries.Goals as goal

pub returns-then-is_empty-clause-matrix : goal.returns-then-is_empty-clause-matrix
returns-then-is_empty-clause-matrix c =
    listed_skip c.self.inside.every_row _ _ _ _ c.if-self.false c.self.invariant (ap (λ m. m.matrix) c.self.view_is) c.args.cols.now c.args.vals.now (empty_length _ _ c.is_empty.ensures c.if-is_empty.true)

pub append_slices-requires-2-clause-height_small : goal.append_slices-requires-2-clause-height_small
append_slices-requires-2-clause-height_small c =
    omega (arith, listed_few c.self.inside.every_row _ _ _ c.if-self.false c.self.invariant, placed_height c.self.inside.every_row _ _ _ c.self.invariant, c.requires.height_small, ap (λ m. m.matrix.height) c.self.view_is)

pub invariant_of-self-2 : goal.invariant_of-self-2
invariant_of-self-2 c =
    (listed_push c.self.inside.every_row c.self.inside.height _ _ _ _ _ c.args.cols.now c.args.vals.now c.if-self.false c.modulus.ensures.sound c.self.invariant (ap (λ m. m.matrix) c.self.view_is)
    (omega (arith, placed_height c.self.inside.every_row _ _ _ c.self.invariant, c.requires.height_small, ap (λ m. m.matrix.height) c.self.view_is)) c.requires.sparse (filled_length _ _ c.is_empty.ensures c.if-is_empty.false)
    (c.in_ok-push.ensures.items ∙ ap (λ xs. xs ++ c.self.inside.height ∷ []) c.reserve.ensures.items) c.in_ok-append_slices-2.ensures.matrix).0

pub returns-clause-matrix : goal.returns-clause-matrix
returns-clause-matrix c =
    (listed_push c.self.inside.every_row c.self.inside.height _ _ _ _ _ c.args.cols.now c.args.vals.now c.if-self.false c.modulus.ensures.sound c.self.invariant (ap (λ m. m.matrix) c.self.view_is)
    (omega (arith, placed_height c.self.inside.every_row _ _ _ c.self.invariant, c.requires.height_small, ap (λ m. m.matrix.height) c.self.view_is)) c.requires.sparse (filled_length _ _ c.is_empty.ensures c.if-is_empty.false)
    (c.in_ok-push.ensures.items ∙ ap (λ xs. xs ++ c.self.inside.height ∷ []) c.reserve.ensures.items) c.in_ok-append_slices-2.ensures.matrix).1

pub append_slices-requires-clause-sparse : goal.append_slices-requires-clause-sparse
append_slices-requires-clause-sparse c =
    rw (ap (λ m. m.modulus) c.self.view_is, sym (placed_width c.self.inside.every_row c.self.inside.height c.self.inside.rows.items c.self.inside.stored.matrix) ∙ ap (λ m. m.matrix.width) c.self.view_is) c.requires.sparse

pub append_slices-requires-2-clause-sparse : goal.append_slices-requires-2-clause-sparse
append_slices-requires-2-clause-sparse c =
    rw (ap (λ m. m.modulus) c.self.view_is, sym (placed_width c.self.inside.every_row c.self.inside.height c.self.inside.rows.items c.self.inside.stored.matrix) ∙ ap (λ m. m.matrix.width) c.self.view_is) c.requires.sparse

pub returns-then-self-clause-modulus : goal.returns-then-self-clause-modulus
returns-then-self-clause-modulus c = c.append_slices.ensures.modulus ∙ ap (λ m. m.modulus) c.self.view_is

pub returns-then-is_empty-clause-modulus : goal.returns-then-is_empty-clause-modulus
returns-then-is_empty-clause-modulus c = ap (λ m. m.modulus) c.self.view_is

pub returns-clause-modulus : goal.returns-clause-modulus
returns-clause-modulus c = c.append_slices-2.ensures.modulus ∙ ap (λ m. m.modulus) c.self.view_is
