use Rattle.std.proofs.Common.{◌≡◌, ◌∙◌, ap, arith, length, subst, sym}
use Rattle.residue_words.specs.Matrix.{row}
use Rattle.column_lists.specs.Columns.{IsAbsent, IsAt}
use Rattle.sparse_rows.specs.Rows.{nonzeros, support}
use Rattle.sparse_rows.proofs.Expanding.{listed, listed_row, nonzeros_zeros, support_zeros, unlisted_row}
use Rattle.column_lists.proofs.Rising.{rising_short}
use Rattle.sparse_rows.proofs.rows.Rows.cols.Goals as goal
use Rattle.sparse_rows.proofs.rows.Rows.cols.Goals.{After-cols-in-Some}

pub place_of-requires : goal.place_of-requires
place_of-requires c = rw c.deref.ensures.value (listed c.self.inside.every_row _ _ _ c.if-self.false c.self.invariant).1.rising

pub overflow_cast-place : goal.overflow_cast-place
overflow_cast-place c =
    let l = listed c.self.inside.every_row c.self.inside.height c.self.inside.rows.items _ c.if-self.false c.self.invariant in
    record { fits = omega (arith, rising_short c.self.inside.rows.items c.self.inside.height l.1.rising l.1.below, l.0, c.in-Some.ensures.0, ap length c.deref.ensures.value) }

-- the row that is stored in the place found
there : (c : After-cols-in-Some) → row c.args.self.now.matrix c.args.i ≡ row c.self.inside.stored.matrix c.in-Some.place
there c =
    let at = subst (λ xs. IsAt xs c.args.i c.in-Some.place) c.deref.ensures.value c.in-Some.ensures in
    listed_row c.self.inside.every_row _ _ _ _ c.if-self.false c.self.invariant (ap (λ m. m.matrix) c.self.view_is) c.args.i c.in-Some.place at.0 at.1

pub returns-in-Some-clause-support : goal.returns-in-Some-clause-support
returns-in-Some-clause-support c = c.cols-in-Some.ensures.support ∙ ap support (sym (there c))

pub returns-in-Some-clause-same_length : goal.returns-in-Some-clause-same_length
returns-in-Some-clause-same_length c = c.cols-in-Some.ensures.same_length ∙ ap (λ v. length (nonzeros v)) (sym (there c))

pub returns-in-None-clause-support : goal.returns-in-None-clause-support
returns-in-None-clause-support c =
    sym (ap support (unlisted_row c.self.inside.every_row _ _ _ _ c.if-self.false c.self.invariant (ap (λ m. m.matrix) c.self.view_is) c.args.i c.requires
    (subst (λ xs. IsAbsent xs c.args.i) c.deref.ensures.value c.in-None.ensures)) ∙ support_zeros c.self.inside.stored.matrix.width)

pub returns-in-None-clause-same_length : goal.returns-in-None-clause-same_length
returns-in-None-clause-same_length c =
    sym (ap (λ v. length (nonzeros v)) (unlisted_row c.self.inside.every_row _ _ _ _ c.if-self.false c.self.invariant (ap (λ m. m.matrix) c.self.view_is) c.args.i c.requires
    (subst (λ xs. IsAbsent xs c.args.i) c.deref.ensures.value c.in-None.ensures)) ∙ ap length (nonzeros_zeros c.self.inside.stored.matrix.width))
