use Rattle.std.proofs.Common.{◌≡◌, ◌∙◌, ap, ap₂, cond, subst, sym}
use Rattle.residue_words.specs.Matrix.{Matrix}
use Rattle.column_lists.specs.Columns.{GoTo}
use Rattle.sparse_rows.specs.Placed.{AreNamed, expanded}
use Rattle.sparse_rows.specs.Rows.{narrowed, transposed, widened, AreEnough}
use Rattle.sparse_rows.proofs.Expanding.{listed, transposed_listed, transposed_placed, turned_sound, placed_small}
use Rattle.sparse_rows.proofs.rows.Rows.transpose.Goals as goal
use Rattle.sparse_rows.proofs.rows.Rows.transpose.Goals.{In_ok-with_columns-2}

pub returns-then-stores_every_row-clause-matrix : goal.returns-then-stores_every_row-clause-matrix
returns-then-stores_every_row-clause-matrix c =
    transposed_placed c.self.inside.every_row c.self.inside.height c.self.inside.rows.items c.self.inside.stored.matrix _ c.self.invariant
    (c.in_ok-with_columns.ensures.matrix ∙ ap₂ (λ T rs. cond c.self.inside.every_row T (widened T c.self.inside.height rs)) c.in_ok-stored.ensures.matrix c.deref.ensures.value)
    ∙ ap (λ m. transposed m.matrix) c.self.view_is

pub with_columns-requires-2-clause-rows : goal.with_columns-requires-2-clause-rows
with_columns-requires-2-clause-rows c = λ e.
    let l = listed c.self.inside.every_row c.self.inside.height c.self.inside.rows.items c.self.inside.stored.matrix e c.self.invariant in
    let w : c.in_ok-stored-2.stored.matrix.width ≡ c.self.inside.stored.matrix.height = ap (λ M. M.width) c.in_ok-stored-2.ensures.matrix ∙ ap (λ M. M.height) c.in_ok-narrowed.ensures.matrix in
    subst (GoTo c.in_ok-stored-2.stored.matrix.width c.self.inside.height) (sym c.deref-3.ensures.value) record { many = l.1.many ∙ sym w; rising = l.1.rising; below = l.1.below }

both : (c : In_ok-with_columns-2) →
    AreNamed c.self.inside.stored.matrix.width c.in_ok-columns.columns.items c.in_ok-with_columns-2.field-0.matrix
    × (expanded c.self.inside.stored.matrix.width c.in_ok-columns.columns.items c.in_ok-with_columns-2.field-0.matrix ≡ transposed c.args.self.now.matrix)
both c =
    let S : Matrix = c.self.inside.stored.matrix in
    let t = transposed_listed c.self.inside.every_row c.self.inside.height c.self.inside.rows.items S c.in_ok-with_columns-2.field-0.matrix c.in_ok-columns.columns.items
    (turned_sound c.in_ok-columns.columns.items c.modulus.ensures.sound c.in_ok-columns.ensures) c.self.invariant c.in_ok-columns.ensures
    (c.in_ok-with_columns-2.ensures.matrix ∙ ap₂ (λ T rs. cond c.self.inside.every_row T (widened T c.self.inside.height rs))
    (c.in_ok-stored-2.ensures.matrix ∙ ap transposed (c.in_ok-narrowed.ensures.matrix ∙ ap (narrowed S) c.deref-2.ensures.value)) c.deref-3.ensures.value) in
    (t.0, t.1 ∙ ap (λ m. transposed m.matrix) c.self.view_is)

pub invariant_of-result-2 : goal.invariant_of-result-2
invariant_of-result-2 c = (c.width-width.ensures.bound, subst (λ w. AreNamed w c.in_ok-columns.columns.items c.in_ok-with_columns-2.field-0.matrix) (sym c.width-width.ensures.value) (both c).0)

pub returns-clause-matrix : goal.returns-clause-matrix
returns-clause-matrix c = ap (λ w. expanded w c.in_ok-columns.columns.items c.in_ok-with_columns-2.field-0.matrix) c.width-width.ensures.value ∙ (both c).1

pub with_columns-requires-clause-height : goal.with_columns-requires-clause-height
with_columns-requires-clause-height c = placed_small c.self.inside.every_row _ _ _ c.self.invariant

pub with_columns-requires-clause-rows : goal.with_columns-requires-clause-rows
with_columns-requires-clause-rows c = λ e.
    let l = listed c.self.inside.every_row c.self.inside.height c.self.inside.rows.items c.self.inside.stored.matrix e c.self.invariant in
    let w : c.in_ok-stored.stored.matrix.width ≡ c.self.inside.stored.matrix.height = ap (λ M. M.width) c.in_ok-stored.ensures.matrix in
    subst (GoTo c.in_ok-stored.stored.matrix.width c.self.inside.height) (sym c.deref.ensures.value) record { many = l.1.many ∙ sym w; rising = l.1.rising; below = l.1.below }

pub with_columns-requires-2-clause-height : goal.with_columns-requires-2-clause-height
with_columns-requires-2-clause-height c = placed_small c.self.inside.every_row _ _ _ c.self.invariant

pub narrowed-requires : goal.narrowed-requires
narrowed-requires c = subst (AreEnough c.self.inside.stored.matrix) (sym c.deref-2.ensures.value) c.in_ok-columns.ensures.enough

pub returns-then-stores_every_row-clause-modulus : goal.returns-then-stores_every_row-clause-modulus
returns-then-stores_every_row-clause-modulus c = c.in_ok-with_columns.ensures.modulus ∙ c.in_ok-stored.ensures.modulus ∙ ap (λ m. m.modulus) c.self.view_is

pub returns-clause-modulus : goal.returns-clause-modulus
returns-clause-modulus c = c.in_ok-with_columns-2.ensures.modulus ∙ c.in_ok-stored-2.ensures.modulus ∙ c.in_ok-narrowed.ensures.modulus ∙ ap (λ m. m.modulus) c.self.view_is
