use Rattle.std.proofs.Common.{◌≡◌, ◌<◌, ◌-◌, ◌+◌, ◌∙◌, ap, ap₂, arith, length, slice_index, slice_range, sym}
use Rattle.residue_words.specs.Matrix.{row}
use Rattle.sparse_rows.specs.Rows.{nonzeros, support}
use Rattle.sparse_rows.specs.Stored.{IsSparse}
use Rattle.column_lists.specs.Parts.{part}
use Rattle.sparse_rows.proofs.Stored.{nonzeros_stored, support_stored}
use Rattle.column_lists.proofs.Parts.{starts_below}
use Rattle.sparse_rows.proofs.stored_rows.StoredRows.cols.Goals as goal
use Rattle.sparse_rows.proofs.stored_rows.StoredRows.cols.Goals.{After-part}

pub part-requires-clause-within : goal.part-requires-clause-within
part-requires-clause-within c =
    let end : c.args.i + 1 < length c.self.inside.starts.items = omega (arith, c.requires, ap (λ m. m.matrix.height) c.self.view_is) in
    rw (c.deref.ensures.value, c.deref-2.ensures.value) (starts_below c.self.invariant.parts (c.args.i + 1) (omega arith))

inside : (c : After-part) → c.args.i < length c.self.inside.starts.items - 1
inside c = omega (arith, c.requires, ap (λ m. m.matrix.height) c.self.view_is)

found : (c : After-part) → c.part.result.now ≡ part c.self.inside.starts.items c.self.inside.cols.items c.args.i
unfolding part
found c = c.part.ensures ∙ ap₂ (λ xs ss. slice_range xs (slice_index ss c.args.i) (slice_index ss (c.args.i + 1))) c.deref.ensures.value c.deref-2.ensures.value

-- the row as it is stored
stored : (c : After-part) → IsSparse c.self.inside.modulus c.self.inside.width c.part.result.now (part c.self.inside.starts.items c.self.inside.vals.items c.args.i)
stored c = rw (found c) (c.self.invariant.each c.args.i (inside c))

pub returns-clause-support : goal.returns-clause-support
returns-clause-support c = found c ∙ sym (support_stored c.self.invariant c.args.i (inside c)) ∙ ap (λ m. support (row m.matrix c.args.i)) c.self.view_is

pub returns-clause-same_length : goal.returns-clause-same_length
returns-clause-same_length c =
    (stored c).long ∙ ap length (sym (nonzeros_stored c.self.invariant c.args.i (inside c)) ∙ ap (λ m. nonzeros (row m.matrix c.args.i)) c.self.view_is)

pub returns-clause-below_width : goal.returns-clause-below_width
returns-clause-below_width c = λ k l. omega (arith, (stored c).below k l, ap (λ m. m.matrix.width) c.self.view_is)

pub returns-clause-ascending : goal.returns-clause-ascending
returns-clause-ascending c = (stored c).rising
