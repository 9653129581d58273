use Rattle.std.proofs.Common.{◌≡◌, ◌<◌, ◌-◌, ◌+◌, ◌∙◌, ap, ap₂, arith, length, slice_index, slice_range, sym}
use Rattle.residue_words.specs.Matrix.{row}
use Rattle.sparse_rows.specs.Rows.{nonzeros, support}
use Rattle.sparse_rows.specs.Stored.{IsSparse}
use Rattle.column_lists.specs.Parts.{part}
use Rattle.sparse_rows.proofs.Stored.{nonzeros_stored, support_stored}
use Rattle.column_lists.proofs.Parts.{starts_below}
use Rattle.sparse_rows.proofs.stored_rows.StoredRows.vals.Goals as goal
use Rattle.sparse_rows.proofs.stored_rows.StoredRows.vals.Goals.{After-part}

pub part-requires-clause-within : goal.part-requires-clause-within
part-requires-clause-within c =
    let end : c.args.i + 1 < length c.self.inside.starts.items = omega (arith, c.requires, ap (λ m. m.matrix.height) c.self.view_is) in
    rw (c.deref.ensures.value, c.deref-2.ensures.value) (omega (arith, starts_below c.self.invariant.parts (c.args.i + 1) (omega arith), c.self.invariant.long))

inside : (c : After-part) → c.args.i < length c.self.inside.starts.items - 1
inside c = omega (arith, c.requires, ap (λ m. m.matrix.height) c.self.view_is)

found : (c : After-part) → c.part.result.now ≡ part c.self.inside.starts.items c.self.inside.vals.items c.args.i
unfolding part
found c = c.part.ensures ∙ ap₂ (λ xs ss. slice_range xs (slice_index ss c.args.i) (slice_index ss (c.args.i + 1))) c.deref.ensures.value c.deref-2.ensures.value

-- the row as it is stored
stored : (c : After-part) → IsSparse c.self.inside.modulus c.self.inside.width (part c.self.inside.starts.items c.self.inside.cols.items c.args.i) c.part.result.now
stored c = rw (found c) (c.self.invariant.each c.args.i (inside c))

pub returns-clause-values : goal.returns-clause-values
returns-clause-values c = found c ∙ sym (nonzeros_stored c.self.invariant c.args.i (inside c)) ∙ ap (λ m. nonzeros (row m.matrix c.args.i)) c.self.view_is

pub returns-clause-same_length : goal.returns-clause-same_length
returns-clause-same_length c =
    sym (stored c).long ∙ ap length (sym (support_stored c.self.invariant c.args.i (inside c)) ∙ ap (λ m. support (row m.matrix c.args.i)) c.self.view_is)

pub returns-clause-positive : goal.returns-clause-positive
returns-clause-positive c = (stored c).positive

pub returns-clause-residues : goal.returns-clause-residues
returns-clause-residues c = λ k l. omega (arith, (stored c).residues k l, ap (λ m. m.modulus) c.self.view_is)
