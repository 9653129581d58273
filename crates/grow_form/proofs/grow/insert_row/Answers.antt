use Rattle.std.proofs.Common.{subst, sym}
use Rattle.grow_form.specs.Growing.{AppendsRow}
use Rattle.grow_form.specs.Numbering.{AreKeptByNumbers, IsRowByNumbers, seen_rows}
use Rattle.sparse_rows.specs.Stored.{spread}
use Rattle.std.proofs.Common.{length}
use Rattle.grow_form.proofs.Growing.{row_appended, row_kept, row_sparse}
use Rattle.grow_form.proofs.Numbers.{behind_itself}
use Rattle.grow_form.proofs.grow.insert_row.Goals as goal

pub row_by_numbers-requires-clause-sparse : goal.row_by_numbers-requires-clause-sparse
row_by_numbers-requires-clause-sparse c = rw c.modulus-p.ensures c.requires.sparse

pub insert-requires : goal.insert-requires
insert-requires c =
    let N = c.args.numbering.now in
    let is : IsRowByNumbers N c.args.kept.now.modulus c.args.cols.now c.args.vals.now c.in_ok-row.row =
    subst (λ p. IsRowByNumbers N p c.args.cols.now c.args.vals.now c.in_ok-row.row) c.modulus-p.ensures c.in_ok-row.ensures in
    row_sparse c.is_sound.ensures.rows c.requires.by_numbers c.is_sound-2.ensures (behind_itself N) is c.is_sound-3.ensures.entries c.cols.ensures.support c.vals.ensures.values

pub returns-clause-ok : goal.returns-clause-ok
returns-clause-ok c =
    let N = c.args.numbering.now in
    let is : IsRowByNumbers N c.args.kept.now.modulus c.args.cols.now c.args.vals.now c.in_ok-row.row =
    subst (λ p. IsRowByNumbers N p c.args.cols.now c.args.vals.now c.in_ok-row.row) c.modulus-p.ensures c.in_ok-row.ensures in
    subst (AppendsRow (seen_rows c.args.kept.now N) (seen_rows c.insert.new.self N) (spread (length N.arrivals) c.args.cols.now c.args.vals.now)) (sym c.is_some.ensures)
    (row_appended c.is_sound.ensures.rows c.requires.by_numbers c.is_sound-2.ensures (behind_itself N) is c.is_sound-3.ensures.entries c.cols.ensures.support c.vals.ensures.values
    c.is_sound-4.ensures.rows c.in_ok-lead.lead c.in_ok-lead.ensures.inserted)

pub returns-clause-by_numbers : goal.returns-clause-by_numbers
returns-clause-by_numbers c =
    let N = c.args.numbering.now in
    let is : IsRowByNumbers N c.args.kept.now.modulus c.args.cols.now c.args.vals.now c.in_ok-row.row =
    subst (λ p. IsRowByNumbers N p c.args.cols.now c.args.vals.now c.in_ok-row.row) c.modulus-p.ensures c.in_ok-row.ensures in
    row_kept c.is_sound.ensures.rows c.requires.by_numbers c.is_sound-2.ensures (behind_itself N) is c.is_sound-3.ensures.entries c.cols.ensures.support c.vals.ensures.values
    c.in_ok-lead.lead c.in_ok-lead.ensures.inserted

pub returns-in_err-lead-clause-by_numbers : goal.returns-in_err-lead-clause-by_numbers
returns-in_err-lead-clause-by_numbers c = subst (λ K. AreKeptByNumbers K c.args.numbering.now) (sym c.in_err-lead.ensures.err) c.requires.by_numbers
