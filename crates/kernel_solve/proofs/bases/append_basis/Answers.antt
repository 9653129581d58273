use Rattle.std.proofs.Common.{ℕ, ◌≡◌, ◌<◌, ◌∙◌, ◌↔◌, Bool, List, ap, arith, length, refl, slice_index, subst, sym, true, false}
use Rattle.std.specs.Prelude.{IsTrue}
use Rattle.residue_words.specs.Matrix.{IsMatrix, zeros}
use Rattle.sparse_rows.specs.Rows.{nonzeros, support}
use Rattle.sparse_rows.proofs.Loops.{length_zeros, zero_at}
use Rattle.kernel_solve.specs.Column.{column_at}
use Rattle.kernel_solve.specs.ReadOff.{IsBasisRow}
use Rattle.kernel_solve.proofs.Basis.{AreBasisRows, basis_columns, basis_free, basis_kernel, basis_lead, basis_none, column_free, column_sparse, column_spread, leads_before, row_given, turned_row}
use Rattle.kernel_solve.proofs.bases.append_basis.Goals as goal
use Rattle.kernel_solve.proofs.bases.append_basis.Goals.{then-stands_at, else-stands_at+in_ok-write_basis_row+in_ok-append}

pub loop-f-init : goal.loop-f-init
loop-f-init c =
    basis_none c.args.form.now c.args.basis.now c.new-row.result c.args.form.now.matrix.width c.requires.modulus c.requires.none refl
    (c.new-row.ensures.modulus ∙ c.modulus.ensures.value ∙ c.rows-2.ensures.modulus)
    (c.new-row.ensures.row ∙ ap zeros (c.width-width.ensures.value ∙ ap (λ m. m.width) c.rows.ensures.matrix))

-- a column that is not the next lead is free
not_next : (leads told : List ℕ) (next f : ℕ) (b : Bool) → told ≡ leads → (IsTrue b ↔ ((next < length told) × (slice_index told next ≡ f))) → b ≡ false →
    (next < length leads) × (slice_index leads next ≡ f) → ⊥
not_next leads told next f b same test never h =
    let yes : b ≡ true = test.1 (omega (arith, h.0, ap length same), ap (λ xs. slice_index xs next) same ∙ h.1) in
    cc

pub write_basis_row-requires-clause-column : goal.write_basis_row-requires-clause-column
write_basis_row-requires-clause-column c =
    let form = c.args.form.now in
    let sound = c.leads-leads.ensures.sound in
    let inside : c.loop-f.f < form.matrix.width = omega (arith, c.loop-f-test.true, c.width-width.ensures.value, ap (λ m. m.width) c.rows.ensures.matrix) in
    let column = turned_row form.matrix form.matrix c.args.columns.now.matrix c.loop-f.f refl c.requires.columns inside in
    let free = column_free form sound c.loop-f.f c.loop-f.next c.loop-f.basis c.loop-f.row c.loop-f.invariant
    (not_next form.leads c.leads-leads.result.now c.loop-f.next c.loop-f.f c.stands_at.result c.leads-leads.ensures.value c.stands_at.ensures c.if-stands_at.false) in
    rw (c.clear.ensures.modulus, c.loop-f.invariant.row_modulus, c.leads-leads.ensures.value, c.cols.ensures.support, c.vals.ensures.values, column)
    (column_sparse form.modulus form.matrix form.leads c.loop-f.f sound.matrix sound.leads inside free)

pub write_basis_row-requires-clause-leads : goal.write_basis_row-requires-clause-leads
write_basis_row-requires-clause-leads c = λ k l.
    let sound = c.leads-leads.ensures.sound in
    omega (
      arith,
      sound.leads.1.inside k (omega (arith, sound.rank, ap length c.leads-leads.ensures.value)),
      ap (λ xs. slice_index xs k) c.leads-leads.ensures.value,
      ap length c.clear.ensures.row,
      length_zeros (length c.loop-f.row.row),
      c.loop-f.invariant.row_length,
    )

pub write_basis_row-requires-clause-rising : goal.write_basis_row-requires-clause-rising
write_basis_row-requires-clause-rising c = λ k t a b.
    let sound = c.leads-leads.ensures.sound in
    omega (
      arith,
      sound.leads.1.rising k t a (omega (arith, b, sound.rank, ap length c.leads-leads.ensures.value)),
      ap (λ xs. slice_index xs k) c.leads-leads.ensures.value,
      ap (λ xs. slice_index xs t) c.leads-leads.ensures.value,
    )

pub write_basis_row-requires-clause-before : goal.write_basis_row-requires-clause-before
write_basis_row-requires-clause-before c =
    let form = c.args.form.now in
    let sound = c.leads-leads.ensures.sound in
    let inside : c.loop-f.f < form.matrix.width = omega (arith, c.loop-f-test.true, c.width-width.ensures.value, ap (λ m. m.width) c.rows.ensures.matrix) in
    let column = turned_row form.matrix form.matrix c.args.columns.now.matrix c.loop-f.f refl c.requires.columns inside in
    let free = column_free form sound c.loop-f.f c.loop-f.next c.loop-f.basis c.loop-f.row c.loop-f.invariant
    (not_next form.leads c.leads-leads.result.now c.loop-f.next c.loop-f.f c.stands_at.result c.leads-leads.ensures.value c.stands_at.ensures c.if-stands_at.false) in
    rw (c.leads-leads.ensures.value, c.cols.ensures.support, column) (leads_before form.modulus form.matrix form.leads c.loop-f.f sound.matrix sound.leads inside free)

pub write_basis_row-requires-clause-free : goal.write_basis_row-requires-clause-free
write_basis_row-requires-clause-free c =
    let form = c.args.form.now in
    rw c.leads-leads.ensures.value (column_free form c.leads-leads.ensures.sound c.loop-f.f c.loop-f.next c.loop-f.basis c.loop-f.row c.loop-f.invariant
    (not_next form.leads c.leads-leads.result.now c.loop-f.next c.loop-f.f c.stands_at.result c.leads-leads.ensures.value c.stands_at.ensures c.if-stands_at.false))

pub write_basis_row-requires-clause-inside : goal.write_basis_row-requires-clause-inside
write_basis_row-requires-clause-inside c = omega (
  arith,
  ap length c.clear.ensures.row,
  length_zeros (length c.loop-f.row.row),
  c.loop-f.invariant.row_length,
  c.width-width.ensures.value,
  ap (λ m. m.width) c.rows.ensures.matrix,
)

pub write_basis_row-requires-clause-zero : goal.write_basis_row-requires-clause-zero
write_basis_row-requires-clause-zero c = λ j l. zero_at c.clear.new.self.row _ c.clear.ensures.row j l

pub append-requires-clause-width : goal.append-requires-clause-width
append-requires-clause-width c =
    c.write_basis_row.ensures.length ∙ ap length c.clear.ensures.row ∙ length_zeros _ ∙ c.loop-f.invariant.row_length ∙ sym c.loop-f.invariant.rows.width

pub loop-f-preserved : goal.loop-f-preserved
loop-f-preserved c =
    let form = c.args.form.now in
    let sound = c.leads-leads.ensures.sound in
    let s = c.loop-f.invariant in
    elim c.if-stands_at.branch [
      | then-stands_at w ↦
          let here = c.stands_at.ensures.0 w.if-stands_at.true in
          rw (w.next-is, w.basis-is, w.row-is)
          (basis_lead form sound c.loop-f.f c.loop-f.next c.loop-f.basis c.loop-f.row s (omega (arith, here.0, ap length c.leads-leads.ensures.value))
          (sym (ap (λ xs. slice_index xs c.loop-f.next) c.leads-leads.ensures.value) ∙ here.1))
      | else-stands_at+in_ok-write_basis_row+in_ok-append w ↦
          let none = not_next form.leads c.leads-leads.result.now c.loop-f.next c.loop-f.f c.stands_at.result c.leads-leads.ensures.value c.stands_at.ensures w.if-stands_at.false in
          let inside : c.loop-f.f < form.matrix.width = omega (arith, c.loop-f-test.true, c.width-width.ensures.value, ap (λ m. m.width) c.rows.ensures.matrix) in
          let column = turned_row form.matrix form.matrix c.args.columns.now.matrix c.loop-f.f refl c.requires.columns inside in
          let free = column_free form sound c.loop-f.f c.loop-f.next c.loop-f.basis c.loop-f.row s none in
          let modulus : w.write_basis_row.new.to.modulus ≡ form.modulus = w.write_basis_row.ensures.modulus ∙ w.clear.ensures.modulus ∙ s.row_modulus in
          let made : IsBasisRow form.modulus form.leads (column_at form.matrix c.loop-f.f) c.loop-f.f w.write_basis_row.new.to.row =
          row_given form.modulus w.write_basis_row.new.to.modulus form.leads c.leads-leads.result.now (column_at form.matrix c.loop-f.f) c.loop-f.f w.cols.result.now w.vals.result.now w.write_basis_row.new.to.row
          modulus c.leads-leads.ensures.value (w.cols.ensures.support ∙ ap support column) (w.vals.ensures.values ∙ ap nonzeros column)
          (column_spread form.modulus form.matrix form.leads c.loop-f.f sound.matrix sound.leads inside free) w.in_ok-write_basis_row.ensures.row in
          rw (w.next-is, w.basis-is, w.row-is)
          (basis_free form sound c.loop-f.f c.loop-f.next c.loop-f.basis c.loop-f.row s (omega (arith, c.modulus.ensures.two_or_more, c.modulus.ensures.value, c.rows-2.ensures.modulus)) none
          w.append.new.self w.write_basis_row.new.to (w.append.ensures.modulus ∙ s.modulus) w.in_ok-append.ensures.matrix modulus
          (w.write_basis_row.ensures.length ∙ ap length w.clear.ensures.row ∙ length_zeros _ ∙ s.row_length) made)
    ]

pub returns : goal.returns
returns c =
    let form = c.args.form.now in
    let sound = c.leads-leads.ensures.sound in
    let s = c.loop-f.invariant in
    let end : c.loop-f.f ≡ form.matrix.width = omega (arith, c.loop-f.auto, c.loop-f-test.false, c.width-width.ensures.value, ap (λ m. m.width) c.rows.ensures.matrix) in
    let columns = basis_columns form sound c.loop-f.f c.loop-f.next c.loop-f.basis c.loop-f.row s end in
    record {
      modulus = s.modulus;
      sound = subst (λ q. IsMatrix q c.loop-f.basis.matrix) (sym s.modulus) s.rows.matrix;
      width = s.rows.width;
      height = omega (arith, columns.long, sound.rank, s.rows.height);
      kernel = λ p A prime given. basis_kernel p A form.matrix form.leads s.free c.loop-f.basis.matrix prime (given.rref prime) given.leads columns
          (subst (λ q. AreBasisRows q form.matrix form.leads s.free c.loop-f.basis.matrix) given.modulus s.rows);
    }
