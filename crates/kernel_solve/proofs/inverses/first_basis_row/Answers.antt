use Rattle.std.proofs.Common.{ℕ, ◌≡◌, ◌≢◌, ◌<◌, ◌∙◌, List, ap, arith, length, slice_index, subst, sym}
use Rattle.residue_words.specs.Matrix.{zeros}
use Rattle.sparse_rows.specs.Rows.{nonzeros, support}
use Rattle.sparse_rows.proofs.Loops.{length_zeros, zero_at}
use Rattle.kernel_solve.specs.Column.{column_at}
use Rattle.kernel_solve.specs.ReadOff.{IsBasisRow}
use Rattle.kernel_solve.proofs.Basis.{basis_exists, basis_kernel, column_sparse, column_spread, first_row, leads_before, no_row, row_given}
use Rattle.kernel_solve.proofs.Free.{none_free, rising_bound}
use Rattle.kernel_solve.proofs.inverses.first_basis_row.Goals as goal

pub first_free-f-requires-clause-small : goal.first_free-f-requires-clause-small
first_free-f-requires-clause-small c =
    let sound = c.leads-leads.ensures.sound in
    omega (
      arith,
      rising_bound c.args.form.now.leads c.args.form.now.matrix.width (λ k l. sound.leads.1.inside k (omega (arith, sound.rank))) (λ k t a b. sound.leads.1.rising k t a (omega (arith, sound.rank))),
      ap length c.leads-leads.ensures.value,
      c.width.ensures.value,
      c.width.ensures.bound,
      ap (λ m. m.width) c.rows-rows.ensures.matrix,
    )

pub returns-then-width-f-clause-length : goal.returns-then-width-f-clause-length
returns-then-width-f-clause-length c = ap length c.new-first.ensures.row ∙ length_zeros _ ∙ c.width.ensures.value ∙ ap (λ m. m.width) c.rows-rows.ensures.matrix

pub returns-then-width-f-clause-first : goal.returns-then-width-f-clause-first
returns-then-width-f-clause-first c = λ p A prime given.
    let form = c.args.form.now in
    let found = basis_exists p form.matrix form.leads prime.two_or_more given.matrix given.leads in (
      found.2.0,
      basis_kernel p A form.matrix form.leads found.0 found.2.0 prime (given.rref prime) given.leads found.1 found.2.1,
      λ some. absurd (no_row p form.matrix form.leads prime.two_or_more given.matrix given.leads c.first_free-f.result
          (omega (arith, c.if-width-f.true, c.width-2.ensures.value, ap (λ m. m.width) c.rows-rows.ensures.matrix))
          (omega (arith, c.first_free-f.ensures.few, ap length c.leads-leads.ensures.value))
          (λ k l. ap (λ xs. slice_index xs k) (sym c.leads-leads.ensures.value) ∙ c.first_free-f.ensures.before k l) some),
    )

pub returns-then-width-f-clause-none : goal.returns-then-width-f-clause-none
returns-then-width-f-clause-none c = λ full. c.new-first.ensures.row ∙ ap zeros (c.width.ensures.value ∙ ap (λ m. m.width) c.rows-rows.ensures.matrix)

-- no row leads at a column, by what is told of the leads
free_told : (leads told : List ℕ) (f : ℕ) → told ≡ leads → ((k : ℕ) → k < length told → slice_index told k ≢ f) → (k : ℕ) → k < length leads → slice_index leads k ≢ f
free_told leads told f same free = subst (λ ls. (k : ℕ) → k < length ls → slice_index ls k ≢ f) same free

pub write_basis_row-requires-clause-column : goal.write_basis_row-requires-clause-column
write_basis_row-requires-clause-column c =
    let form = c.args.form.now in
    let sound = c.leads-leads.ensures.sound in
    let f : ℕ = c.first_free-f.result in
    let inside : f < form.matrix.width = omega (arith, c.if-width-f.false, c.width-2.ensures.value, ap (λ m. m.width) c.rows-rows.ensures.matrix) in
    let column : c.in_ok-column.column.row ≡ column_at form.matrix f = c.in_ok-column.ensures.row ∙ ap (λ m. column_at m f) c.rows-rows.ensures.matrix in
    let modulus : c.new-first.result.modulus ≡ form.modulus = c.new-first.ensures.modulus ∙ c.modulus.ensures.value ∙ c.rows-rows.ensures.modulus in
    rw (modulus, c.leads-leads.ensures.value, c.cols.ensures.support, c.vals.ensures.values, column)
    (column_sparse form.modulus form.matrix form.leads f sound.matrix sound.leads inside (free_told form.leads c.leads-leads.result.now f c.leads-leads.ensures.value c.first_free-f.ensures.free))

pub write_basis_row-requires-clause-leads : goal.write_basis_row-requires-clause-leads
write_basis_row-requires-clause-leads c = λ k l.
    let sound = c.leads-leads.ensures.sound in
    omega (
      arith,
      sound.leads.1.inside k (omega (arith, sound.rank, ap length c.leads-leads.ensures.value)),
      ap (λ xs. slice_index xs k) c.leads-leads.ensures.value,
      ap length c.new-first.ensures.row,
      length_zeros c.width.result,
      c.width.ensures.value,
      ap (λ m. m.width) c.rows-rows.ensures.matrix,
    )

pub write_basis_row-requires-clause-before : goal.write_basis_row-requires-clause-before
write_basis_row-requires-clause-before c =
    let form = c.args.form.now in
    let sound = c.leads-leads.ensures.sound in
    let f : ℕ = c.first_free-f.result in
    let inside : f < form.matrix.width = omega (arith, c.if-width-f.false, c.width-2.ensures.value, ap (λ m. m.width) c.rows-rows.ensures.matrix) in
    let column : c.in_ok-column.column.row ≡ column_at form.matrix f = c.in_ok-column.ensures.row ∙ ap (λ m. column_at m f) c.rows-rows.ensures.matrix in
    rw (c.leads-leads.ensures.value, c.cols.ensures.support, column)
    (leads_before form.modulus form.matrix form.leads f sound.matrix sound.leads inside (free_told form.leads c.leads-leads.result.now f c.leads-leads.ensures.value c.first_free-f.ensures.free))

pub write_basis_row-requires-clause-inside : goal.write_basis_row-requires-clause-inside
write_basis_row-requires-clause-inside c = omega (arith, ap length c.new-first.ensures.row, length_zeros c.width.result, c.width.ensures.value, c.width-2.ensures.value, c.if-width-f.false)

pub write_basis_row-requires-clause-zero : goal.write_basis_row-requires-clause-zero
write_basis_row-requires-clause-zero c = λ j l. zero_at c.new-first.result.row c.width.result c.new-first.ensures.row j l

pub returns-clause-length : goal.returns-clause-length
returns-clause-length c =
    c.write_basis_row.ensures.length ∙ ap length c.new-first.ensures.row ∙ length_zeros _ ∙ c.width.ensures.value ∙ ap (λ m. m.width) c.rows-rows.ensures.matrix

pub returns-clause-first : goal.returns-clause-first
returns-clause-first c = λ p A prime given.
    let form = c.args.form.now in
    let f : ℕ = c.first_free-f.result in
    let v : List ℕ = c.write_basis_row.new.to.row in
    let found = basis_exists p form.matrix form.leads prime.two_or_more given.matrix given.leads in
    let inside : f < form.matrix.width = omega (arith, c.if-width-f.false, c.width-2.ensures.value, ap (λ m. m.width) c.rows-rows.ensures.matrix) in
    let free = free_told form.leads c.leads-leads.result.now f c.leads-leads.ensures.value c.first_free-f.ensures.free in
    let column : c.in_ok-column.column.row ≡ column_at form.matrix f = c.in_ok-column.ensures.row ∙ ap (λ m. column_at m f) c.rows-rows.ensures.matrix in
    let modulus : c.write_basis_row.new.to.modulus ≡ p =
    c.write_basis_row.ensures.modulus ∙ c.new-first.ensures.modulus ∙ c.modulus.ensures.value ∙ c.rows-rows.ensures.modulus ∙ given.modulus in
    let long : length v ≡ form.matrix.width =
    c.write_basis_row.ensures.length ∙ ap length c.new-first.ensures.row ∙ length_zeros _ ∙ c.width.ensures.value ∙ ap (λ m. m.width) c.rows-rows.ensures.matrix in
    let made : IsBasisRow p form.leads (column_at form.matrix f) f v =
    row_given p c.write_basis_row.new.to.modulus form.leads c.leads-leads.result.now (column_at form.matrix f) f c.cols.result.now c.vals.result.now v
    modulus c.leads-leads.ensures.value (c.cols.ensures.support ∙ ap support column) (c.vals.ensures.values ∙ ap nonzeros column)
    (column_spread p form.matrix form.leads f given.matrix given.leads inside free) c.in_ok-write_basis_row.ensures.row in (
      found.2.0,
      basis_kernel p A form.matrix form.leads found.0 found.2.0 prime (given.rref prime) given.leads found.1 found.2.1,
      λ some. first_row p form.matrix form.leads prime.two_or_more given.matrix given.leads f v inside
          (omega (arith, c.first_free-f.ensures.few, ap length c.leads-leads.ensures.value))
          (λ k l. ap (λ xs. slice_index xs k) (sym c.leads-leads.ensures.value) ∙ c.first_free-f.ensures.before k l) free long made,
    )

pub returns-clause-none : goal.returns-clause-none
returns-clause-none c = λ full.
    let form = c.args.form.now in
    let sound = c.leads-leads.ensures.sound in
    let f : ℕ = c.first_free-f.result in
    let inside : f < form.matrix.width = omega (arith, c.if-width-f.false, c.width-2.ensures.value, ap (λ m. m.width) c.rows-rows.ensures.matrix) in
    absurd (none_free form.matrix.width f form.leads
    (λ k l. sound.leads.1.inside k (omega (arith, sound.rank))) (λ k t a b. sound.leads.1.rising k t a (omega (arith, sound.rank)))
    (sound.rank ∙ full) inside
    (free_told form.leads c.leads-leads.result.now f c.leads-leads.ensures.value c.first_free-f.ensures.free))
