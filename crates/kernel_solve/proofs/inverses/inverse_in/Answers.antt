use Rattle.std.proofs.Common.{ℕ, ◌≡◌, ◌+◌, ◌-◌, ◌<◌, ◌∙◌, List, ap, ap₂, arith, length, slice_index, subst, sym, true, false}
use Rattle.residue_words.specs.Matrix.{Matrix, IsMatrix, entry}
use Rattle.residue_words.proofs.Vectors.{entry_residue, is_matrix_of}
use Rattle.sparse_rows.specs.Rows.{beside, identity}
use Rattle.row_space.specs.Inverse.{IsInverse}
use Rattle.echelon_form.specs.Form.{IsFormOf}
use Rattle.kernel_solve.proofs.Inverting.{basis_some, half_inverts, half_of, not_filled}
use Rattle.kernel_solve.proofs.inverses.inverse_in.Goals as goal

pub returns-then-fills-clause-shape : goal.returns-then-fills-clause-shape
returns-then-fills-clause-shape c =
    let p : ℕ = c.args.form.now.modulus in
    let n : ℕ = c.args.n in
    let F : Matrix = c.rows-then-fills.result.now.matrix in
    let sound : IsMatrix p F = subst (IsMatrix p) (sym c.rows-then-fills.ensures.matrix) c.leads.ensures.sound.matrix in
    let wide : F.width ≡ n + n = omega (arith, ap (λ m. m.width) c.rows-then-fills.ensures.matrix, c.requires) in
    let filled = c.fills.ensures.0 c.if-fills.true in
    let tall : F.height ≡ n = omega (arith, ap (λ m. m.height) c.rows-then-fills.ensures.matrix, c.leads.ensures.sound.rank, ap length c.leads.ensures.value, filled.0) in (
      c.in_ok-half.ensures.modulus ∙ c.rows-then-fills.ensures.modulus,
      rw c.in_ok-half.ensures.matrix (is_matrix_of p n n (λ i j. entry F i (n + j)) (λ i j a b. entry_residue p F sound i (n + j) (omega arith) (omega arith))),
      ap (λ m. m.height) c.in_ok-half.ensures.matrix,
      ap (λ m. m.width) c.in_ok-half.ensures.matrix,
    )

pub returns-then-fills-clause-tells : goal.returns-then-fills-clause-tells
returns-then-fills-clause-tells c = λ p A prime ma high wide form.
    let n : ℕ = c.args.n in
    let F : Matrix = c.args.form.now.matrix in
    let leads : List ℕ = c.args.form.now.leads in
    let whole : IsFormOf p (beside A (identity A.width)) c.args.form.now = subst (λ n. IsFormOf p (beside A (identity n)) c.args.form.now) (sym wide) form in
    let filled = c.fills.ensures.0 c.if-fills.true in
    let last : 0 < A.width → slice_index leads (A.width - 1) < A.width = λ some. omega (
      arith,
      filled.1 (omega (arith, wide)),
      ap (λ ls. slice_index ls (n - 1)) c.leads.ensures.value,
      ap (λ k. slice_index leads (k - 1)) wide,
      wide,
    ) in
    let half : c.in_ok-half.half.matrix ≡ half_of A.width F = c.in_ok-half.ensures.matrix ∙ ap₂ half_of (sym wide) c.rows-then-fills.ensures.matrix in
    subst (IsInverse p A) (sym half) (half_inverts p A F leads prime.two_or_more ma (high ∙ sym wide) (whole.rref prime) whole.leads last)

pub returns-clause-tells : goal.returns-clause-tells
returns-clause-tells c = λ p A prime ma high wide form K kernel.
    let n : ℕ = c.args.n in
    let F : Matrix = c.args.form.now.matrix in
    let leads : List ℕ = c.args.form.now.leads in
    let square : A.height ≡ A.width = high ∙ sym wide in
    let whole : IsFormOf p (beside A (identity A.width)) c.args.form.now = subst (λ n. IsFormOf p (beside A (identity n)) c.args.form.now) (sym wide) form in
    let other : (length leads ≡ A.width) × (0 < A.width → slice_index leads (A.width - 1) < A.width) → ⊥ = λ h.
    let holds : c.fills.result ≡ true = c.fills.ensures.1 (
      ap length c.leads.ensures.value ∙ h.0 ∙ wide,
      λ some. omega (
        arith,
        h.1 (omega (arith, wide)),
        ap (λ ls. slice_index ls (n - 1)) c.leads.ensures.value,
        ap (λ k. slice_index leads (k - 1)) wide,
        wide,
      ),
    ) in
    let not_so : c.fills.result ≡ false = c.if-fills.false in
    cc in
    let far = not_filled p A F leads prime.two_or_more ma square (whole.rref prime) whole.leads other in
    basis_some p A F leads prime.two_or_more ma square (whole.rref prime) whole.leads far.0 far.1 K kernel
