use Rattle.std.proofs.Common.{ℕ, ◌≡◌, ◌+◌, ◌-◌, ◌∙◌, ap, ap₂, arith, length, subst, sym}
use Rattle.residue_words.specs.Matrix.{Matrix}
use Rattle.sparse_rows.specs.Placed.{AreBothZeroFrom, IsNextInEither, matrices_from}
use Rattle.sparse_rows.specs.Rows.{with_zeros}
use Rattle.sparse_rows.specs.Stored.{with_row}
use Rattle.sparse_rows.proofs.FilledRows.{beside_zeros, first_beside}
use Rattle.sparse_rows.proofs.Loops.{beside_more, length_zeros}
use Rattle.sparse_rows.proofs.rows.Rows.beside.Goals as goal

pub loop-i-init : goal.loop-i-init
loop-i-init c =
    let A : Matrix = c.args.self.now.matrix in
    let B : Matrix = c.args.right.now.matrix in
    let made : c.in_ok-rows.rows.matrix ≡ first_beside A B 0 = c.in_ok-rows.ensures.matrix in (
      omega (arith, ap (λ m. m.height) made),
      record {
        modulus = c.in_ok-rows.ensures.modulus;
        matrix = made ∙ ap (first_beside A B) (sym (ap (λ m. m.height) made));
        row_modulus = c.new-row.ensures.modulus ∙ c.modulus.ensures.value;
        row_length = ap length c.new-row.ensures.row ∙ length_zeros _ ∙ c.width.ensures.value ∙ ap (λ m. m.width) made;
      },
      c.of-filled.ensures ∙ ap (matrices_from A B) (sym (ap (λ m. m.height) made)),
    )

pub append_at-requires-clause-small : goal.append_at-requires-clause-small
append_at-requires-clause-small c =
    let filled = c.loop-i.invariant.2 in
    omega (arith, c.in-Some.ensures.row.below, ap (λ f. f.left.height) filled, c.requires.heights, c.is_sound.ensures.height)

pub append_at-requires-clause-low : goal.append_at-requires-clause-low
append_at-requires-clause-low c =
    let filled = c.loop-i.invariant.2 in
    omega (arith, c.in-Some.ensures.row.low, ap (λ f. f.from) filled)

pub loop-i-preserved : goal.loop-i-preserved
loop-i-preserved c =
    let A : Matrix = c.args.self.now.matrix in
    let B : Matrix = c.args.right.now.matrix in
    let h : ℕ = c.loop-i.rows.matrix.height in
    let i : ℕ = c.in-Some.i in
    let filled = c.loop-i.invariant.2 in
    let n : IsNextInEither A B h i = subst (λ f. IsNextInEither f.left f.right f.from i) filled c.in-Some.ensures.row in
    let behind : h + (i - h) ≡ i = omega (arith, n.low) in
    let zeros : with_zeros c.loop-i.rows.matrix (i - h) ≡ first_beside A B i =
    ap (λ m. with_zeros m (i - h)) c.loop-i.invariant.1.matrix
    ∙ beside_zeros c.modulus.ensures.sound c.is_sound.ensures.entries c.requires.heights h (i - h) (omega (arith, n.below)) (λ k a b. n.left k (omega arith) (omega arith)) (λ k a b. n.right k (omega arith) (omega arith))
    ∙ ap (first_beside A B) behind in
    let made : c.append_at.new.self.matrix ≡ first_beside A B (i + 1) =
    c.in_ok-append_at.ensures.matrix ∙ ap (λ m. with_row m c.row_beside.new.to.row) zeros ∙ beside_more A B i _ _ c.in_ok-row_beside.ensures.row in (
      omega (arith, ap (λ m. m.height) made, n.below),
      record {
        modulus = c.append_at.ensures.modulus ∙ c.loop-i.invariant.1.modulus;
        matrix = made ∙ ap (first_beside A B) (sym (ap (λ m. m.height) made));
        row_modulus = c.row_beside.ensures.modulus ∙ c.loop-i.invariant.1.row_modulus;
        row_length = c.row_beside.ensures.length ∙ c.loop-i.invariant.1.row_length;
      },
      c.in-Some.ensures.after ∙ ap (λ f. matrices_from f.left f.right (i + 1)) filled ∙ ap (matrices_from A B) (sym (ap (λ m. m.height) made)),
    )

pub returns-clause-matrix : goal.returns-clause-matrix
returns-clause-matrix c =
    let A : Matrix = c.args.self.now.matrix in
    let B : Matrix = c.args.right.now.matrix in
    let h : ℕ = c.loop-i.rows.matrix.height in
    let behind : h + (A.height - h) ≡ A.height = omega (arith, c.loop-i.invariant.0) in
    let z : AreBothZeroFrom A B h = subst (λ f. AreBothZeroFrom f.left f.right f.from) c.loop-i.invariant.2 c.in_default.ensures.row in
    c.in_ok-append_zeros.ensures.matrix ∙ ap₂ with_zeros c.loop-i.invariant.1.matrix (ap₂ ◌-◌ c.height.ensures.value c.height-2.ensures.value)
    ∙ beside_zeros c.modulus.ensures.sound c.is_sound.ensures.entries c.requires.heights h (A.height - h) (omega arith) (λ k a b. z.0 k (omega arith) (omega arith)) (λ k a b. z.1 k (omega arith) (omega (arith, c.requires.heights)))
    ∙ ap (first_beside A B) behind
