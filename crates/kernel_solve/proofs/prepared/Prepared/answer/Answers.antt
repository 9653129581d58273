use Rattle.std.proofs.Common.{◌≡◌, ℕ, List, length, slice_index, sym, ap, subst, ◌∙◌, arith}
use Rattle.std.proofs.lemmas.Grind.{get_or_default_zero}
use Rattle.residue_words.specs.Residues.{inverse}
use Rattle.residue_words.specs.Matrix.{Matrix, IsMatrix, IsVector, apply, row}
use Rattle.residue_words.proofs.Vectors.{apply_vector, length_list_of}
use Rattle.row_space.specs.Solution.{IsReducedSolution, IsSolution}
use Rattle.sparse_rows.specs.Rows.{ResidueMatrix}
use Rattle.kernel_solve.specs.declared.prepared.Reply.TheVariants.{Solution, Refuted}
use Rattle.kernel_solve.specs.Column.{column}
use Rattle.kernel_solve.specs.Prepared.{IsPreparedFor, IsReply, Preparation}
use Rattle.kernel_solve.specs.Refuted.{AreZeroBehind, IsFirstNonzero, multiple}
use Rattle.kernel_solve.proofs.Matrices.{column_vector}
use Rattle.kernel_solve.proofs.Preparing.{refuted_is, solved_is, vector_moved}
use Rattle.kernel_solve.proofs.prepared.Prepared.answer.Goals as goal

pub times-requires : goal.times-requires
times-requires c =
    let fit = c.self.invariant.0 in
    let B : Matrix = c.args.b.now.matrix in
    vector_moved (column_vector c.is_sound.ensures.entries (omega (arith, c.requires.column)))
    (c.requires.modulus ∙ sym (ap (λ (q : Preparation). q.modulus) c.self.view_is) ∙ sym fit.relations_modulus)
    (c.requires.height ∙ sym (ap (λ (q : Preparation). q.height) c.self.view_is) ∙ sym fit.relations_width)
    (sym (c.deref.ensures.value ∙ c.in_ok-side.ensures))

pub overflow_cast-k : goal.overflow_cast-k
overflow_cast-k c =
    let R : ResidueMatrix = c.self.inside.relations in
    let first : IsFirstNonzero c.in_ok-products.products.items c.in-Some.k = subst (λ xs. IsFirstNonzero xs c.in-Some.k) c.deref-2.ensures.value c.in-Some.ensures in
    let many : length c.in_ok-products.products.items ≡ R.matrix.height = ap length c.in_ok-products.ensures ∙ length_list_of R.matrix.height _ in
    record { fits = omega (arith, first.inside, many, c.is_sound-2.ensures.height) }

pub refuting-requires-clause-row : goal.refuting-requires-clause-row
refuting-requires-clause-row c =
    let R : ResidueMatrix = c.self.inside.relations in
    let first : IsFirstNonzero c.in_ok-products.products.items c.in-Some.k = subst (λ xs. IsFirstNonzero xs c.in-Some.k) c.deref-2.ensures.value c.in-Some.ensures in
    let many : length c.in_ok-products.products.items ≡ R.matrix.height = ap length c.in_ok-products.ensures ∙ length_list_of R.matrix.height _ in
    omega (arith, first.inside, many)

pub refuting-requires-clause-nonzero : goal.refuting-requires-clause-nonzero
refuting-requires-clause-nonzero c = λ z.
    let first : IsFirstNonzero c.in_ok-products.products.items c.in-Some.k = subst (λ xs. IsFirstNonzero xs c.in-Some.k) c.deref-2.ensures.value c.in-Some.ensures in
    first.nonzero (sym (c.index.ensures ∙ get_or_default_zero c.in_ok-products.products.items c.in-Some.k c.index.result.now first.inside) ∙ z)

pub refuting-requires-clause-residue : goal.refuting-requires-clause-residue
refuting-requires-clause-residue c =
    let R : ResidueMatrix = c.self.inside.relations in
    let first : IsFirstNonzero c.in_ok-products.products.items c.in-Some.k = subst (λ xs. IsFirstNonzero xs c.in-Some.k) c.deref-2.ensures.value c.in-Some.ensures in
    let many : length c.in_ok-products.products.items ≡ R.matrix.height = ap length c.in_ok-products.ensures ∙ length_list_of R.matrix.height _ in
    let positive = c.is_sound-2.ensures.entries in
    let vector : IsVector R.modulus R.matrix.height c.in_ok-products.products.items =
    subst (IsVector R.modulus R.matrix.height) (sym c.in_ok-products.ensures) (apply_vector R.modulus R.matrix c.deref.result.now
    (omega (arith, c.is_sound.ensures.two_or_more, c.requires.modulus, ap (λ (q : Preparation). q.modulus) c.self.view_is, c.self.invariant.0.relations_modulus))) in
    omega (arith, c.index.ensures, get_or_default_zero c.in_ok-products.products.items c.in-Some.k c.index.result.now first.inside, vector.residues c.in-Some.k (omega (arith, first.inside, many)))

pub solution-requires : goal.solution-requires
solution-requires c =
    vector_moved (column_vector c.is_sound.ensures.entries (omega (arith, c.requires.column))) c.requires.modulus c.requires.height (sym (c.deref-3.ensures.value ∙ c.in_ok-side.ensures))

pub returns-in-Some : goal.returns-in-Some
returns-in-Some c =
    let s = c.self.inside in
    let R : ResidueMatrix = s.relations in
    let B : Matrix = c.args.b.now.matrix in
    let products : List ℕ = c.in_ok-products.products.items in
    let first : IsFirstNonzero products c.in-Some.k = subst (λ xs. IsFirstNonzero xs c.in-Some.k) c.deref-2.ensures.value c.in-Some.ensures in
    let sound : IsMatrix s.left.modulus B = subst (λ n. IsMatrix n B) (c.requires.modulus ∙ sym (ap (λ (q : Preparation). q.modulus) c.self.view_is)) c.is_sound.ensures.entries in
    let high : B.height ≡ s.left.matrix.height = c.requires.height ∙ sym (ap (λ (q : Preparation). q.height) c.self.view_is) in
    let are : products ≡ apply R.modulus R.matrix (column B) = c.in_ok-products.ensures ∙ ap (apply R.modulus R.matrix) (c.deref.ensures.value ∙ c.in_ok-side.ensures) in
    let value : c.index.result.now ≡ slice_index products c.in-Some.k = c.index.ensures ∙ get_or_default_zero products c.in-Some.k c.index.result.now first.inside in
    subst (λ q. IsReply q B (Refuted c.in_ok-y.y)) c.self.view_is
    (refuted_is s.pivots s.left s.right s.null R c.self.invariant.0 B sound c.requires.column high products are c.in-Some.k c.in_ok-y.y first c.in_ok-y.ensures.modulus c.in_ok-y.ensures.sound c.in_ok-y.ensures.height c.in_ok-y.ensures.width
    (c.in_ok-y.ensures.row ∙ ap (λ v. multiple R.modulus (inverse R.modulus v) (row R.matrix c.in-Some.k)) value))

pub returns : goal.returns
returns c =
    let s = c.self.inside in
    let R : ResidueMatrix = s.relations in
    let B : Matrix = c.args.b.now.matrix in
    let products : List ℕ = c.in_ok-products.products.items in
    let none : AreZeroBehind products 0 = subst (λ xs. AreZeroBehind xs 0) c.deref-2.ensures.value c.in_default.ensures in
    let sound : IsMatrix s.left.modulus B = subst (λ n. IsMatrix n B) (c.requires.modulus ∙ sym (ap (λ (q : Preparation). q.modulus) c.self.view_is)) c.is_sound.ensures.entries in
    let high : B.height ≡ s.left.matrix.height = c.requires.height ∙ sym (ap (λ (q : Preparation). q.height) c.self.view_is) in
    let side : c.deref-3.result.now ≡ column B = c.deref-3.ensures.value ∙ c.in_ok-side.ensures in
    let are : products ≡ apply R.modulus R.matrix (column B) = c.in_ok-products.ensures ∙ ap (apply R.modulus R.matrix) (c.deref.ensures.value ∙ c.in_ok-side.ensures) in
    subst (λ q. IsReply q B (Solution c.in_ok-x.x)) c.self.view_is
    (solved_is s.pivots s.left s.right s.null R c.self.invariant.0 B sound c.requires.column high products are c.in_ok-x.x none
    (c.in_ok-x.ensures.modulus ∙ sym (ap (λ (q : Preparation). q.modulus) c.self.view_is)) c.in_ok-x.ensures.sound (c.in_ok-x.ensures.height ∙ sym (ap (λ (q : Preparation). q.width) c.self.view_is)) c.in_ok-x.ensures.width
    (λ p A prime m prepared solvable. subst (λ b. IsReducedSolution p A b (column c.in_ok-x.x.matrix)) side
    (c.in_ok-x.ensures.solution p A prime m (subst (IsPreparedFor p A) c.self.view_is prepared) (λ none. solvable (subst (λ b. (v : List ℕ) → ¬ IsSolution p A b v) side none)))))
