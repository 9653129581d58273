use Rattle.std.proofs.Common.{◌≡◌, ℕ, List, length, replicate, sym, refl, ap, subst, ◌∙◌, arith}
use Rattle.std.proofs.lemmas.List.{length-replicate, with_items_is}
use Rattle.std.proofs.lemmas.Result.{IfOk-weaker}
use Rattle.residue_words.specs.Residues.{inverse}
use Rattle.residue_words.specs.Matrix.{IsVector, row}
use Rattle.sparse_rows.specs.Rows.{ResidueMatrix}
use Rattle.sparse_rows.specs.Stored.{spread}
use Rattle.sparse_rows.proofs.Spread.{spread_support, support_sparse}
use Rattle.kernel_solve.specs.Refuted.{multiple}
use Rattle.kernel_solve.specs.Substituted.{AddsTimes}
use Rattle.kernel_solve.proofs.Preparing.{multiple_added, vector_moved}
use Rattle.kernel_solve.proofs.Substituting.{replicate_vector}
use Rattle.kernel_solve.proofs.prepared.refuting.Goals as goal

pub add_multiple-requires-clause-sparse : goal.add_multiple-requires-clause-sparse
add_multiple-requires-clause-sparse c =
    let M : ResidueMatrix = c.args.relations.now in
    let zeros_are : c.in_ok-y.y.items ≡ replicate M.matrix.width 0 = c.in_ok-y.ensures.items_if_clones_equal (λ y e. e) ∙ ap (λ n. replicate {A = ℕ} n 0) c.width.ensures.value in
    let long : length c.as_mut_slice.result.now ≡ M.matrix.width = ap length (c.as_mut_slice.ensures.value ∙ zeros_are) ∙ length-replicate {A = ℕ} M.matrix.width 0 in
    rw (c.modulus-modulus.ensures.value, long, c.cols.ensures.support, c.vals.ensures.values) (support_sparse (c.modulus-modulus.ensures.sound.each c.args.k c.requires.row))

pub add_multiple-requires-clause-vector : goal.add_multiple-requires-clause-vector
add_multiple-requires-clause-vector c =
    let M : ResidueMatrix = c.args.relations.now in
    let zeros_are : c.as_mut_slice.result.now ≡ replicate M.matrix.width 0 =
    c.as_mut_slice.ensures.value ∙ c.in_ok-y.ensures.items_if_clones_equal (λ y e. e) ∙ ap (λ n. replicate {A = ℕ} n 0) c.width.ensures.value in
    vector_moved (replicate_vector c.modulus-modulus.result M.matrix.width (omega (arith, c.modulus-modulus.ensures.two_or_more))) refl
    (sym (ap length zeros_are ∙ length-replicate {A = ℕ} M.matrix.width 0)) (sym zeros_are)

pub row_of-requires-clause-small : goal.row_of-requires-clause-small
row_of-requires-clause-small c =
    let M : ResidueMatrix = c.args.relations.now in
    let zeros_are : c.as_mut_slice.result.now ≡ replicate M.matrix.width 0 =
    c.as_mut_slice.ensures.value ∙ c.in_ok-y.ensures.items_if_clones_equal (λ y e. e) ∙ ap (λ n. replicate {A = ℕ} n 0) c.width.ensures.value in
    let long : length c.add_multiple.new.x ≡ M.matrix.width = c.add_multiple.ensures.vector.len ∙ ap length zeros_are ∙ length-replicate {A = ℕ} M.matrix.width 0 in
    let whole = with_items_is c.in_ok-y.y c.add_multiple.new.x (c.add_multiple.ensures.vector.len ∙ ap length c.as_mut_slice.ensures.value ∙ sym c.in_ok-y.y.ok.0) in
    omega (arith, ap length (c.deref.ensures.value ∙ whole), long, c.width.ensures.value, c.width.ensures.bound)

pub row_of-requires-clause-residues : goal.row_of-requires-clause-residues
row_of-requires-clause-residues c =
    let whole = with_items_is c.in_ok-y.y c.add_multiple.new.x (c.add_multiple.ensures.vector.len ∙ ap length c.as_mut_slice.ensures.value ∙ sym c.in_ok-y.y.ok.0) in
    let all : c.deref.result.now ≡ c.add_multiple.new.x = c.deref.ensures.value ∙ whole in
    vector_moved c.add_multiple.ensures.vector refl (sym (ap length all ∙ c.add_multiple.ensures.vector.len)) (sym all)

pub returns-clause-width : goal.returns-clause-width
returns-clause-width c =
    let M : ResidueMatrix = c.args.relations.now in
    let zeros_are : c.as_mut_slice.result.now ≡ replicate M.matrix.width 0 =
    c.as_mut_slice.ensures.value ∙ c.in_ok-y.ensures.items_if_clones_equal (λ y e. e) ∙ ap (λ n. replicate {A = ℕ} n 0) c.width.ensures.value in
    let whole = with_items_is c.in_ok-y.y c.add_multiple.new.x (c.add_multiple.ensures.vector.len ∙ ap length c.as_mut_slice.ensures.value ∙ sym c.in_ok-y.y.ok.0) in
    IfOk-weaker c.row_of.result _ _
    (λ y wide. wide ∙ ap length (c.deref.ensures.value ∙ whole) ∙ c.add_multiple.ensures.vector.len ∙ ap length zeros_are ∙ length-replicate {A = ℕ} M.matrix.width 0) c.row_of.ensures.width

pub returns-clause-row : goal.returns-clause-row
returns-clause-row c =
    let M : ResidueMatrix = c.args.relations.now in
    let p : ℕ = M.modulus in
    let n : ℕ = M.matrix.width in
    let v : List ℕ = row M.matrix c.args.k in
    let is : c.modulus-modulus.result ≡ p = c.modulus-modulus.ensures.value in
    let vector : IsVector p n v = c.modulus-modulus.ensures.sound.each c.args.k c.requires.row in
    let start : List ℕ = c.as_mut_slice.result.now in
    let zeros_are : start ≡ replicate n 0 = c.as_mut_slice.ensures.value ∙ c.in_ok-y.ensures.items_if_clones_equal (λ y e. e) ∙ ap (λ n. replicate {A = ℕ} n 0) c.width.ensures.value in
    let long : length start ≡ n = ap length zeros_are ∙ length-replicate {A = ℕ} n 0 in
    let whole = with_items_is c.in_ok-y.y c.add_multiple.new.x (c.add_multiple.ensures.vector.len ∙ ap length c.as_mut_slice.ensures.value ∙ sym c.in_ok-y.y.ok.0) in
    let spread_is : spread (length start) c.cols.result.now c.vals.result.now ≡ v = rw (long, c.cols.ensures.support, c.vals.ensures.values) (spread_support n v vector.len) in
    let adds : AddsTimes p c.inv-factor.result v start c.add_multiple.new.x =
    subst (λ u. AddsTimes p c.inv-factor.result u start c.add_multiple.new.x) spread_is (subst (λ q. AddsTimes q c.inv-factor.result (spread (length start) c.cols.result.now c.vals.result.now) start c.add_multiple.new.x) is c.add_multiple.ensures.adds) in
    IfOk-weaker c.row_of.result _ _ (λ y is_row. is_row ∙ c.deref.ensures.value ∙ whole
    ∙ multiple_added p c.inv-factor.result n v start c.add_multiple.new.x vector.len (c.add_multiple.ensures.vector.len ∙ long) zeros_are adds
    ∙ ap (λ f. multiple p f v) (c.inv-factor.ensures.value ∙ ap (λ q. inverse q c.args.product) is)) c.row_of.ensures.row
