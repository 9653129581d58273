use Rattle.std.proofs.Common.{ℕ, map, subst, sym, ◌∙◌}
use Rattle.std.proofs.lemmas.Bool.{false≢true}
use Rattle.std.proofs.lemmas.Result.{IfOk-weaker}
use Rattle.residue_words.specs.Matrix.{Matrix, IsMatrix}
use Rattle.sparse_rows.specs.Rows.{AreBelow}
use Rattle.cert_checker.proofs.Factors.{factors_cols, factors_left, factors_made, factors_product, factors_right, factors_rows}
use Rattle.cert_checker.proofs.factoring.are_factors.Goals as goal

pub returns-then-not-left : goal.returns-then-not-left
returns-then-not-left c =
    let A : Matrix = c.args.a.now.matrix in
    let L : Matrix = c.args.l.now.matrix in
    let U : Matrix = c.args.u.now.matrix in
    let p : ℕ = c.args.a.now.modulus in
    let l : IsMatrix p L = subst (λ q. IsMatrix q L) c.requires.left c.is_sound-2.ensures.entries in
    let u : IsMatrix p U = subst (λ q. IsMatrix q U) c.requires.right c.is_sound-3.ensures.entries in
    let sizes = c.are_of_sizes.ensures.0 c.if-not-are_of_sizes.false in (
      λ e. absurd (false≢true e),
      λ f. absurd (false≢true (sym c.if-not-left.true ∙ c.in_ok-left.ensures.1 (
        subst (λ n. AreBelow n (map (λ q. q.row) c.args.pivots.now)) (sym sizes.left_height) (factors_rows p A c.args.pivots.now L U c.is_sound.ensures.entries l u f),
        factors_left p A c.args.pivots.now L U c.is_sound.ensures.entries l u f,
      ))),
    )

pub returns-then-not-right : goal.returns-then-not-right
returns-then-not-right c =
    let A : Matrix = c.args.a.now.matrix in
    let L : Matrix = c.args.l.now.matrix in
    let U : Matrix = c.args.u.now.matrix in
    let p : ℕ = c.args.a.now.modulus in
    let l : IsMatrix p L = subst (λ q. IsMatrix q L) c.requires.left c.is_sound-2.ensures.entries in
    let u : IsMatrix p U = subst (λ q. IsMatrix q U) c.requires.right c.is_sound-3.ensures.entries in
    let sizes = c.are_of_sizes.ensures.0 c.if-not-are_of_sizes.false in (
      λ e. absurd (false≢true e),
      λ f. absurd (false≢true (sym c.if-not-right.true ∙ c.in_ok-right.ensures.1 (
        subst (λ n. AreBelow n (map (λ q. q.col) c.args.pivots.now)) (sym sizes.right_width) (factors_cols p A c.args.pivots.now L U c.is_sound.ensures.entries l u f),
        factors_right p A c.args.pivots.now L U c.is_sound.ensures.entries l u f,
      ))),
    )

pub returns : goal.returns
returns c =
    let A : Matrix = c.args.a.now.matrix in
    let L : Matrix = c.args.l.now.matrix in
    let U : Matrix = c.args.u.now.matrix in
    let p : ℕ = c.args.a.now.modulus in
    let l : IsMatrix p L = subst (λ q. IsMatrix q L) c.requires.left c.is_sound-2.ensures.entries in
    let u : IsMatrix p U = subst (λ q. IsMatrix q U) c.requires.right c.is_sound-3.ensures.entries in
    let sizes = c.are_of_sizes.ensures.0 c.if-not-are_of_sizes.false in
    let left = c.in_ok-left.ensures.0 c.if-not-left.false in
    let right = c.in_ok-right.ensures.0 c.if-not-right.false in
    let lr : AreBelow A.height (map (λ q. q.row) c.args.pivots.now) = subst (λ n. AreBelow n (map (λ q. q.row) c.args.pivots.now)) sizes.left_height left.0 in
    let lc : AreBelow A.width (map (λ q. q.col) c.args.pivots.now) = subst (λ n. AreBelow n (map (λ q. q.col) c.args.pivots.now)) sizes.right_width right.0 in
    IfOk-weaker c.is_product.result _ _ (λ yes told.
    let product = rw c.requires.right at told in (
      λ e. factors_made p A c.args.pivots.now L U c.is_sound.ensures.entries l u sizes lr lc left.1 right.1 (product.0 e),
      λ f. product.1 (factors_product p A c.args.pivots.now L U c.is_sound.ensures.entries l u f),
    )) c.is_product.ensures
