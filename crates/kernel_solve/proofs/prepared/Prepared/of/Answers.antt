use Rattle.std.proofs.Common.{ℕ, sym, subst, ◌∙◌, arith}
use Rattle.std.proofs.lemmas.Result.{IfOk-weaker}
use Rattle.residue_words.specs.Matrix.{Matrix}
use Rattle.kernel_solve.specs.Prepared.{IsPreparedFor}
use Rattle.kernel_solve.proofs.prepared.Prepared.of.Goals as goal

pub by_factors-requires : goal.by_factors-requires
by_factors-requires g c = record {
  right_modulus = c.in_ok-factors.ensures.right_modulus ∙ sym c.in_ok-factors.ensures.left_modulus;
  null_modulus = c.in_ok-null.ensures.modulus ∙ sym c.in_ok-factors.ensures.left_modulus;
  relations_modulus = c.in_ok-relations.ensures.modulus ∙ sym c.in_ok-factors.ensures.left_modulus;
  left_width = c.in_ok-factors.ensures.fit.left_width;
  right_height = c.in_ok-factors.ensures.fit.right_height;
  null_width = c.in_ok-null.ensures.width ∙ sym c.in_ok-factors.ensures.fit.right_width;
  relations_width = c.in_ok-relations.ensures.width ∙ sym c.in_ok-factors.ensures.fit.left_height;
  rows_below = λ k l. omega (arith, c.in_ok-factors.ensures.fit.rows_below k l, c.in_ok-factors.ensures.fit.left_height);
  columns_below = λ k l. omega (arith, c.in_ok-factors.ensures.fit.columns_below k l, c.in_ok-factors.ensures.fit.right_width);
}

pub returns : goal.returns
returns g c =
    let p : ℕ = c.args.a.now.modulus in
    let A : Matrix = c.args.a.now.matrix in
    IfOk-weaker c.by_factors.result _ _ (λ q made. subst (IsPreparedFor p A) (sym made) (record {
      modulus = c.in_ok-factors.ensures.left_modulus;
      height = c.in_ok-factors.ensures.fit.left_height;
      width = c.in_ok-factors.ensures.fit.right_width;
      factors = c.in_ok-factors.ensures.factors;
      null = c.in_ok-null.ensures.kernel;
      relations = c.in_ok-relations.ensures.kernel;
    })) c.by_factors.ensures
