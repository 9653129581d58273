use Rattle.std.proofs.Common.{◌∙◌, length, ap, arith}
use Rattle.sparse_rows.proofs.Loops.{length_zeros}
use Rattle.triangular_solve.specs.Triangle.{TriangleState}
use Rattle.triangular_solve.proofs.PlacingRows.{triangular_short}
use Rattle.triangular_solve.proofs.triangle.Triangle.room.Goals as goal

pub overflow_cast-len : goal.overflow_cast-len
overflow_cast-len c = record { fits = omega (arith, triangular_short c.self.invariant.0, c.width.ensures.value, c.width.ensures.bound, c.len.ensures) }

pub returns : goal.returns
returns c = record {
  rest_modulus = c.new.ensures.modulus ∙ c.modulus-modulus.ensures.value ∙ ap (λ (t : TriangleState). t.rows.modulus) c.self.view_is;
  rest_width = ap length c.new.ensures.row ∙ length_zeros c.width.result ∙ c.width.ensures.value ∙ ap (λ (t : TriangleState). t.rows.matrix.width) c.self.view_is;
  coefficients_modulus = c.new-2.ensures.modulus ∙ c.modulus-modulus.ensures.value ∙ ap (λ (t : TriangleState). t.rows.modulus) c.self.view_is;
  coefficients_count = ap length c.new-2.ensures.row ∙ length_zeros c.len.result ∙ omega (arith, c.len.ensures, ap (λ (t : TriangleState). length t.pairs) c.self.view_is);
}
