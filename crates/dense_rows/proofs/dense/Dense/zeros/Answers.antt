use Rattle.std.proofs.Common.{◌≡◌, ◌∙◌, ap, arith, map, replicate, subst, sym}
use Rattle.residue_words.specs.Matrix.{IsVector}
use Rattle.residue_words.proofs.Vectors.{zeros_vector}
use Rattle.dense_rows.proofs.Zeros.{filled_zeros, resized_empty}
use Rattle.dense_rows.proofs.dense.Dense.zeros.Goals as goal

pub returns-clause-row : goal.returns-clause-row
returns-clause-row g c =
    let n = c.args.n in
    let x = c.of.result in
    let items : c.resize.new.self.items ≡ replicate n x =
    c.in_ok-resize.ensures.items ∙ resized_empty n c.in_ok-places.places.len x c.in_ok-places.places.items c.in_ok-places.ensures.items c.in_ok-places.ensures.len in
    ap (map g.W.Residue.value) items ∙ filled_zeros g.W.Residue.value n x c.of.ensures

pub returns-clause-vector : goal.returns-clause-vector
returns-clause-vector g c =
    let n = c.args.n in
    let x = c.of.result in
    let items : c.resize.new.self.items ≡ replicate n x =
    c.in_ok-resize.ensures.items ∙ resized_empty n c.in_ok-places.places.len x c.in_ok-places.places.items c.in_ok-places.ensures.items c.in_ok-places.ensures.len in
    subst (IsVector c.args.p.now n) (sym (ap (map g.W.Residue.value) items ∙ filled_zeros g.W.Residue.value n x c.of.ensures))
    (zeros_vector c.args.p.now n (omega (arith, c.is_sound.ensures.two_or_more)))
