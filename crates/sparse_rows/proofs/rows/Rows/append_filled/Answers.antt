use Rattle.std.proofs.Common.{◌≡◌, ◌∙◌, ap, arith, refl}
use Rattle.residue_words.specs.Matrix.{row}
use Rattle.sparse_rows.specs.Rows.{ResidueMatrix}
use Rattle.sparse_rows.specs.Stored.{spread}
use Rattle.sparse_rows.proofs.Below.{any_err, appended_all, appended_more, appended_zeros, front_none}
use Rattle.sparse_rows.proofs.Spread.{spread_support}
use Rattle.sparse_rows.proofs.rows.Rows.append_filled.Goals as goal

pub loop-i-init : goal.loop-i-init
loop-i-init c = record {
  low = omega arith;
  modulus = refl;
  stacked = front_none c.args.self.now.matrix c.args.from.now.matrix;
}

pub loop-i-preserved : goal.loop-i-preserved
loop-i-preserved c =
    let B : ResidueMatrix = c.args.from.now in
    let sound = c.height-height.ensures.sound in
    let width : c.append_zeros.new.self.matrix.width ≡ B.matrix.width =
    ap (λ m. m.width) (c.in_ok-append_zeros.ensures.matrix) ∙ ap (λ m. m.width) c.loop-i.invariant.stacked ∙ c.requires.width in
    let new : spread c.append_zeros.new.self.matrix.width c.cols.result.now c.vals.result.now ≡ row B.matrix c.in-Some.i =
    rw (c.cols.ensures.support, c.vals.ensures.values, width) (spread_support B.matrix.width (row B.matrix c.in-Some.i) (sound.each c.in-Some.i c.in-Some.ensures.below).len) in
    record {
      low = omega (arith, c.in-Some.ensures.below);
      modulus = c.append_entries.ensures.modulus ∙ c.append_zeros.ensures.modulus ∙ c.loop-i.invariant.modulus;
      stacked = appended_more c.args.self.now.matrix sound c.requires.width c.loop-i.invariant.stacked c.in_ok-append_zeros.ensures.matrix new c.in_ok-append_entries.ensures.matrix c.in-Some.ensures;
    }

pub returns-clause-matrix : goal.returns-clause-matrix
returns-clause-matrix c =
    appended_all c.args.self.now.matrix c.height-height.ensures.sound c.requires.width c.loop-i.invariant.stacked c.loop-i.invariant.low c.in_default.ensures c.height-height.ensures.value c.in_ok-append_zeros-2.ensures.matrix

pub returns-in_err-append_entries-clause-err : goal.returns-in_err-append_entries-clause-err
returns-in_err-append_entries-clause-err c =
    let zeros =
    appended_zeros c.args.self.now.matrix c.height-height.ensures.sound c.requires.width c.loop-i.invariant.stacked c.in_ok-append_zeros.ensures.matrix c.in-Some.ensures in
    any_err c.from_residual-in_err-append_entries.result (c.in-Some.i, omega (arith, c.in-Some.ensures.below), c.in_err-append_entries.ensures.err ∙ zeros)
