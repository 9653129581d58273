use Rattle.std.proofs.Common.{ℕ, ◌<◌, ◌≤◌, sym, subst, arith, ◌∙◌}
use Rattle.std.proofs.lemmas.Bool.{false≢true}
use Rattle.residue_words.specs.Matrix.{Matrix, IsMatrix}
use Rattle.cert_checker.proofs.Combining.{row_along, row_here, row_yes, row_zero}
use Rattle.cert_checker.proofs.product.is_row_of_product.Goals as goal

pub returns-then-not-is_zero_at-clause-combined : goal.returns-then-not-is_zero_at-clause-combined
returns-then-not-is_zero_at-clause-combined c =
    let V : Matrix = c.args.v.now.matrix in
    let Y : Matrix = c.args.y.now.matrix in
    let p : ℕ = c.args.b.now.modulus in
    let two : 2 ≤ p = omega (arith, c.modulus-p.ensures.two_or_more, c.modulus-p.ensures.value) in
    let v : IsMatrix p V = subst (λ q. IsMatrix q V) c.requires.fit.modulus c.is_sound.ensures.entries in
    let y : IsMatrix p Y = subst (λ q. IsMatrix q Y) c.requires.fit.left_modulus c.is_sound-2.ensures.entries in
    let ly : c.args.i < Y.height = omega (arith, c.requires.row, c.requires.fit.height) in
    let took = rw (c.modulus-p.ensures.value, c.cols.ensures.support, c.vals.ensures.values) at c.take_off.ensures.sums in
    let added = rw (c.modulus-p.ensures.value, c.cols-2.ensures.support, c.vals-2.ensures.values) at c.add_rows.ensures.sums in (
      λ e. absurd (false≢true e),
      λ is. absurd (false≢true (sym c.if-not-is_zero_at.true ∙ c.is_zero_at.ensures.1 (rw c.cols-3.ensures.support
          (row_here c.args.i two v y c.modulus-p.ensures.sound c.requires.row ly c.requires.fit.width c.requires.fit.inner c.args.sums.now c.take_off.new.sums c.add_rows.new.sums c.requires.width c.requires.zero took added is)))),
    )

pub returns-clause-zero : goal.returns-clause-zero
returns-clause-zero c e j l =
    let V : Matrix = c.args.v.now.matrix in
    let Y : Matrix = c.args.y.now.matrix in
    let p : ℕ = c.args.b.now.modulus in
    let two : 2 ≤ p = omega (arith, c.modulus-p.ensures.two_or_more, c.modulus-p.ensures.value) in
    let v : IsMatrix p V = subst (λ q. IsMatrix q V) c.requires.fit.modulus c.is_sound.ensures.entries in
    let y : IsMatrix p Y = subst (λ q. IsMatrix q Y) c.requires.fit.left_modulus c.is_sound-2.ensures.entries in
    let ly : c.args.i < Y.height = omega (arith, c.requires.row, c.requires.fit.height) in
    let took = rw (c.modulus-p.ensures.value, c.cols.ensures.support, c.vals.ensures.values) at c.take_off.ensures.sums in
    let added = rw (c.modulus-p.ensures.value, c.cols-2.ensures.support, c.vals-2.ensures.values) at c.add_rows.ensures.sums in
    let here = rw c.cols-3.ensures.support at (c.is_zero_at.ensures.0 c.if-not-is_zero_at.false) in
    let along = rw c.cols-4.ensures.support at (c.is_zero_along.ensures.0 e) in
    row_zero c.args.i two v y c.modulus-p.ensures.sound c.requires.row ly c.requires.fit.width c.requires.fit.inner c.args.sums.now c.take_off.new.sums c.add_rows.new.sums c.requires.width c.requires.zero took added here along j
    (omega (arith, l, c.add_rows.ensures.residues.len))

pub returns-clause-combined : goal.returns-clause-combined
returns-clause-combined c =
    let V : Matrix = c.args.v.now.matrix in
    let Y : Matrix = c.args.y.now.matrix in
    let p : ℕ = c.args.b.now.modulus in
    let two : 2 ≤ p = omega (arith, c.modulus-p.ensures.two_or_more, c.modulus-p.ensures.value) in
    let v : IsMatrix p V = subst (λ q. IsMatrix q V) c.requires.fit.modulus c.is_sound.ensures.entries in
    let y : IsMatrix p Y = subst (λ q. IsMatrix q Y) c.requires.fit.left_modulus c.is_sound-2.ensures.entries in
    let ly : c.args.i < Y.height = omega (arith, c.requires.row, c.requires.fit.height) in
    let took = rw (c.modulus-p.ensures.value, c.cols.ensures.support, c.vals.ensures.values) at c.take_off.ensures.sums in
    let added = rw (c.modulus-p.ensures.value, c.cols-2.ensures.support, c.vals-2.ensures.values) at c.add_rows.ensures.sums in
    let here = rw c.cols-3.ensures.support at (c.is_zero_at.ensures.0 c.if-not-is_zero_at.false) in (
      λ e. row_yes c.args.i two v y c.modulus-p.ensures.sound c.requires.row ly c.requires.fit.width c.requires.fit.inner c.args.sums.now c.take_off.new.sums c.add_rows.new.sums c.requires.width c.requires.zero took added here
          (rw c.cols-4.ensures.support at (c.is_zero_along.ensures.0 e)),
      λ is. c.is_zero_along.ensures.1 (rw c.cols-4.ensures.support
          (row_along c.args.i two v y c.modulus-p.ensures.sound c.requires.row ly c.requires.fit.width c.requires.fit.inner c.args.sums.now c.take_off.new.sums c.add_rows.new.sums c.requires.width c.requires.zero took added is)),
    )
