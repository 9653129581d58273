use Rattle.std.proofs.Common.{ℕ, ◌≡◌, List, length, arith, ap, subst}
use Rattle.residue_words.specs.Matrix.{IsVector, row}
use Rattle.sparse_rows.specs.Rows.{support}
use Rattle.cert_checker.specs.OuterOnes.{IsOutermost}
use Rattle.cert_checker.proofs.Outer.{outer_none, outer_other, outer_yes}
use Rattle.cert_checker.proofs.outer_ones.outer_one.Goals as goal

pub returns-then-cols-eq0-clause-none : goal.returns-then-cols-eq0-clause-none
returns-then-cols-eq0-clause-none c d m =
    let v : List ℕ = row c.args.rows.now.matrix c.args.k in
    let h : IsVector c.args.rows.now.modulus c.args.rows.now.matrix.width v = c.is_sound.ensures.entries.each c.args.k c.requires in
    let n : length c.cols-cols.result.now ≡ length (support v) = ap length c.cols-cols.ensures.support in
    outer_none h c.args.side d (omega (arith, n, c.if-cols-eq0.true)) m

pub returns-then-vals-q-ne1-clause-none : goal.returns-then-vals-q-ne1-clause-none
returns-then-vals-q-ne1-clause-none c d m =
    let v : List ℕ = row c.args.rows.now.matrix c.args.k in
    let h : IsVector c.args.rows.now.modulus c.args.rows.now.matrix.width v = c.is_sound.ensures.entries.each c.args.k c.requires in
    let o : IsOutermost c.args.side (length (support v)) c.outer_place-q.result = subst (λ n. IsOutermost c.args.side n c.outer_place-q.result) (ap length c.cols-cols.ensures.support) c.outer_place-q.ensures in
    outer_other h c.args.side d c.outer_place-q.result o (rw c.vals-vals.ensures.values at c.if-vals-q-ne1.true) m

pub returns-clause-some : goal.returns-clause-some
returns-clause-some c =
    let v : List ℕ = row c.args.rows.now.matrix c.args.k in
    let h : IsVector c.args.rows.now.modulus c.args.rows.now.matrix.width v = c.is_sound.ensures.entries.each c.args.k c.requires in
    let o : IsOutermost c.args.side (length (support v)) c.outer_place-q.result = subst (λ n. IsOutermost c.args.side n c.outer_place-q.result) (ap length c.cols-cols.ensures.support) c.outer_place-q.ensures in
    rw c.cols-cols.ensures.support (outer_yes h c.args.side c.outer_place-q.result o (rw c.vals-vals.ensures.values at c.if-vals-q-ne1.false))
