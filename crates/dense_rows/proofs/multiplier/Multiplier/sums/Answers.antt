use Rattle.std.proofs.Common.{ap, ◌∙◌, ◌<◌, ◌+◌, ◌*◌, ◌%◌, get_or, arith, mod-lt}
use Rattle.std.proofs.Math.Nat.{add-mod-mod}
use Rattle.dense_rows.proofs.Vectors.{lane_of_sums}
use Rattle.dense_rows.proofs.multiplier.Multiplier.sums.Goals as goal

pub residues-requires-clause-lanes : goal.residues-requires-clause-lanes
residues-requires-clause-lanes c = λ k l.
    let m = c.args.self.now in
    let below : m.factor * get_or c.args.y k 0 % m.p < m.p = mod-lt (m.factor * get_or c.args.y k 0) (omega (arith, m.residue)) in
    let right : get_or c.products.result k 0 < m.p = omega (arith, c.products.ensures k l) in
    let left : get_or c.args.x k 0 < m.p = c.requires k l in
    omega (arith, lane_of_sums 8 m.p c.args.x c.products.result k c.fits-x.0 (omega arith) m.in_range l left right)

pub returns : goal.returns
returns c = λ k l.
    let m = c.args.self.now in
    let below : m.factor * get_or c.args.y k 0 % m.p < m.p = mod-lt (m.factor * get_or c.args.y k 0) (omega (arith, m.residue)) in
    let right : get_or c.products.result k 0 < m.p = omega (arith, c.products.ensures k l) in
    c.residues.ensures k l
    ∙ ap (λ t. t % m.p) (lane_of_sums 8 m.p c.args.x c.products.result k c.fits-x.0 (omega arith) m.in_range l (c.requires k l) right)
    ∙ ap (λ t. (get_or c.args.x k 0 + t) % m.p) (c.products.ensures k l)
    ∙ add-mod-mod (get_or c.args.x k 0) (m.factor * get_or c.args.y k 0) m.p
