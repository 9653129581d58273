use Rattle.std.proofs.Common.{ap, ◌≡◌, ◌<◌, ◌+◌, ◌-◌, ◌*◌, ◌%◌, ◌∙◌, arith}
use Rattle.std.proofs.Math.Nat.{add-mod-mod}
use Rattle.residue_words.proofs.Quotients.{rest_residue}
use Rattle.dense_rows.proofs.multiplier.Multiplier.sum.Goals as goal

pub returns-then-sum-p : goal.returns-then-sum-p
returns-then-sum-p c =
    let m = c.args.self.now in
    let product : c.times.result ≡ m.factor * c.args.y % m.p = c.times.ensures.value ∙ ap (λ s. s.factor * c.args.y % s.modulus) m.same in
    rest_residue m.p 0 (c.args.x + c.times.result) (c.args.x + c.times.result) (omega arith) (omega arith)
    ∙ ap (λ t. (c.args.x + t) % m.p) product ∙ add-mod-mod c.args.x (m.factor * c.args.y) m.p

pub returns-else-sum-p : goal.returns-else-sum-p
returns-else-sum-p c =
    let m = c.args.self.now in
    let product : c.times.result ≡ m.factor * c.args.y % m.p = c.times.ensures.value ∙ ap (λ s. s.factor * c.args.y % s.modulus) m.same in
    let less : c.times.result < m.p = omega (arith, c.times.ensures.residue, ap (λ s. s.modulus) m.same) in
    rest_residue m.p 1 (c.args.x + c.times.result) (c.args.x + c.times.result - c.from-p.result) (omega arith) (omega arith)
    ∙ ap (λ t. (c.args.x + t) % m.p) product ∙ add-mod-mod c.args.x (m.factor * c.args.y) m.p
