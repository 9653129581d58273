use Rattle.std.proofs.Common.{◌≡◌, ◌+◌, ◌-◌, ◌<◌, ◌∙◌, arith, inl, inr, mod-eq_of_lt, sym}
use Rattle.std.proofs.Math.Nat.{mod-eq-sub-mod}
use Rattle.std.proofs.lemmas.Bool.{cases_lt}
use Rattle.cert_checker.proofs.product.sum_modulo.Goals as goal

pub returns-clause-value : goal.returns-clause-value
returns-clause-value c =
    let sum = c.args.a + c.args.b in
    let p = c.args.p.now in
    let same = c.p-p.ensures.value in
    elim (cases_lt sum p) [
      | inl l ↦ let is : c.min.result ≡ sum = omega (arith, same) in is ∙ sym (mod-eq_of_lt l)
      | inr g ↦
          let is : c.min.result ≡ sum - p = omega (arith, same) in
          let below : sum - p < p = omega arith in
          is ∙ sym (mod-eq_of_lt below) ∙ sym (mod-eq-sub-mod g)
    ]

pub returns-clause-residue : goal.returns-clause-residue
returns-clause-residue c = let same = c.p-p.ensures.value in omega (arith, same)
