-- From factors and what is claimed to the certificate.
use Rattle.std.proofs.Common.{◌∙◌, arith, subst}
use Rattle.pluq_factor.specs.Staged.{Staged}
use Rattle.spasm_lib.proofs.Claims.{certificate_modulus, certificate_valid, certificate_written, factors_show_rows}
use Rattle.spasm_lib.proofs.certifying.certificate.Goals as goal

pub claimed-requires-clause-width : goal.claimed-requires-clause-width
claimed-requires-clause-width g c = omega (arith, c.in_ok-pivots.ensures.factors.sizes.right_width, c.requires.width)

pub returns-clause-modulus : goal.returns-clause-modulus
returns-clause-modulus g c =
    let A = c.args.a.now in
    let factors = c.in_ok-pivots in
    certificate_modulus A factors.field-0 c.p.result c.in_ok-claim.claim factors.ensures.factors
    (c.in_ok-claim.ensures.claimed A.modulus A.matrix c.modulus.ensures.sound (factors_show_rows c.modulus.ensures.sound factors.ensures.factors))

pub returns-clause-text : goal.returns-clause-text
returns-clause-text g c =
    let A = c.args.a.now in
    let factors = c.in_ok-pivots in
    certificate_written A factors.field-0 c.p.result c.in_ok-claim.claim factors.ensures.factors
    (c.in_ok-claim.ensures.claimed A.modulus A.matrix c.modulus.ensures.sound (factors_show_rows c.modulus.ensures.sound factors.ensures.factors))
    c.requires.height c.requires.width c.p.ensures.in_range

pub returns-clause-valid : goal.returns-clause-valid
returns-clause-valid g c = λ prime.
    let A = c.args.a.now in
    let factors = c.in_ok-pivots in
    certificate_valid A factors.field-0 c.p.result c.in_ok-claim.claim factors.ensures.factors
    (c.in_ok-claim.ensures.claimed A.modulus A.matrix c.modulus.ensures.sound (factors_show_rows c.modulus.ensures.sound factors.ensures.factors))
    (c.p.ensures.value ∙ c.modulus.ensures.value) prime

pub returns-clause-staged : goal.returns-clause-staged
returns-clause-staged g c = λ prime.
    let A = c.args.a.now in
    let factors = c.in_ok-pivots in
    let plan = c.plan.result in
    subst (λ r. Staged A.modulus A.matrix c.args.team.workers r factors.field-0.pivots) c.plan.ensures.rounds
    (subst (λ w. Staged A.modulus A.matrix w plan.rounds factors.field-0.pivots) c.plan.ensures.workers (factors.ensures.staged prime))
