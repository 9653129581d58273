use Rattle.std.proofs.Common.{true, false, ◌≡◌, sym, arith}
use Rattle.residue_words.proofs.Euclid.{euclid_steps, euclid_one, euclid_ends}
use Rattle.residue_words.proofs.Inverses.{euclid_inverse, euclid_none}
use Rattle.residue_words.proofs.modulus.Modulus.inv.Goals as goal

pub loop-rest-preserved : goal.loop-rest-preserved
loop-rest-preserved c = euclid_steps _ _ _ _ _ _ _ c.self.invariant.0 c.loop-rest.invariant c.loop-rest-test.true

pub returns-then-negative-clause-inverse : goal.returns-then-negative-clause-inverse
returns-then-negative-clause-inverse c = rw (← c.self.view_is) (λ prime.
    euclid_ends _ _ _ _ _ _ true (rw c.if-negative.true at c.loop-rest.invariant) c.loop-rest-test.false prime)

pub returns-else-negative-clause-inverse : goal.returns-else-negative-clause-inverse
returns-else-negative-clause-inverse c = rw (← c.self.view_is) (λ prime.
    euclid_ends _ _ _ _ _ _ false (rw c.if-negative.false at c.loop-rest.invariant) c.loop-rest-test.false prime)

pub returns-then-rest-eq0-clause-value : goal.returns-then-rest-eq0-clause-value
returns-then-rest-eq0-clause-value c = rw (← c.self.view_is) (sym (euclid_none _ _ _ _ _ _ _ c.self.invariant.0 c.loop-rest.invariant c.if-rest-eq0.true))

pub returns-then-rest-eq0-clause-inverse : goal.returns-then-rest-eq0-clause-inverse
returns-then-rest-eq0-clause-inverse c = rw (← c.self.view_is) (λ prime.
    let one : c.loop-rest.rest ≡ 1 = euclid_one _ _ _ _ _ _ _ c.loop-rest.invariant c.loop-rest-test.false prime in
    absurd (omega (arith, c.if-rest-eq0.true)))

pub returns-then-negative-clause-value : goal.returns-then-negative-clause-value
returns-then-negative-clause-value c =
    let one : c.loop-rest.rest ≡ 1 = omega (arith, c.if-rest-eq0.false, c.loop-rest-test.false) in
    rw (← c.self.view_is) (sym (euclid_inverse _ _ _ _ _ _ true c.self.invariant.0 (rw c.if-negative.true at c.loop-rest.invariant) one))

pub returns-else-negative-clause-value : goal.returns-else-negative-clause-value
returns-else-negative-clause-value c =
    let one : c.loop-rest.rest ≡ 1 = omega (arith, c.if-rest-eq0.false, c.loop-rest-test.false) in
    rw (← c.self.view_is) (sym (euclid_inverse _ _ _ _ _ _ false c.self.invariant.0 (rw c.if-negative.false at c.loop-rest.invariant) one))
