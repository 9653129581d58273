use Rattle.residue_words.proofs.Euclid.{IsEuclid}
use Rattle.residue_words.proofs.modulus.Modulus.inv.Given as goal

abbrev pub invariant-loop-rest : goal.invariant-loop-rest
invariant-loop-rest l = IsEuclid l.p l.fn.a l.before l.rest l.factor_before l.factor l.negative

abbrev pub decreases-loop-rest : goal.decreases-loop-rest
decreases-loop-rest l = l.rest
