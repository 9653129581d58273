-- The example worked.
use Rattle.std.proofs.Common.{zero, suc, [], ◌∷◌, refl, arith}
use Rattle.pivot_table.proofs.Example.{worked as histories}
use Rattle.run_trace.specs.Example.{AreWorkedTraces}
use Rattle.run_trace.specs.Lawful.{AreUpToPlaces}

first_versions : AreUpToPlaces (0 ∷ 1 ∷ [])
first_versions zero l = omega arith
first_versions (suc zero) l = omega arith
first_versions (suc (suc k)) l = absurd (omega arith)

pub worked : AreWorkedTraces
worked = record {
  said = refl;
  lawful = record { modulus = refl; lawful = record { grown = histories.grown; low = first_versions } };
  other_modulus = λ is. absurd (let e = is.modulus in omega arith);
  late = λ is. absurd (let l = is.lawful.low 0 (omega arith) in omega arith);
}
