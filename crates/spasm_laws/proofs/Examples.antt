-- The examples worked.
use Rattle.std.proofs.Common.{refl}
use Rattle.std.specs.Fmt.{digits}
use Rattle.residue_words.specs.Residues.{inverse_below}
use Rattle.spasm_laws.specs.Examples.{AreWorkedRuns}

pub worked_runs : AreWorkedRuns
unfolding inverse_below digits
worked_runs = record {
  says = record { items = _; rest = _; reads = refl; are = refl };
  outside = refl;
  text = refl;
  fits = refl;
  misfits = refl;
  usage = refl;
  fault = refl;
  shape = refl;
  never = λ h. (let e = h.3 in cc);
  pivots = refl;
}
