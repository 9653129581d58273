use Rattle.std.proofs.Common.{◌≢◌, ◌<◌, length, sym, ◌∙◌, arith, below_more, get_or-set_same, get_or-set_other}
use Rattle.plain_elimination.proofs.Elimination.{taken_back, written_vector}
use Rattle.plain_elimination.proofs.subtract_multiple.Goals as goal

pub loop-j-preserved : goal.loop-j-preserved
loop-j-preserved c =
    let j = c.loop-j.j in
    let at = c.loop-j.invariant in
    let inside : j < length c.loop-j.row = omega arith in
    record {
      vector = written_vector _ _ _ _ _ at.vector c.loop-j-test.true c.sub.ensures.residue;
      value = below_more _ j
          (λ k l. let other : k ≢ j = omega arith in rw get_or-set_other (at.value k l))
          (rw get_or-set_same (sym (at.rest j (omega arith)) ∙ taken_back c.args.p.now _ c.mul.result _ _ (at.vector.residues j c.loop-j-test.true) c.mul.ensures.residue c.mul.ensures.value c.sub.ensures.value));
      rest = λ k l. let other : k ≢ j = omega arith in rw get_or-set_other (at.rest k (omega arith));
    }
