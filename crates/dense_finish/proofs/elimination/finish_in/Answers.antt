use Rattle.std.proofs.lemmas.Result.{IfOk-weaker}
use Rattle.dense_finish.proofs.Assembling.{assembled}
use Rattle.dense_finish.proofs.elimination.finish_in.Goals as goal

pub returns : goal.returns
returns g c = IfOk-weaker c.factors_of.result _ _ (λ factors are. assembled c.in_ok-block.ensures.block c.in_ok-pivots.ensures are.modulus are.residues are.left are.right) c.factors_of.ensures

pub of-requires-clause-modulus : goal.of-requires-clause-modulus
of-requires-clause-modulus g c κs within = c.requires.modulus

pub eliminate-requires-clause-dense : goal.eliminate-requires-clause-dense
eliminate-requires-clause-dense g c κs within = c.in_ok-block.ensures.dense

pub eliminate-requires-clause-modulus : goal.eliminate-requires-clause-modulus
eliminate-requires-clause-modulus g c κs within = rw c.in_ok-block.ensures.block.modulus c.requires.modulus

pub factors_of-requires-clause-dense : goal.factors_of-requires-clause-dense
factors_of-requires-clause-dense g c κs within = c.in_ok-pivots.ensures.dense

pub factors_of-requires-clause-pivots : goal.factors_of-requires-clause-pivots
factors_of-requires-clause-pivots g c κs within = c.in_ok-pivots.ensures.stand
