use Rattle.std.proofs.Common.{arith}
use Rattle.triangular_solve.proofs.Examples.{three_entries}
use Rattle.elimination_tests.proofs.tests.leads.leaves_the_rest.Goals as goal

pub rest-requires : goal.rest-requires
rest-requires c = three_entries c.requires.modulus c.requires.width 1 0 0 (omega arith) (omega arith) (omega arith)
