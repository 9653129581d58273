use Rattle.std.proofs.Common.{arith, ◌∙◌}
use Rattle.triangular_solve.proofs.Examples.{three_entries}
use Rattle.elimination_tests.proofs.tests.leads.inserts_two_of_three.Goals as goal

pub insert-first-requires : goal.insert-first-requires
insert-first-requires c = three_entries c.requires.modulus c.requires.width 2 4 1 (omega arith) (omega arith) (omega arith)

pub insert-second-requires : goal.insert-second-requires
insert-second-requires c =
    three_entries (c.insert-first.ensures.modulus ∙ c.requires.modulus) (c.insert-first.ensures.width ∙ c.requires.width) 1 2 0 (omega arith) (omega arith) (omega arith)

pub insert-third-requires : goal.insert-third-requires
insert-third-requires c =
    three_entries (c.insert-second.ensures.modulus ∙ c.insert-first.ensures.modulus ∙ c.requires.modulus)
    (c.insert-second.ensures.width ∙ c.insert-first.ensures.width ∙ c.requires.width) 3 6 1 (omega arith) (omega arith) (omega arith)
