use Rattle.cert_checker.proofs.showing.are_single_columns.Goals as goal

pub are_single-requires : goal.are_single-requires
are_single-requires c = rw c.in_ok-columns.ensures.matrix c.requires

pub returns : goal.returns
returns c = rw c.in_ok-columns.ensures.matrix at c.are_single.ensures
