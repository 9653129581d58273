use Rattle.std.proofs.Common.{[], sym}
use Rattle.std.proofs.lemmas.List.{append-nil}
use Rattle.optimistic_search.proofs.Searching.{tried_settled, tried_starts}
use Rattle.optimistic_search.proofs.team_search.try_unless_done.Goals as goal

pub returns-clause-begins : goal.returns-clause-begins
returns-clause-begins g c =
    let h = c.args.search.now.pairs in
    tried_starts c.args.search.now.rows.matrix c.args.row h h c.try_row.new.self.pairs c.try_row.ensures.tried ([], sym (append-nil h))

pub returns-clause-settled : goal.returns-clause-settled
returns-clause-settled g c = tried_settled c.args.search.now.rows.matrix c.args.row c.args.search.now.pairs c.try_row.new.self.pairs c.try_row.ensures.tried
