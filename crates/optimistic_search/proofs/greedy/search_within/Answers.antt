use Rattle.optimistic_search.proofs.Searching.{greedy_starts}
use Rattle.optimistic_search.proofs.greedy.search_within.Goals as goal

pub returns-clause-begins : goal.returns-clause-begins
returns-clause-begins c =
    let A = c.args.book.rows.matrix in
    greedy_starts A c.args.book.pairs c.in_ok-found.found.pairs A.height (c.in_ok-found.ensures.greedy c.if-not-whole.false)

pub returns-clause-greedy : goal.returns-clause-greedy
returns-clause-greedy c = c.in_ok-found.ensures.greedy c.if-not-whole.false
