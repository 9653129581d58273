use Rattle.std.proofs.lemmas.Result.{IfOk-weaker}
use Rattle.pivot_table.specs.Greedy.{IsGreedy}
use Rattle.pivot_table.specs.History.{Maximal, StartsWith}
use Rattle.pivot_table.specs.Book.{BookState}
use Rattle.optimistic_search.proofs.Searching.{greedy_starts, greedy_maximal}
use Rattle.optimistic_search.proofs.by_walk.search_by_walk.Goals as goal

pub returns-clause-begins : goal.returns-clause-begins
returns-clause-begins g c =
    let A = c.args.book.rows.matrix in
    IfOk-weaker c.search_with.result (λ (b : BookState). IsGreedy A c.args.book.pairs b.pairs) (λ (b : BookState). StartsWith b.pairs c.args.book.pairs) (λ b g. greedy_starts A c.args.book.pairs b.pairs A.height g) c.search_with.ensures.greedy

pub returns-clause-maximal : goal.returns-clause-maximal
returns-clause-maximal g c =
    let A = c.args.book.rows.matrix in
    IfOk-weaker c.search_with.result (λ (b : BookState). IsGreedy A c.args.book.pairs b.pairs) (λ (b : BookState). Maximal A b.pairs) (λ b g. greedy_maximal A c.args.book.pairs b.pairs g) c.search_with.ensures.greedy
