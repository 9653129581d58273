use Rattle.std.proofs.lemmas.Result.{IfOk-weaker}
use Rattle.pivot_table.specs.Greedy.{IsGreedy}
use Rattle.pivot_table.specs.History.{Maximal, StartsWith}
use Rattle.pivot_table.specs.Book.{BookState}
use Rattle.optimistic_search.proofs.Searching.{greedy_starts, greedy_maximal}
use Rattle.optimistic_search.proofs.workers.search_alone.Goals as goal

pub returns-clause-begins : goal.returns-clause-begins
returns-clause-begins c =
    let A = c.args.book.rows.matrix in
    IfOk-weaker c.search_by_entries.result (λ (b : BookState). IsGreedy A c.args.book.pairs b.pairs) (λ (b : BookState). StartsWith b.pairs c.args.book.pairs) (λ b g. greedy_starts A c.args.book.pairs b.pairs A.height g) c.search_by_entries.ensures.greedy

pub returns-clause-maximal : goal.returns-clause-maximal
returns-clause-maximal c =
    let A = c.args.book.rows.matrix in
    IfOk-weaker c.search_by_entries.result (λ (b : BookState). IsGreedy A c.args.book.pairs b.pairs) (λ (b : BookState). Maximal A b.pairs) (λ b g. greedy_maximal A c.args.book.pairs b.pairs g) c.search_by_entries.ensures.greedy
