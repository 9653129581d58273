use Rattle.std.proofs.Common.{ℕ, ◌≡◌, ◌∙◌, List, refl, slice_index, ap, subst, sym}
use Rattle.residue_words.specs.Matrix.{Matrix}
use Rattle.residue_words.specs.declared.plain.Pair.{Pair}
use Rattle.sparse_rows.specs.Rows.{ResidueMatrix, narrowed}
use Rattle.pivot_table.specs.Greedy.{IsGreedy}
use Rattle.optimistic_search.specs.Renamed.{renamed}
use Rattle.optimistic_search.proofs.Renaming.{narrow_greedy}
use Rattle.optimistic_search.proofs.Searching.{greedy_starts}
use Rattle.optimistic_search.proofs.narrow.search_columns.Goals as goal

pub push_widened-requires-clause-begins : goal.push_widened-requires-clause-begins
push_widened-requires-clause-begins c =
    let A : Matrix = c.args.book.rows.matrix in
    let C : List ℕ = c.args.columns.now in
    let start = c.in_ok-start.start in
    let found : List Pair = c.in_ok-found.found.pairs in
    let given : List Pair = c.reserve.new.self.pairs in
    let is : start.rows.matrix ≡ narrowed A C = ap (λ (m : ResidueMatrix). m.matrix) c.in_ok-start.ensures.rows ∙ c.requires.matrix in
    greedy_starts A given (renamed (slice_index C) found) A.height (narrow_greedy start.pairs found given c.requires.enough refl refl is c.in_ok-start.ensures.inside c.in_ok-start.ensures.pairs c.in_ok-found.ensures.greedy)

pub returns-clause-greedy : goal.returns-clause-greedy
returns-clause-greedy c =
    let A : Matrix = c.args.book.rows.matrix in
    let C : List ℕ = c.args.columns.now in
    let start = c.in_ok-start.start in
    let found : List Pair = c.in_ok-found.found.pairs in
    let is : start.rows.matrix ≡ narrowed A C = ap (λ (m : ResidueMatrix). m.matrix) c.in_ok-start.ensures.rows ∙ c.requires.matrix in
    let greedy = narrow_greedy start.pairs found c.args.book.pairs c.requires.enough refl refl is c.in_ok-start.ensures.inside (c.in_ok-start.ensures.pairs ∙ c.reserve.ensures.pairs) c.in_ok-found.ensures.greedy in
    subst (IsGreedy A c.args.book.pairs) (sym c.push_widened.ensures.pairs) greedy
