use Rattle.std.proofs.Common.{rules, ◌≡◌, ◌∙◌, List, subst}
use Rattle.std.proofs.lemmas.List.Sorted.{IsNonDecreasingBy-from_sort_by_key}
use Rattle.std.specs.List.Sorted.{IsPermutation}
use Rattle.residue_words.specs.declared.plain.Pair.{Pair}
use Rattle.triangular_solve.proofs.Listing.{sorted_pivots}
use Rattle.triangular_solve.proofs.triangle.by_columns.Goals as goal

pub returns-clause-pivots : goal.returns-clause-pivots
returns-clause-pivots c =
    let sorted = c.sort_unstable_by_key.new.self.items in
    let items : c.in_ok-sorted.sorted.items ≡ c.args.book.now.pairs = c.in_ok-sorted.ensures.items ∙ c.pairs.ensures.pairs in
    sorted_pivots c.pairs.ensures.grown (subst (λ (qs : List Pair). IsPermutation qs sorted) items c.sort_unstable_by_key.ensures.permutation)
    (IsNonDecreasingBy-from_sort_by_key (λ (p : Pair). p.col) sorted c.sort_unstable_by_key.ensures.sorted (λ a r q k. search rules))
