-- Pairs whose columns have other names.
use Rattle.std.specs.Prelude.{◌<◌, ℕ, List, map}
use Rattle.std.specs.List.{Contains}
use Rattle.residue_words.specs.declared.plain.Pair.{Pair}
use Rattle.pivot_table.specs.History.{pair}

-- the same rows with their columns renamed
abbrev pub renamed : (ℕ → ℕ) → List Pair → List Pair
renamed f h = map (λ (q : Pair). pair q.row (f q.col)) h

-- the columns of the pairs are below n
abbrev pub AreInside : ℕ → List Pair → Type 0
AreInside n h = (q : Pair) → Contains h q → q.col < n
