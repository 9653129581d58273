-- What the rule of a desk says of the takers together.
use Rattle.std.specs.Prelude.{◌≡◌, ℕ, ◌<◌, true, List}
use mathlib.Core.Option.{some}
use lib.ListN.{get_elem?}
use Rattle.question_desk.specs.declared.number_or_end.NumberOrEnd.{NumberOrEnd}
use Rattle.question_desk.specs.declared.known_numbers.KnownNumbers.{KnownNumbers}
use Rattle.question_desk.specs.Rule.{KeepsDesk, StandsOnce, Took}

-- a number stands in the lists of two passes only where they are one
abbrev pub ListsShareNoNumber : Type 0
ListsShareNoNumber = (items : List NumberOrEnd) (views : List KnownNumbers) → KeepsDesk items views →
    (i j n : ℕ) → Took views i n → Took views j n → i ≡ j

-- where a pass is drained, each of the numbers that were put stands in just one list
abbrev pub DrainedLeavesNone : Type 0
DrainedLeavesNone = (items : List NumberOrEnd) (views : List KnownNumbers) → KeepsDesk items views →
    (i : ℕ) (v : KnownNumbers) → get_elem? views i ≡ some v → v.drained ≡ true
    → (n : ℕ) → n < v.count → StandsOnce views n
