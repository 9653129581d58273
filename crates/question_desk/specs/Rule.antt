-- The rule of a desk's channel: over what it holds, oldest first, and over what each pass at it knows.
use Rattle.std.specs.Prelude.{◌≡◌, ℕ, ◌+◌, ◌<◌, Bool, true, false, List, [], ◌∷◌, ◌++◌, length, map, replicate, slice_index}
use Rattle.std.specs.List.{Contains, range_with_len}
use mathlib.Core.Option.{some}
use lib.ListN.{get_elem?}
use Rattle.sparse_rows.specs.Rows.{AreRising}
use Rattle.question_desk.specs.declared.number_or_end.NumberOrEnd.{NumberOrEnd}
use Rattle.question_desk.specs.declared.number_or_end.NumberOrEnd.TheVariants.{Number, End}
use Rattle.question_desk.specs.declared.known_numbers.KnownNumbers.{KnownNumbers}

abbrev pub numbers_known : ℕ → List ℕ → Bool → Bool → KnownNumbers
numbers_known count taken drained fills = record { count = count; taken = taken; drained = drained; fills = fills }

-- the first pass, once so many numbers were put
abbrev pub known_filling : ℕ → KnownNumbers
known_filling count = numbers_known count [] false true

abbrev pub known_first : KnownNumbers
known_first = known_filling 0

-- a number more was put
abbrev pub filled : KnownNumbers → KnownNumbers
filled v = numbers_known (v.count + 1) v.taken false true

-- numbers are no longer put
abbrev pub known_kept : KnownNumbers → KnownNumbers
known_kept v = numbers_known v.count v.taken v.drained false

-- a new pass
abbrev pub known_new : KnownNumbers → KnownNumbers
known_new v = numbers_known v.count [] false false

-- what is taken joins the list, and is above all in it; an end tells that nothing is left
abbrev pub Gives : KnownNumbers → NumberOrEnd → KnownNumbers → Type 0
Gives v (Number n) w = (w ≡ numbers_known v.count (v.taken ++ n ∷ []) false false) × (v.drained ≡ false)
    × (n < v.count)
    × ((k : ℕ) → k < length v.taken → slice_index v.taken k < n)
Gives v End w = w ≡ numbers_known v.count v.taken true false

-- the numbers from `from` on, so many, and behind them ends
abbrev pub numbers_and_ends : ℕ → ℕ → ℕ → List NumberOrEnd
numbers_and_ends from left ends = map Number (range_with_len from left) ++ replicate ends End

-- n stands in the list of pass i
pub record Took (views : List KnownNumbers) (i n : ℕ) : Type 0 where
  pub known : KnownNumbers
  pub at : get_elem? views i ≡ some known
  pub has : Contains known.taken n

-- n stands in just one list
pub record StandsOnce (views : List KnownNumbers) (n : ℕ) : Type 0 where
  pub who : ℕ
  pub took : Took views who n
  pub alone : (j : ℕ) → Took views j n → j ≡ who

-- Of the numbers 0 to count - 1 those from `from` on are in the queue, in order, and behind them nothing but ends.
-- Each number before them stands in just one list, and the lists hold no other numbers. Each list rises. Where one is drained,
-- no number is in the queue.
pub record IsServed (count : ℕ) (items : List NumberOrEnd) (views : List KnownNumbers) : Type 0 where
  pub from : ℕ
  pub left : ℕ
  pub ends : ℕ
  pub suffix : from + left ≡ count
  pub queue : items ≡ numbers_and_ends from left ends
  pub once : (n : ℕ) → n < from → StandsOnce views n
  pub below : (i n : ℕ) → Took views i n → n < from
  pub rising : (i : ℕ) (v : KnownNumbers) → get_elem? views i ≡ some v → AreRising v.taken
  pub drained : (i : ℕ) (v : KnownNumbers) → get_elem? views i ≡ some v → v.drained ≡ true → left ≡ 0

-- the pass is alone, and nothing was taken
pub record IsFillingDesk (views : List KnownNumbers) (v : KnownNumbers) (from ends : ℕ) : Type 0 where
  pub alone : views ≡ v ∷ []
  pub untouched : from ≡ 0
  pub endless : ends ≡ 0

-- The rule. While the numbers are put, count is that of the numbers so far.
pub record KeepsDesk (items : List NumberOrEnd) (views : List KnownNumbers) : Type 0 where
  pub count : ℕ
  pub served : IsServed count items views
  pub counts : (i : ℕ) (v : KnownNumbers) → get_elem? views i ≡ some v → v.count ≡ count
  pub filling : (i : ℕ) (v : KnownNumbers) → get_elem? views i ≡ some v → v.fills ≡ true →
      IsFillingDesk views v served.from served.ends
