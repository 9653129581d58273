-- What callers see of a desk and of a taker.
use Rattle.std.specs.Prelude.{◌≡◌, ℕ, ◌<◌, Bool, true, false, List, [], ◌∷◌, ◌++◌, length, slice_index}
use Rattle.atomic_table.specs.Seated.{TableId}
use Rattle.atomic_table.specs.declared.badge.Badge.{Badge}
use Rattle.crossbeam_channel.specs.declared.flavors.array.Key.{Key}
use Rattle.question_desk.specs.declared.number_or_end.NumberOrEnd.{NumberOrEnd}

-- a desk: the names of its channel, and how many numbers it began with
pub record DeskState : Type 0 where
  pub table : TableId
  pub keys : Badge (Key NumberOrEnd)
  pub count : ℕ

-- a taker: the names and the numbers of its desk, the numbers that it was given, in order, and whether it was told that none is left
pub record TakerState : Type 0 where
  pub table : TableId
  pub keys : Badge (Key NumberOrEnd)
  pub count : ℕ
  pub taken : List ℕ
  pub drained : Bool

-- the taker is one of this desk
abbrev pub IsTakerOf : DeskState → TakerState → Type 0
IsTakerOf d t = (t.table ≡ d.table) × (t.keys ≡ d.keys) × (t.count ≡ d.count)

-- the taker, who had not been told that none is left, was given n, above all that it had been given
pub record TakesNumber (before after : TakerState) (n : ℕ) : Type 0 where
  pub below : n < before.count
  pub above : (k : ℕ) → k < length before.taken → slice_index before.taken k < n
  pub taken : after.taken ≡ before.taken ++ n ∷ []
  pub undrained : before.drained ≡ false
  pub still : after.drained ≡ false

-- the taker was told that none is left
pub record LeavesDrained (before after : TakerState) : Type 0 where
  pub taken : after.taken ≡ before.taken
  pub drained : after.drained ≡ true
