-- Places in the room that a caller gives for them.
use Rattle.std.specs.Prelude.{◌≡◌, ◌<◌, ◌⊎◌, List, length, map, take}
use Rattle.residue_words.specs.declared.plain.Pair.{Pair}
use Rattle.spasm_c.specs.declared.places.Places.{Places}

-- the arrays and what is told are as they were
pub record ArePlacesKept (old new : Places) : Type 0 where
  pub rows : new.rows.now ≡ old.rows.now
  pub columns : new.columns.now ≡ old.columns.now
  pub needed : new.needed ≡ old.needed

-- the pairs were written to the first places, in order, and it is told how many
pub record ArePlacesWritten (pairs : List Pair) (new : Places) : Type 0 where
  pub needed : new.needed ≡ length pairs
  pub rows : take new.needed new.rows.now ≡ map (λ q. q.row) pairs
  pub columns : take new.needed new.columns.now ≡ map (λ q. q.col) pairs

-- an array is too short for the pairs: it is told how many, and the arrays are as they were
pub record ArePlacesTold (pairs : List Pair) (old new : Places) : Type 0 where
  pub needed : new.needed ≡ length pairs
  pub short : (length old.rows.now < new.needed) ⊎ (length old.columns.now < new.needed)
  pub rows : new.rows.now ≡ old.rows.now
  pub columns : new.columns.now ≡ old.columns.now

-- pairs of which P holds were written
abbrev pub HoldsPlaces : (List Pair → Type 0) → Places → Type 0
HoldsPlaces P new = (pairs : List Pair) × P pairs × ArePlacesWritten pairs new

-- there is no room for pairs of which P holds
abbrev pub LacksPlaces : (List Pair → Type 0) → Places → Places → Type 0
LacksPlaces P old new = (pairs : List Pair) × P pairs × ArePlacesTold pairs old new
