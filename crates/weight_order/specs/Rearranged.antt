-- Rows whose columns stand in another order.
use Rattle.std.specs.Prelude.{◌≡◌, ◌<◌, ℕ, List, length, map, slice_index}
use Rattle.std.specs.List.{range_with_len}

-- at each of these columns stands its place among them
abbrev pub ArePlacesIn : List ℕ → List ℕ → Type 0
ArePlacesIn columns places = (t : ℕ) → t < length columns → slice_index places (slice_index columns t) ≡ t

-- the places of a row's columns, each before the value
abbrev pub paired : List ℕ → List ℕ → List ℕ → List (ℕ × ℕ)
paired places cols vals = map (λ k. (slice_index places (slice_index cols k), slice_index vals k))
    (range_with_len 0 (length cols))
