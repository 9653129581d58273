-- The entries of a row by the places of their columns in an order.
use Rattle.std.specs.Prelude.{◌≡◌, ◌≢◌, ◌<◌, ℕ, List, length, map, slice_index}
use Rattle.std.specs.List.{Contains}
use Rattle.lead_rows.specs.Scattered.{HaveDistinctColumns}
use Rattle.triangular_solve.specs.declared.placed_entries.PlacedEntry.{PlacedEntry}

-- those of w that are not 0 and stand in the columns, each once
pub record ArePlacedEntries (columns w : List ℕ) (entries : List PlacedEntry) : Type 0 where
  pub each : (x : PlacedEntry) → Contains entries x → (x.place < length columns)
      × (x.value ≡ slice_index w (slice_index columns x.place)) × (x.value ≢ 0)
  pub every : (k : ℕ) → k < length columns → slice_index w (slice_index columns k) ≢ 0 →
      (x : PlacedEntry) × Contains entries x × (x.place ≡ k)
  pub distinct : HaveDistinctColumns (map (λ x. x.place) entries)
