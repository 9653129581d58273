-- Rows whose entries stand in any order, one after another.
use Rattle.std.specs.Prelude.{◌≡◌, ◌<◌, ◌≤◌, ◌+◌, ◌-◌, ℕ, List, length, slice_index}
use Rattle.sparse_rows.specs.Stored.{part}
use Rattle.lead_rows.specs.Scattered.{IsScattered}

-- rows of n residues modulo p, one after another
pub record AreScattered (p n : ℕ) (starts cs vs : List ℕ) : Type 0 where
  pub two_or_more : 2 ≤ p
  pub some : 0 < length starts
  pub last : slice_index starts (length starts - 1) ≡ length cs
  pub rising : (i : ℕ) → i + 1 < length starts → slice_index starts i ≤ slice_index starts (i + 1)
  pub within : (i : ℕ) → i < length starts → slice_index starts i ≤ length cs
  pub long : length cs ≡ length vs
  pub each : (i : ℕ) → i + 1 < length starts → IsScattered p n (part starts cs i) (part starts vs i)
