-- A multiple of a row added to another.
use Rattle.std.specs.Prelude.{◌≡◌, ◌<◌, ◌≤◌, ◌+◌, ◌*◌, ◌%◌, ℕ, List, length, slice_index}
use Rattle.residue_words.specs.Matrix.{list_of}

-- the residue of x + a y at k
abbrev pub plus_at : ℕ → ℕ → List ℕ → List ℕ → ℕ → ℕ
plus_at p a x y = λ k. (slice_index x k + a * slice_index y k) % p

-- the residues of x + a y
abbrev pub plus_multiple : ℕ → ℕ → List ℕ → List ℕ → List ℕ
plus_multiple p a x y = list_of (length x) (plus_at p a x y)

-- new is as long as x: its entries below n are those of f, and the others are those of x
pub record IsAddedBelow (f : ℕ → ℕ) (x : List ℕ) (n : ℕ) (new : List ℕ) : Type 0 where
  pub long : length new ≡ length x
  pub added : (k : ℕ) → k < n → slice_index new k ≡ f k
  pub kept : (k : ℕ) → n ≤ k → slice_index new k ≡ slice_index x k

-- new is as long as x: its entries from n on are those of f, and the others are those of x
pub record IsChangedFrom (f : ℕ → ℕ) (x : List ℕ) (n : ℕ) (new : List ℕ) : Type 0 where
  pub long : length new ≡ length x
  pub changed : (k : ℕ) → n ≤ k → k < length x → slice_index new k ≡ f k
  pub kept : (k : ℕ) → k < n → slice_index new k ≡ slice_index x k
