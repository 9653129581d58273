-- Rows of residues that are stored with their zeros.
use Rattle.std.specs.Prelude.{◌<◌, ℕ, List, [], length, slice_index, slice_index_or}
use Rattle.residue_words.specs.Matrix.{IsVector}

-- row t of a block's rows, and its entry at j: 0 outside
abbrev pub block_row : List (List ℕ) → ℕ → List ℕ
block_row rows t = slice_index_or rows t []

abbrev pub entry_of : List (List ℕ) → ℕ → ℕ → ℕ
entry_of rows t j = slice_index (block_row rows t) j

-- each row is one of n residues
abbrev pub AreVectors : ℕ → ℕ → List (List ℕ) → Type 0
AreVectors p n rows = (t : ℕ) → t < length rows → IsVector p n (block_row rows t)
