-- Lists of which few items are not 0, and marks by bits.
use Rattle.std.specs.Prelude.{◌≡◌, ◌≢◌, ◌<◌, ◌≤◌, ◌*◌, ◌/◌, ◌%◌, ℕ, List, length, slice_index, slice_set}
use Rattle.std.specs.Int.{bit_at}
use Rattle.residue_words.specs.Matrix.{list_of}

-- nothing stands in the list but zeros
abbrev pub AllZero : List ℕ → Type 0
AllZero xs = (j : ℕ) → j < length xs → slice_index xs j ≡ 0

-- v is the first item that is not 0; it stands at c and is taken away
pub record TakesFirst (old new : List ℕ) (c v : ℕ) : Type 0 where
  pub inside : c < length old
  pub value : v ≡ slice_index old c
  pub nonzero : v ≢ 0
  pub before : (j : ℕ) → j < c → slice_index old j ≡ 0
  pub after : new ≡ slice_set old c 0

-- bit j of words of 64 bits
abbrev pub bit : List ℕ → ℕ → ℕ
bit words j = bit_at (slice_index words (j / 64)) (j % 64)

-- the first n bits
abbrev pub marks_of : ℕ → List ℕ → List ℕ
marks_of n words = list_of n (bit words)

-- bit k of a word is set, and none below it
pub record IsLowest (word k : ℕ) : Type 0 where
  pub below : k < 64
  pub one : bit_at word k ≡ 1
  pub before : (i : ℕ) → i < k → bit_at word i ≡ 0

-- word w is the first that is not 0
pub record IsFirstWord (words : List ℕ) (w : ℕ) : Type 0 where
  pub inside : w < length words
  pub some : slice_index words w ≢ 0
  pub before : (v : ℕ) → v < w → slice_index words v ≡ 0

-- a bit for each word that is not 0, and perhaps for some that are
pub record AreTops (words tops : List ℕ) : Type 0 where
  pub long : length words ≤ 64 * length tops
  pub raised : (w : ℕ) → slice_index words w ≢ 0 → bit tops w ≡ 1
  pub inside : (w : ℕ) → bit tops w ≡ 1 → w < length words

-- n bits with those above them; the words before `first` are 0
pub record IsMarks (n : ℕ) (words tops : List ℕ) (first : ℕ) : Type 0 where
  pub long : n ≤ 64 * length words
  pub inside : (j : ℕ) → bit words j ≡ 1 → j < n
  pub covered : AreTops words tops
  pub present : first < length words
  pub behind : (w : ℕ) → w < first → slice_index words w ≡ 0
