-- Matrices that are generated from a seed (this project's own).
use Rattle.std.specs.Prelude.{◌≡◌, ◌<◌, ◌≤◌, ◌+◌, ◌-◌, ◌*◌, ◌/◌, ◌%◌, ◌^◌, ℕ, zero, suc, List, [], ◌∷◌, map}
use Rattle.std.specs.List.{flat_map, range_with_len}
use Rattle.residue_words.specs.Matrix.{Matrix}
use Rattle.sparse_rows.specs.Rows.{Triple, built}
use Rattle.spasm_words.specs.declared.generator.Generator.{Generator}
use Rattle.spasm_words.specs.declared.generator.TheConstants.{LARGEST_GENERATED}

-- the state behind x of a linear congruential generator (Knuth's, of MMIX)
abbrev pub next_state : ℕ → ℕ
next_state x = (x * 6364136223846793005 + 1442695040888963407) % 2 ^ 64

-- the state after n steps from a seed
unfoldable pub state_after : ℕ → ℕ → ℕ
state_after seed zero = seed
state_after seed (suc n) = next_state (state_after seed n)

-- the number that step n gives, counted from 0: the upper bits of the state behind it
abbrev pub random_number : ℕ → ℕ → ℕ
random_number seed n = state_after seed (n + 1) / 2 ^ 33

-- entry t of row i takes two numbers: one for its column, and one for its value, which isn't 0
abbrev pub generated_entry : ℕ → Generator → ℕ → ℕ → Triple
generated_entry p g i t = record {
  i = i;
  j = random_number g.seed (2 * (i * g.per + t)) % g.cols;
  v = 1 + random_number g.seed (2 * (i * g.per + t) + 1) % (p - 1);
}

-- the entries of row i
abbrev pub generated_row : ℕ → Generator → ℕ → List Triple
generated_row p g i = map (generated_entry p g i) (range_with_len 0 g.per)

-- the matrix that is generated: the sum of the entries at each place
abbrev pub generated : ℕ → Generator → Matrix
generated p g = built p g.rows g.cols (flat_map (generated_row p g) (range_with_len 0 g.rows))

-- numbers of two seeds, and a matrix of two rows and three columns with two entries a row, modulo 7
pub record AreGeneratedSo : Type 0 where
  pub first : random_number 0 0 ≡ 167951807
  pub other : random_number 1 0 ≡ 908834774
  pub parities : map (λ n. random_number 1 n % 2) (0 ∷ 1 ∷ 2 ∷ 3 ∷ []) ≡ 0 ∷ 1 ∷ 0 ∷ 0 ∷ []
  pub matrix : (generated 7 (record { seed = 1; rows = 2; cols = 3; per = 2 })).rows
      ≡ (1 ∷ 0 ∷ 4 ∷ []) ∷ (6 ∷ 0 ∷ 5 ∷ []) ∷ []

-- the sizes lie in the range of what can be generated
pub record HasSizesInRange (g : Generator) : Type 0 where
  pub rows : g.rows ≤ LARGEST_GENERATED
  pub some : 0 < g.cols
  pub cols : g.cols ≤ LARGEST_GENERATED
