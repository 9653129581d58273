-- The plain elimination: what it keeps of the rows passed so far.
use Rattle.std.specs.Prelude.{◌≡◌, ◌≢◌, ◌<◌, ◌++◌, ◌∷◌, [], ℕ, List, Vec, length, map, slice_index}
use Rattle.std.specs.declared.alloc.Global.{Global}
use Rattle.residue_words.specs.Residues.{IsPrime}
use Rattle.residue_words.specs.Matrix.{Matrix, IsMatrix, entry}
use Rattle.row_space.specs.Echelon.{SameSpan}
use Rattle.row_space.specs.Rows.{HasSteps, of_rows}

-- the rows as lists
abbrev pub lists : List (Vec ℕ Global) → List (List ℕ)
lists rows = map (λ v. v.items) rows

-- the matrix with these rows of this width: its height is their number
abbrev pub plain_matrix : ℕ → List (Vec ℕ Global) → Matrix
plain_matrix width rows = of_rows width (lists rows)

-- the first nonzero entry of v stands at j
pub record StartsAt (v : List ℕ) (j : ℕ) : Type 0 where
  pub inside : j < length v
  pub nonzero : slice_index v j ≢ 0
  pub first : (i : ℕ) → i < j → slice_index v i ≡ 0

-- these rows of residues are kept, each with its lead, a column
pub record AreKept (p width : ℕ) (kept : List (List ℕ)) (leads : List ℕ) : Type 0 where
  pub matrix : IsMatrix p (of_rows width kept)
  pub len : length leads ≡ length kept
  pub inside : (k : ℕ) → k < length leads → slice_index leads k < width

-- the kept rows stand in steps at their leads, and have the row space of the rows that were passed
pub record AreReduced (p width : ℕ) (rows kept : List (List ℕ)) (leads : List ℕ) : Type 0 where
  pub steps : HasSteps (length kept) width (entry (of_rows width kept)) (slice_index leads)
  pub span : SameSpan p (of_rows width rows) (of_rows width kept)

-- kept rows and their leads
pub record KeptSteps : Type 0 where
  pub kept : List (List ℕ)
  pub leads : List ℕ

abbrev pub steps : List (Vec ℕ Global) → List ℕ → KeptSteps
steps kept leads = record { kept = lists kept; leads = leads }

-- with the row v the kept rows became these: they reduce the rows and v where before they reduced the rows
abbrev pub PassesRow : ℕ → ℕ → List ℕ → KeptSteps → KeptSteps → Type 0
PassesRow p width v old new = IsPrime p → (rows : List (List ℕ)) → IsMatrix p (of_rows width rows) →
    AreReduced p width rows old.kept old.leads → AreReduced p width (rows ++ v ∷ []) new.kept new.leads
