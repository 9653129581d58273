-- What workers make of a round: parts of the matrix, row by row.
use Rattle.std.specs.Prelude.{◌≡◌, ◌<◌, ◌≤◌, ◌+◌, ℕ, Bool, true, List, Result, Vec, All, Contains, length, slice_index, IfOk}
use Rattle.std.specs.declared.alloc.Global.{Global}
use Rattle.residue_words.specs.Matrix.{Matrix, IsMatrix, IsVector, row, zeros}
use Rattle.residue_words.specs.Residues.{IsPrime}
use Rattle.row_space.specs.Factors.{row_at}
use Rattle.row_space.specs.Inverse.{unit}
use Rattle.sparse_rows.specs.Rows.{IsNextFilled, IsZeroRow, above, with_zeros, LARGEST_SIZE}
use Rattle.sparse_rows.specs.Stored.{with_row}
use Rattle.triangular_solve.specs.Reduced.{IsPivotRow, IsReduced, IsSchurRow, Reduction}
use Rattle.triangular_solve.specs.Triangle.{TriangleState}
use Rattle.schur_rows.specs.PivotNumbers.{HasNumbers}
use Rattle.schur_rows.specs.declared.round.SchurRows.{SchurRows}
use Rattle.schur_rows.specs.declared.dealt_rows.DealtRows.{DealtRows}
use Rattle.schur_rows.specs.declared.stage.Stage.{Stage}
use Rattle.schur_rows.specs.declared.numbered_part.NumberedPart.{NumberedPart}

-- r is row i of a round: a pivot row is itself and leaves nothing, for another row its Schur row is left; where the
-- coefficients are kept, they split the row
pub record IsRowOfRound (t : TriangleState) (with_coefficients : Bool) (i : ℕ) (r : Reduction) : Type 0 where
  pub nothing : IsPivotRow t.pairs i → r.rest ≡ zeros t.rows.matrix.width
  pub itself : with_coefficients ≡ true → (k : ℕ) → k < length t.pairs → row_at t.pairs k ≡ i →
      r.coefficients ≡ unit (length t.pairs) k
  pub left : IsPrime t.rows.modulus → ¬ IsPivotRow t.pairs i →
      IsSchurRow t.rows.modulus t.rows.matrix t.pairs (row t.rows.matrix i) r.rest
  pub split : with_coefficients ≡ true → IsPrime t.rows.modulus → ¬ IsPivotRow t.pairs i →
      IsReduced t.rows.modulus t.rows.matrix t.pairs (row t.rows.matrix i) r

-- the rows of a round from `from` on, as many as there are
pub record IsPart (t : TriangleState) (with_coefficients : Bool) (from : ℕ) (s : SchurRows) : Type 0 where
  pub modulus : s.rows.modulus ≡ t.rows.modulus
  pub rest : IsMatrix t.rows.modulus s.rows.matrix
  pub width : s.rows.matrix.width ≡ t.rows.matrix.width
  pub coefficient_modulus : s.coefficients.modulus ≡ t.rows.modulus
  pub coefficients : IsMatrix t.rows.modulus s.coefficients.matrix
  pub coefficient_width : s.coefficients.matrix.width ≡ length t.pairs
  pub height : s.coefficients.matrix.height ≡ s.rows.matrix.height
  pub each : (x : ℕ) → x < s.rows.matrix.height →
      IsRowOfRound t with_coefficients (from + x) (record {
        rest = row s.rows.matrix x;
        coefficients = row s.coefficients.matrix x;
      })

-- the rows from `from` up to `to`
abbrev pub IsPartTo : TriangleState → Bool → ℕ → ℕ → SchurRows → Type 0
IsPartTo t with_coefficients from to s =
    IsPart t with_coefficients from s × (from + s.rows.matrix.height ≡ to)

-- the rows from `from` up to `to` have no entry
abbrev pub AreZeroRows : Matrix → ℕ → ℕ → Type 0
AreZeroRows A from to = (k : ℕ) → from ≤ k → k < to → IsZeroRow A k

-- i is the first of them that has one
abbrev pub IsNextBelow : Matrix → ℕ → ℕ → ℕ → Type 0
IsNextBelow A from to i = IsNextFilled A from i × (i < to)

-- both matrices have so many rows of zeros more
pub record AddsZeros (count : ℕ) (old new : SchurRows) : Type 0 where
  pub modulus : new.rows.modulus ≡ old.rows.modulus
  pub rows : new.rows.matrix ≡ with_zeros old.rows.matrix count
  pub coefficient_modulus : new.coefficients.modulus ≡ old.coefficients.modulus
  pub coefficients : new.coefficients.matrix ≡ with_zeros old.coefficients.matrix count

-- each matrix has one row more, these
pub record AddsRow (r : Reduction) (old new : SchurRows) : Type 0 where
  pub modulus : new.rows.modulus ≡ old.rows.modulus
  pub rows : new.rows.matrix ≡ with_row old.rows.matrix r.rest
  pub coefficient_modulus : new.coefficients.modulus ≡ old.coefficients.modulus
  pub coefficients : new.coefficients.matrix ≡ with_row old.coefficients.matrix r.coefficients

-- what is left of the k-th pivot's row: nothing, and the row itself once
abbrev pub itself : SchurRows → ℕ → Reduction
itself s k = record { rest = zeros s.rows.matrix.width; coefficients = unit s.coefficients.matrix.width k }

-- they are row i of a round
pub record AddsReduced (t : TriangleState) (with_coefficients : Bool) (i : ℕ)
    (old new : SchurRows) : Type 0 where
  pub left : Reduction
  pub rest : IsVector t.rows.modulus t.rows.matrix.width left.rest
  pub coefficients : IsVector t.rows.modulus (length t.pairs) left.coefficients
  pub is_row : IsRowOfRound t with_coefficients i left
  pub added : AddsRow left old new

-- there is room for one row more
pub record MayTakeRow (t : TriangleState) (part : SchurRows) : Type 0 where
  pub modulus : part.rows.modulus ≡ t.rows.modulus
  pub width : part.rows.matrix.width ≡ t.rows.matrix.width
  pub coefficient_modulus : part.coefficients.modulus ≡ t.rows.modulus
  pub coefficient_width : part.coefficients.matrix.width ≡ length t.pairs
  pub low : part.rows.matrix.height < LARGEST_SIZE
  pub coefficients_low : part.coefficients.matrix.height < LARGEST_SIZE

-- the rows of `part` stand below those of `old`
pub record Joins (part old new : SchurRows) : Type 0 where
  pub modulus : new.rows.modulus ≡ old.rows.modulus
  pub rows : new.rows.matrix ≡ above old.rows.matrix part.rows.matrix
  pub coefficient_modulus : new.coefficients.modulus ≡ old.coefficients.modulus
  pub coefficients : new.coefficients.matrix ≡ above old.coefficients.matrix part.coefficients.matrix

-- where so many parts of the rows from `from` up to `to` begin, one behind the other, and where the last one ends
pub record ArePartCuts (from to count : ℕ) (cuts : List ℕ) : Type 0 where
  pub long : length cuts ≡ count + 1
  pub first : slice_index cuts 0 ≡ from
  pub last : slice_index cuts count ≡ to
  pub order : (j : ℕ) → j < count → slice_index cuts j ≤ slice_index cuts (j + 1)
  pub inside : (j : ℕ) → j ≤ count → slice_index cuts j ≤ to

-- the parts are those of the cuts, of rows of the matrix, and the pass knows which rows are pivots'
pub record AreDealtRows (deal : DealtRows) : Type 0 where
  pub numbers : HasNumbers deal.pass.reducer.now.pairs deal.pass.pivot_rows.now
  pub order : deal.from ≤ deal.to
  pub inside : deal.to ≤ deal.pass.reducer.now.rows.matrix.height
  pub end : deal.to ≤ LARGEST_SIZE
  pub several : 2 ≤ deal.workers
  pub some : 1 ≤ deal.stage
  pub cuts : ArePartCuts deal.from deal.to deal.count deal.cuts.now

-- where part j begins
abbrev pub cut_at : DealtRows → ℕ → ℕ
cut_at deal j = slice_index deal.cuts.now j

-- part j
abbrev pub IsPartOf : TriangleState → DealtRows → ℕ → SchurRows → Type 0
IsPartOf t deal j s = IsPartTo t deal.pass.with_coefficients (cut_at deal j) (cut_at deal (j + 1)) s

-- the part of its number
abbrev pub IsNumbered : TriangleState → DealtRows → NumberedPart → Type 0
IsNumbered t deal part = IsPartOf t deal part.number part.left

-- parts that a worker made, where memory did not run out
abbrev pub IsWorkersShare : {E : Type 0} → TriangleState → DealtRows → Result (Vec NumberedPart Global) E → Type 0
IsWorkersShare {E} t deal share = IfOk share (λ parts. All (IsNumbered t deal) parts.items)

-- among these is a part of this number
abbrev pub IsPartAmong : List NumberedPart → ℕ → SchurRows → Type 0
IsPartAmong parts number s = Contains parts (record { number = number; left = s })

-- the parts before the stage's are made, and some of these joined
pub record IsStage (deal : DealtRows) (stage : Stage) : Type 0 where
  pub joined : stage.joined ≤ stage.begun
  pub begun : stage.begun ≤ stage.end
  pub end : stage.end ≤ deal.count
