-- The kept rows by ascending leads, and what the workers make of them.
use Rattle.std.specs.Prelude.{◌≡◌, ◌<◌, ◌/◌, ◌%◌, ℕ, List, Result, Vec, length, slice_index, slice_index_or, IfOk}
use Rattle.std.specs.declared.alloc.Global.{Global}
use Rattle.residue_words.specs.Matrix.{Matrix, IsMatrix, row}
use Rattle.residue_words.specs.Residues.{IsPrime}
use Rattle.row_space.specs.Echelon.{SameSpan}
use Rattle.lead_rows.specs.Leads.{KeptRows, IsSettled}
use Rattle.sparse_rows.specs.Rows.{ResidueRow}

-- for a prime modulus the kept rows have the row space of A
abbrev pub HaveSpanOf : Matrix → KeptRows → Type 0
HaveSpanOf A kept = IsPrime kept.modulus → SameSpan kept.modulus A kept.matrix

-- the leads ascend, and beside each stands the number of the kept row that has it
pub record IsOrderOfLeads (kept : KeptRows) (order : List (ℕ × ℕ)) : Type 0 where
  pub long : length order ≡ kept.matrix.height
  pub inside : (t : ℕ) (d : ℕ × ℕ) → t < length order → (slice_index_or order t d).1 < kept.matrix.height
  pub leads : (t : ℕ) (d : ℕ × ℕ) → t < length order →
      (slice_index_or order t d).0 ≡ slice_index kept.leads (slice_index_or order t d).1
  pub rising : (k t : ℕ) (d : ℕ × ℕ) → k < t → t < length order →
      (slice_index_or order k d).0 < (slice_index_or order t d).0

-- it is the kept row k when it is settled
pub record IsSettledRow (kept : KeptRows) (k : ℕ) (s : ResidueRow) : Type 0 where
  pub modulus : s.modulus ≡ kept.modulus
  pub settled : IsSettled kept k s.row

-- a worker settles the rows at the places worker, worker + workers, worker + 2 workers, ..
pub record IsShare (kept : KeptRows) (order : List (ℕ × ℕ)) (worker workers : ℕ)
    (share : List ResidueRow) : Type 0 where
  pub long : (t : ℕ) → t < length order → t % workers ≡ worker → t / workers < length share
  pub each : (t : ℕ) (c : ℕ × ℕ) (d : ResidueRow) → t < length order → t % workers ≡ worker →
      IsSettledRow kept (slice_index_or order t c).1 (slice_index_or share (t / workers) d)

-- the shares of the workers, in order
abbrev pub AreShares : {E : Type 0} → KeptRows → List (ℕ × ℕ) → List (Result (Vec ResidueRow Global) E) →
    Type 0
AreShares {E} kept order shares = (w : ℕ) (d : Result (Vec ResidueRow Global) E) → w < length shares →
    IfOk (slice_index_or shares w d) (λ share. IsShare kept order w (length shares) share.items)

-- the rows are the first so many settled ones by ascending leads
pub record AreSettled (kept : KeptRows) (order : List (ℕ × ℕ)) (count : ℕ) (E : Matrix) : Type 0 where
  pub matrix : IsMatrix kept.modulus E
  pub height : E.height ≡ count
  pub width : E.width ≡ kept.matrix.width
  pub each : (t : ℕ) (c : ℕ × ℕ) → t < count → IsSettled kept (slice_index_or order t c).1 (row E t)
