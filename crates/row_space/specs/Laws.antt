-- The laws of row spaces that the other crates rest on. Each is the contract of a public function that does nothing. Those that divide hold for a
-- prime modulus.
use Rattle.std.specs.Prelude.{◌≡◌, ◌<◌, ◌≤◌, ◌↔◌, ◌⊎◌, ℕ, List, length, slice_index}
use Rattle.residue_words.specs.declared.plain.Pair.{Pair}
use Rattle.residue_words.specs.Residues.{IsPrime}
use Rattle.residue_words.specs.Matrix.{Matrix, IsMatrix, IsVector, IsCombination, entry, row, zeros}
use Rattle.row_space.specs.Echelon.{HasLeads, HasRank, IsIndependent, IsRref, SameSpan}
use Rattle.row_space.specs.Inverse.{HasInverse, IsInverse}
use Rattle.row_space.specs.Kernel.{HasNull, IsKernel, IsNull}
use Rattle.row_space.specs.Solution.{IsSolution, IsReducedSolution, IsRefutingCombination, Annuls, augmented, refuting_rows, refuting_side}
use Rattle.row_space.specs.Factors.{AreFactors, Certificate, IsValid, ShowsKernel, ShowsRref, TellsOf}

-- a matrix has at most one reduced echelon form, rank, kernel basis
abbrev pub RrefIsUnique : Type 0
RrefIsUnique = (p : ℕ) (A E F : Matrix) → 2 ≤ p → IsRref p A E → IsRref p A F → E ≡ F

abbrev pub RankIsUnique : Type 0
RankIsUnique = (p : ℕ) (A : Matrix) (r s : ℕ) → 2 ≤ p → HasRank p A r → HasRank p A s → r ≡ s

abbrev pub KernelIsUnique : Type 0
KernelIsUnique = (p : ℕ) (A K L : Matrix) → 2 ≤ p → IsKernel p A K → IsKernel p A L → K ≡ L

-- a system has at most one reduced solution, and at most one refuting combination
abbrev pub SolutionIsUnique : Type 0
SolutionIsUnique = (p : ℕ) (A : Matrix) (b x y : List ℕ) → 2 ≤ p → IsReducedSolution p A b x →
    IsReducedSolution p A b y → x ≡ y

abbrev pub RefutationIsUnique : Type 0
RefutationIsUnique = (p : ℕ) (A : Matrix) (b y z : List ℕ) → 2 ≤ p → IsRefutingCombination p A b y →
    IsRefutingCombination p A b z → y ≡ z

-- two independent lists of rows with one span have equal length
abbrev pub SpanFixesHeight : Type 0
SpanFixesHeight = (p : ℕ) (A B : Matrix) → 2 ≤ p → IsMatrix p A → IsMatrix p B → A.width ≡ B.width →
    IsIndependent p A → IsIndependent p B → SameSpan p A B → A.height ≡ B.height

-- A x = b is unsolvable exactly where some y has y A = 0 and y . b = 1
abbrev pub Alternative : Type 0
Alternative = (p : ℕ) (A : Matrix) (b : List ℕ) → IsPrime p → IsMatrix p A → IsVector p A.height b →
    (((x : List ℕ) → ¬ IsSolution p A b x) ↔ ((y : List ℕ) × Annuls p A b 1 y))

-- each matrix has an echelon form
abbrev pub RrefExists : Type 0
RrefExists = (p : ℕ) (A : Matrix) → IsPrime p → IsMatrix p A → (E : Matrix) × IsRref p A E

-- valid factors give the rank; with what shows them, the echelon form and the kernel basis
abbrev pub FactorsGiveRank : Type 0
FactorsGiveRank = (p : ℕ) (A : Matrix) (pivots : List Pair) (L U : Matrix) → IsPrime p → IsMatrix p A →
    AreFactors p A pivots L U → HasRank p A (length pivots)

abbrev pub FactorsGiveRref : Type 0
FactorsGiveRref = (p : ℕ) (A : Matrix) (pivots : List Pair) (L U E : Matrix) → IsPrime p → IsMatrix p A →
    AreFactors p A pivots L U → ShowsRref p U E → IsRref p A E

abbrev pub FactorsGiveKernel : Type 0
FactorsGiveKernel = (p : ℕ) (A : Matrix) (pivots : List Pair) (L U K : Matrix) → IsPrime p → IsMatrix p A →
    AreFactors p A pivots L U → ShowsKernel p A (length pivots) K → IsKernel p A K

-- what a valid certificate says is true
abbrev pub CertificateIsTrue : Type 0
CertificateIsTrue = (p : ℕ) (A : Matrix) (c : Certificate) → IsPrime p → IsMatrix p A → IsValid p A c →
    TellsOf p A c

-- null vectors in the reduced form, as many as the width exceeds the rank, are the kernel basis
abbrev pub RankGivesKernel : Type 0
RankGivesKernel = (p : ℕ) (A : Matrix) (r : ℕ) (K : Matrix) → IsPrime p → IsMatrix p A →
    HasRank p A r → ShowsKernel p A r K → IsKernel p A K

-- rows in the reduced form that lie in the row space of A, as many as its rank, are its echelon form
abbrev pub RankGivesRref : Type 0
RankGivesRref = (p : ℕ) (A : Matrix) (r : ℕ) (E : Matrix) (leads : List ℕ) → IsPrime p → IsMatrix p A →
    HasRank p A r → IsMatrix p E → E.width ≡ A.width → E.height ≡ r → HasLeads E leads →
    ((k : ℕ) → k < E.height → IsCombination p A (row E k)) → IsRref p A E

-- the echelon form of [A | b]: a lead in its last column says that A x = b has no solution; else x, the last column's entries at the leads
-- and 0 elsewhere, is the reduced solution
abbrev pub LastLeadRefutes : Type 0
LastLeadRefutes = (p : ℕ) (A : Matrix) (b : List ℕ) (E : Matrix) (leads : List ℕ) (k : ℕ) → 2 ≤ p →
    IsMatrix p A → IsVector p A.height b →
    IsRref p (augmented A b) E → HasLeads E leads → k < E.height → slice_index leads k ≡ A.width →
    (x : List ℕ) → ¬ IsSolution p A b x

abbrev pub RrefSolves : Type 0
RrefSolves = (p : ℕ) (A : Matrix) (b : List ℕ) (E : Matrix) (leads : List ℕ) (x : List ℕ) → 2 ≤ p →
    IsMatrix p A → IsVector p A.height b →
    IsRref p (augmented A b) E → HasLeads E leads → ((k : ℕ) → k < E.height → slice_index leads k < A.width) →
    IsVector p A.width x → ((k : ℕ) → k < E.height →
    slice_index x (slice_index leads k) ≡ entry E k A.width) →
    ((j : ℕ) → j < A.width → slice_index x j ≡ 0 ⊎ ((k : ℕ) × (k < E.height) × (slice_index leads k ≡ j))) →
    IsReducedSolution p A b x

-- the refuting system is a system for y whose solutions are the y with y A = 0 and y . b = 1, and its reduced solution is the refuting combination
pub record RefutingSystemIs (p : ℕ) (A : Matrix) (b y : List ℕ) : Type 0 where
  pub solution : IsSolution p (refuting_rows A b) (refuting_side A.width) y ↔ Annuls p A b 1 y
  pub reduced : IsReducedSolution p (refuting_rows A b) (refuting_side A.width) y
      ↔ IsRefutingCombination p A b y

abbrev pub RefutingSystem : Type 0
RefutingSystem = (p : ℕ) (A : Matrix) (b y : List ℕ) → 2 ≤ p → IsMatrix p A → IsVector p A.height b →
    RefutingSystemIs p A b y

-- a matrix has at most one inverse, and where it has one only the zero vector is null
abbrev pub InverseIsUnique : Type 0
InverseIsUnique = (p : ℕ) (A B C : Matrix) → 2 ≤ p → IsInverse p A B → IsInverse p A C → B ≡ C

abbrev pub InverseExcludesNull : Type 0
InverseExcludesNull = (p : ℕ) (A B : Matrix) (v : List ℕ) → IsInverse p A B → IsNull p A v → v ≡ zeros A.width

-- a square matrix has an inverse, or a null vector other than zero, and not both
abbrev pub InverseOrNull : Type 0
InverseOrNull = (p : ℕ) (A : Matrix) → IsPrime p → IsMatrix p A → A.height ≡ A.width →
    (HasInverse p A ⊎ HasNull p A) × ¬ (HasInverse p A × HasNull p A)

-- where A x = b has no solution, some y solves the refuting system
abbrev pub RefutingIsSolvable : Type 0
RefutingIsSolvable = (p : ℕ) (A : Matrix) (b : List ℕ) → IsPrime p → IsMatrix p A → IsVector p A.height b →
    ((x : List ℕ) → ¬ IsSolution p A b x) →
    (y : List ℕ) × IsSolution p (refuting_rows A b) (refuting_side A.width) y
