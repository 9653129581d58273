-- The pivots that an elimination has found, and the rows of its block meanwhile.
use Rattle.std.specs.Prelude.{◌≡◌, ◌≢◌, ◌<◌, ◌≤◌, ◌+◌, ◌-◌, ℕ, true, false, List, [], ◌∷◌, ◌++◌, length, slice_index, slice_index_or, slice_set}
use Rattle.residue_words.specs.Matrix.{Matrix, IsMatrix, entry}
use Rattle.residue_words.specs.Residues.{IsPrime}
use Rattle.residue_words.specs.declared.plain.Pair.{Pair}
use Rattle.row_space.specs.Factors.{row_at, col_at}
use Rattle.row_space.specs.Rows.{HasSteps}
use Rattle.sparse_rows.specs.Rows.{AreBelow, AreRising, LARGEST_SIZE}
use Rattle.sparse_rows.specs.Stored.{with_row}
use Rattle.dense_finish.specs.Block.{DenseBlock, IsDense, with_entries}
use Rattle.dense_rows.specs.Rows.{AreVectors, block_row, entry_of}
use Rattle.dense_rows.specs.Dense.{IsTaken, Scatters}
use Rattle.dense_finish.specs.Factors.{IsLeftFactor}
use Rattle.dense_panels.specs.Panel.{ArePivots, Continues, PanelRows}
use Rattle.dense_panels.specs.Splitting.{IsSplit, PivotSequence}
use Rattle.dense_panels.specs.Units.{FoundPanel, HasUnits}
use Rattle.dense_finish.specs.declared.factors.Factors.{Factors}
use Rattle.dense_finish.specs.declared.pivots.Pivots.{Pivots}
use Rattle.dense_finish.specs.declared.right_factor.RightFactor.{RightFactor}

-- how many pivots there are
abbrev pub count : Pivots → ℕ
count f = length f.columns.items

-- the entry of U at row k and the j-th of these columns
abbrev pub filled_entry : Matrix → List ℕ → ℕ → ℕ → ℕ
filled_entry U columns k j = entry U k (slice_index columns j)

-- the pivots as a block with these columns has them
abbrev pub pivot_sequence : (p : ℕ) (columns : List ℕ) → Pivots → PivotSequence p (length columns)
pivot_sequence p columns f = record {
  column = slice_index f.columns.items;
  entry = filled_entry f.u.matrix columns;
}

-- pivots of the first i rows: their rows ascend, their rows of U stand in steps and are 0 but at the block's
-- columns, and their columns are marked
pub record AreFound (p : ℕ) (columns : List ℕ) (width i : ℕ) (f : Pivots) : Type 0 where
  pub modulus : f.u.modulus ≡ p
  pub matrix : IsMatrix p f.u.matrix
  pub wide : f.u.matrix.width ≡ width
  pub height : f.u.matrix.height ≡ count f
  pub long : length f.rows.items ≡ count f
  pub few : count f ≤ i
  pub inside : (k : ℕ) → k < count f → slice_index f.rows.items k < i
  pub rising : (k t : ℕ) → k < t → t < count f → slice_index f.rows.items k < slice_index f.rows.items t
  pub steps : HasSteps (count f) (length columns) (filled_entry f.u.matrix columns)
      (slice_index f.columns.items)
  pub unnamed : (k x : ℕ) → k < count f → x < width →
      ((j : ℕ) → j < length columns → slice_index columns j ≢ x) → entry f.u.matrix k x ≡ 0
  pub marks : length f.taken.items ≡ length columns
  pub marked : (k : ℕ) → k < count f →
      slice_index_or f.taken.items (slice_index f.columns.items k) false ≡ true
  pub only : (j : ℕ) → j < length columns → slice_index_or f.taken.items j false ≡ true →
      IsTaken (count f) (slice_index f.columns.items) j

-- a pivot's row and column in the block, and its row's entries there
pub record NewPivot : Type 0 where
  pub row : ℕ
  pub column : ℕ
  pub entries : List ℕ

abbrev pub pivot_at : ℕ → ℕ → List ℕ → NewPivot
pivot_at i c q = record { row = i; column = c; entries = q }

-- behind the pivots of `old` stands this one of a block with these columns
pub record AddsPivot (filled : List ℕ) (pivot : NewPivot) (old new : Pivots) : Type 0 where
  pub rows : new.rows.items ≡ old.rows.items ++ pivot.row ∷ []
  pub columns : new.columns.items ≡ old.columns.items ++ pivot.column ∷ []
  pub taken : new.taken.items ≡ slice_set old.taken.items pivot.column true
  pub modulus : new.u.modulus ≡ old.u.modulus
  pub row : List ℕ
  pub put : Scatters old.u.matrix.width filled pivot.entries row
  pub matrix : new.u.matrix ≡ with_row old.u.matrix row

-- the first i rows hold coefficients alone, at the pivots of the rows up to them: of a pivot's row the last, at its column, is
-- not 0
pub record AreEliminated (p n i : ℕ) (f : Pivots) (rows : List (List ℕ)) : Type 0 where
  pub vectors : AreVectors p n rows
  pub clear : (t j : ℕ) → t < i → j < n → (IsTaken (count f) (slice_index f.columns.items) j → ⊥) →
      entry_of rows t j ≡ 0
  pub leads : (k : ℕ) → k < count f →
      entry_of rows (slice_index f.rows.items k) (slice_index f.columns.items k) ≢ 0
  pub after : (t k : ℕ) → k < count f → t < slice_index f.rows.items k →
      entry_of rows t (slice_index f.columns.items k) ≡ 0

-- how far an elimination is: the pivots, the rows as they are, and how many of them are done
pub record Stage : Type 0 where
  pub pivots : Pivots
  pub rows : List (List ℕ)
  pub done : ℕ

abbrev pub stage : Pivots → List (List ℕ) → ℕ → Stage
stage f rows i = record { pivots = f; rows = rows; done = i }

-- the block's rows split into these: those that are done by all pivots, the others by the first r
pub record AreSplit (p : ℕ) (columns : List ℕ) (r : ℕ) (block : List (List ℕ)) (s : Stage) : Type 0 where
  pub long : length s.rows ≡ length block
  pub done : (t : ℕ) → t < s.done → t < length block →
      IsSplit (pivot_sequence p columns s.pivots) (count s.pivots) (block_row block t) (block_row s.rows t)
  pub ahead : (t : ℕ) → s.done ≤ t → t < length block →
      IsSplit (pivot_sequence p columns s.pivots) r (block_row block t) (block_row s.rows t)

-- whatever block splits into `old` by its pivots splits into `new`, whose rows ahead are reduced by those of `old`
abbrev pub KeepsSplit : ℕ → List ℕ → Stage → Stage → Type 0
KeepsSplit p columns old new = (block : List (List ℕ)) →
    AreSplit p columns (count old.pivots) block old → AreSplit p columns (count old.pivots) block new

-- the pivots of `old` are the first of `new`
pub record KeepsPivots (columns : List ℕ) (old new : Pivots) : Type 0 where
  pub few : count old ≤ count new
  pub places : (k : ℕ) → k < count old → slice_index new.columns.items k ≡ slice_index old.columns.items k
  pub entries : (k j : ℕ) → k < count old → j < length columns →
      filled_entry new.u.matrix columns k j ≡ filled_entry old.u.matrix columns k j

-- all rows of the block split by all pivots
abbrev pub SplitBy : ℕ → List ℕ → Pivots → List (List ℕ) → List (List ℕ) → Type 0
SplitBy p columns f block rows = AreSplit p columns (count f) block (stage f rows (length block))

-- the pivots stand in ascending rows of the block and in columns of it, where the rows before theirs are 0
pub record StandIn (block : DenseBlock) (f : Pivots) : Type 0 where
  pub long : length f.rows.items ≡ count f
  pub few : count f ≤ length block.rows
  pub rows : AreBelow (length block.rows) f.rows.items
  pub rising : AreRising f.rows.items
  pub columns : AreBelow (length block.columns) f.columns.items
  pub after : (t k : ℕ) → k < count f → t < slice_index f.rows.items k →
      entry_of block.entries t (slice_index f.columns.items k) ≡ 0

-- an elimination of the block `old` finds these pivots and leaves `new`
pub record EliminatesBlock (old new : DenseBlock) (f : Pivots) : Type 0 where
  pub same : new ≡ with_entries old new.entries
  pub dense : IsDense new
  pub stand : StandIn new f
  pub found : AreFound old.modulus old.columns old.width (length old.entries) f
  pub eliminated : AreEliminated old.modulus (length old.columns) (length old.entries) f new.entries
  pub split : IsPrime old.modulus → SplitBy old.modulus old.columns f old.entries new.entries

-- the panel holds the pivots from the r-th on
pub record IsPanelFrom (p : ℕ) (columns : List ℕ) (r : ℕ) (f : Pivots) (panel : PanelRows) : Type 0 where
  pub wide : panel.width ≡ length columns
  pub pivots : ArePivots p panel
  pub total : r + length panel.columns ≡ count f
  pub continues : Continues (pivot_sequence p columns f) r panel

-- an elimination of a block with these columns of a matrix has come to here
pub record HasReached (p : ℕ) (columns : List ℕ) (s : Stage) : Type 0 where
  pub low : length s.rows ≤ LARGEST_SIZE
  pub few : length columns ≤ LARGEST_SIZE
  pub inside : AreBelow s.pivots.u.matrix.width columns
  pub rising : AreRising columns
  pub found : AreFound p columns s.pivots.u.matrix.width s.done s.pivots
  pub eliminated : AreEliminated p (length columns) s.done s.pivots s.rows

-- a stage with the panel of its last pivots
pub record PanelStage : Type 0 where
  pub pivots : Pivots
  pub found : FoundPanel
  pub rows : List (List ℕ)
  pub done : ℕ

abbrev pub panel_stage : Pivots → FoundPanel → List (List ℕ) → ℕ → PanelStage
panel_stage f found rows i = record { pivots = f; found = found; rows = rows; done = i }

abbrev pub stage_of : PanelStage → Stage
stage_of s = stage s.pivots s.rows s.done

-- how many pivots come before the panel's
abbrev pub before_panel : PanelStage → ℕ
before_panel s = count s.pivots - length s.found.panel.columns

-- and can go on with the panel of its last pivots
pub record CanGoOn (p : ℕ) (columns : List ℕ) (s : PanelStage) : Type 0 where
  pub reached : HasReached p columns (stage_of s)
  pub holds : IsPanelFrom p columns (before_panel s) s.pivots s.found.panel
  pub units : HasUnits p s.found

-- the pivots of more rows are found, behind those of `old`, and are the panel's: whatever block splits into `old`, its rows
-- ahead by the pivots before the panel's, splits into `new`, whose rows ahead are reduced by all pivots of `old`
pub record FindsPanel (p : ℕ) (columns : List ℕ) (old new : PanelStage) : Type 0 where
  pub found : AreFound p columns old.pivots.u.matrix.width new.done new.pivots
  pub eliminated : AreEliminated p (length columns) new.done new.pivots new.rows
  pub holds : IsPanelFrom p columns (count old.pivots) new.pivots new.found.panel
  pub units : HasUnits p new.found
  pub kept : KeepsPivots columns old.pivots new.pivots
  pub split : IsPrime p → (block : List (List ℕ)) →
      AreSplit p columns (before_panel old) block (stage_of old) →
      AreSplit p columns (count old.pivots) block (stage_of new)

-- the pivots of more rows are found, behind those of `old`, and are the panel's: whatever block splits into `old`, its rows
-- ahead by all pivots of `old`, splits into `new`, whose rows ahead are reduced by all pivots of `new`
pub record FindsPart (p : ℕ) (columns : List ℕ) (old : Stage) (new : PanelStage) : Type 0 where
  pub found : AreFound p columns old.pivots.u.matrix.width new.done new.pivots
  pub eliminated : AreEliminated p (length columns) new.done new.pivots new.rows
  pub holds : IsPanelFrom p columns (count old.pivots) new.pivots new.found.panel
  pub units : HasUnits p new.found
  pub kept : KeepsPivots columns old.pivots new.pivots
  pub split : IsPrime p → (block : List (List ℕ)) → AreSplit p columns (count old.pivots) block old →
      AreSplit p columns (count new.pivots) block (stage_of new)

-- the pivots' places in the matrix, whose rows and columns with entries are these
pub record ArePivotPlaces (f_rows f_columns rows columns : List ℕ) (pivots : List Pair) : Type 0 where
  pub long : length pivots ≡ length f_rows
  pub row : (k : ℕ) → k < length f_rows → row_at pivots k ≡ slice_index rows (slice_index f_rows k)
  pub column : (k : ℕ) → k < length f_rows → col_at pivots k ≡ slice_index columns (slice_index f_columns k)

-- the right factor of an eliminated block with these pivots
pub record IsRightFactorOf (block : DenseBlock) (f : Pivots) (right : RightFactor) : Type 0 where
  pub same : right.u ≡ f.u
  pub places : ArePivotPlaces f.rows.items f.columns.items block.rows block.columns right.pivots

-- both factors of an eliminated block with these pivots
pub record AreBlockFactors (block : DenseBlock) (f : Pivots) (factors : Factors) : Type 0 where
  pub modulus : factors.l.modulus ≡ block.modulus
  pub residues : IsMatrix block.modulus factors.l.matrix
  pub left : IsLeftFactor block.height block.rows f.columns.items block.entries factors.l.matrix
  pub right : IsRightFactorOf block f (record { pivots = factors.pivots; u = factors.u })
