-- A panel: some pivots with their rows, and what they leave of other rows.
use Rattle.std.specs.Prelude.{◌≡◌, ◌<◌, ◌+◌, ℕ, List, [], ◌∷◌, ◌++◌, length, slice_index}
use Rattle.residue_words.specs.Matrix.{IsVector}
use Rattle.row_space.specs.Rows.{HasSteps}
use Rattle.dense_rows.specs.Rows.{block_row, entry_of}
use Rattle.dense_panels.specs.Splitting.{IsSplit, PivotSequence}

-- how many entries a row has, the pivots' columns and their rows
pub record PanelRows : Type 0 where
  pub width : ℕ
  pub columns : List ℕ
  pub rows : List (List ℕ)

-- the panel without a pivot, and with one more at column c, of row q
abbrev pub no_pivots : ℕ → PanelRows
no_pivots n = record { width = n; columns = []; rows = [] }

abbrev pub with_pivot : PanelRows → ℕ → List ℕ → PanelRows
with_pivot panel c q = record {
  width = panel.width;
  columns = panel.columns ++ c ∷ [];
  rows = panel.rows ++ q ∷ [];
}

-- the pivots of one panel and behind them those of another
abbrev pub joined_panel : PanelRows → PanelRows → PanelRows
joined_panel front back = record {
  width = front.width;
  columns = front.columns ++ back.columns;
  rows = front.rows ++ back.rows;
}

-- rows of residues, one for each column, which are 0 before it
pub record ArePivots (p : ℕ) (panel : PanelRows) : Type 0 where
  pub long : length panel.rows ≡ length panel.columns
  pub inside : (k : ℕ) → k < length panel.columns → slice_index panel.columns k < panel.width
  pub vectors : (k : ℕ) → k < length panel.columns → IsVector p panel.width (block_row panel.rows k)
  pub before : (k j : ℕ) → k < length panel.columns → j < slice_index panel.columns k →
      entry_of panel.rows k j ≡ 0

-- the pivots from the r-th on are the panel's
pub record Continues {p n : ℕ} (P : PivotSequence p n) (r : ℕ) (panel : PanelRows) : Type 0 where
  pub stands : (k : ℕ) → k < length panel.columns → P.column (r + k) ≡ slice_index panel.columns k
  pub entries : (k j : ℕ) → k < length panel.columns → j < n → P.entry (r + k) j ≡ entry_of panel.rows k j

-- w is what the panel leaves of v: whatever splits into v by the pivots before it splits into w by the panel's too
pub record PanelReduces (p : ℕ) (panel : PanelRows) (v w : List ℕ) : Type 0 where
  pub vector : IsVector p panel.width w
  pub split : (P : PivotSequence p panel.width) (r : ℕ) (b : List ℕ) → Continues P r panel →
      HasSteps (r + length panel.columns) panel.width P.entry P.column →
      IsSplit P r b v → IsSplit P (r + length panel.columns) b w

-- each of these rows
abbrev pub PanelReducesEach : ℕ → PanelRows → List (List ℕ) → List (List ℕ) → Type 0
PanelReducesEach p panel old new = (t : ℕ) → t < length old →
    PanelReduces p panel (block_row old t) (block_row new t)
