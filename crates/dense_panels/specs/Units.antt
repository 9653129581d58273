-- What a panel leaves of unit rows.
use Rattle.std.specs.Prelude.{◌≡◌, ◌<◌, ℕ, List, [], length, slice_index, slice_set}
use Rattle.residue_words.specs.Matrix.{zeros}
use Rattle.dense_rows.specs.Rows.{AreVectors, block_row, entry_of}
use Rattle.dense_panels.specs.Panel.{PanelReduces, PanelRows, no_pivots}

-- the row of n entries that is 1 at column c, and 0 elsewhere
abbrev pub unit_row : ℕ → ℕ → List ℕ
unit_row n c = slice_set (zeros n) c 1

-- the unit rows at the panel's columns
pub record AreUnitRows (p : ℕ) (panel : PanelRows) (units : List (List ℕ)) : Type 0 where
  pub long : length units ≡ length panel.columns
  pub vectors : AreVectors p panel.width units
  pub each : (k : ℕ) → k < length panel.columns →
      block_row units k ≡ unit_row panel.width (slice_index panel.columns k)

-- what a panel leaves of the unit rows at its columns, which is 0 before column `from`
pub record AreUnits (p : ℕ) (panel : PanelRows) (from : ℕ) (units : List (List ℕ)) : Type 0 where
  pub long : length units ≡ length panel.columns
  pub reduced : (k : ℕ) → k < length units → PanelReduces p panel
      (unit_row panel.width (slice_index panel.columns k)) (block_row units k)
  pub before : (k j : ℕ) → k < length units → j < from → entry_of units k j ≡ 0

-- a panel with what it leaves of the unit rows at its columns, which is 0 before column `first`
pub record FoundPanel : Type 0 where
  pub panel : PanelRows
  pub units : List (List ℕ)
  pub first : ℕ

-- without a pivot yet
abbrev pub nothing_found : ℕ → FoundPanel
nothing_found n = record { panel = no_pivots n; units = []; first = 0 }

abbrev pub HasUnits : ℕ → FoundPanel → Type 0
HasUnits p found = AreUnits p found.panel found.first found.units
