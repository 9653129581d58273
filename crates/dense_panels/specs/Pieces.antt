-- Pieces of the rows behind a panel, which workers reduce.
use Rattle.std.specs.Prelude.{◌≡◌, ◌<◌, ◌≤◌, ◌+◌, ℕ, List, [], Vec, All, Contains, length}
use Rattle.std.specs.declared.alloc.Global.{Global}
use Rattle.dense_rows.specs.Rows.{AreVectors, block_row}
use Rattle.dense_panels.specs.Panel.{ArePivots, PanelReduces, PanelRows}
use Rattle.dense_panels.specs.Units.{FoundPanel, HasUnits}

-- rows, and the place of the first of them in a block
pub record RowsFrom : Type 0 where
  pub start : ℕ
  pub rows : List (List ℕ)

-- the piece ends within a block of this height
abbrev pub LiesIn : ℕ → RowsFrom → Type 0
LiesIn height piece = piece.start + length piece.rows ≤ height

-- a piece of these rows
pub record IsPieceOf (rows : List (List ℕ)) (piece : RowsFrom) : Type 0 where
  pub inside : LiesIn (length rows) piece
  pub each : (t : ℕ) → t < length piece.rows → block_row piece.rows t ≡ block_row rows (piece.start + t)

-- rows of which the panel's pivots can be taken out
pub record AreReducible (p : ℕ) (found : FoundPanel) (rows : List (List ℕ)) : Type 0 where
  pub vectors : AreVectors p found.panel.width rows
  pub pivots : ArePivots p found.panel
  pub units : HasUnits p found

-- v is in one of the pieces and is the block's row t
pub record IsInPieces (pieces : List RowsFrom) (t : ℕ) (v : List ℕ) : Type 0 where
  pub piece : RowsFrom
  pub there : Contains pieces piece
  pub place : ℕ
  pub inside : place < length piece.rows
  pub at : t ≡ piece.start + place
  pub same : v ≡ block_row piece.rows place

-- each row is that of a piece
abbrev pub ArePut : List RowsFrom → List (List ℕ) → Type 0
ArePut pieces rows = (t : ℕ) → t < length rows → IsInPieces pieces t (block_row rows t)

-- what the panel leaves of a piece of the block
pub record IsReducedPiece (p : ℕ) (panel : PanelRows) (block : List (List ℕ))
    (piece : RowsFrom) : Type 0 where
  pub inside : LiesIn (length block) piece
  pub reduced : (t : ℕ) → t < length piece.rows →
      PanelReduces p panel (block_row block (piece.start + t)) (block_row piece.rows t)

-- pieces that were made of the block
abbrev pub AreReducedPieces : ℕ → PanelRows → List (List ℕ) → Vec RowsFrom Global → Type 0
AreReducedPieces p panel block share = All (IsReducedPiece p panel block) share.items

-- a worker's share: the rows that its queue was made of, and the pieces of these that it reduced
pub record ShareOf : Type 0 where
  pub known : List (List ℕ)
  pub pieces : List RowsFrom

-- a share without a piece
abbrev pub new_share : List (List ℕ) → ShareOf
new_share known = record { known = known; pieces = [] }

-- a share of rows of which the panel's pivots can be taken out
abbrev pub HasReducible : ℕ → FoundPanel → ShareOf → Type 0
HasReducible p found share = AreReducible p found share.known

-- the share of a worker that has other work first, and those of the workers that help it
pub record SharesOf : Type 0 where
  pub own : List ShareOf
  pub others : List ShareOf

-- each of them
pub record HaveReducible (p : ℕ) (found : FoundPanel) (shares : SharesOf) : Type 0 where
  pub own : All (HasReducible p found) shares.own
  pub others : All (HasReducible p found) shares.others

-- shares of these rows without a piece
pub record AreNewShares (rows : List (List ℕ)) (shares : SharesOf) : Type 0 where
  pub own : All (λ share. share ≡ new_share rows) shares.own
  pub others : All (λ share. share ≡ new_share rows) shares.others

-- a share of the block: its pieces are what the panel leaves of some
pub record IsShareOf (p : ℕ) (panel : PanelRows) (block : List (List ℕ)) (share : ShareOf) : Type 0 where
  pub known : share.known ≡ block
  pub pieces : All (IsReducedPiece p panel block) share.pieces

abbrev pub AreSharesOf : ℕ → PanelRows → List (List ℕ) → List ShareOf → Type 0
AreSharesOf p panel block shares = All (IsShareOf p panel block) shares

-- a share of a block stays one
abbrev pub KeepsShare : ℕ → PanelRows → ShareOf → ShareOf → Type 0
KeepsShare p panel old new = (block : List (List ℕ)) → IsShareOf p panel block old → IsShareOf p panel block new

abbrev pub KeepShares : ℕ → PanelRows → List ShareOf → List ShareOf → Type 0
KeepShares p panel olds news = (block : List (List ℕ)) → AreSharesOf p panel block olds →
    AreSharesOf p panel block news

-- pieces that are made of the block of these shares
abbrev pub AreReducedBy : ℕ → PanelRows → List ShareOf → Vec RowsFrom Global → Type 0
AreReducedBy p panel shares pieces = (block : List (List ℕ)) → AreSharesOf p panel block shares →
    AreReducedPieces p panel block pieces

abbrev pub AreReducedByAll : ℕ → PanelRows → SharesOf → Vec RowsFrom Global → Type 0
AreReducedByAll p panel shares pieces = (block : List (List ℕ)) → AreSharesOf p panel block shares.own →
    AreSharesOf p panel block shares.others → AreReducedPieces p panel block pieces

-- the pieces of shares of a block are made of it
abbrev pub ArePiecesOf : List ShareOf → List RowsFrom → Type 0
ArePiecesOf shares pieces = (p : ℕ) (panel : PanelRows) (block : List (List ℕ)) → AreSharesOf p panel block shares →
    All (IsReducedPiece p panel block) pieces
