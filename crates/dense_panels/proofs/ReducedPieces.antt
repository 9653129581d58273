-- Pieces of rows, reduced and put in their places.
use Rattle.std.proofs.Common.{ℕ, ◌≡◌, ◌+◌, ◌-◌, ◌<◌, ◌≤◌, ◌∙◌, Bool, true, false, cond, inl, inr, IfOk, List, ◌++◌, All, Err, Ok, Result, Vec, Global, Contains, drop, length, length-drop, take, ap, arith, refl, subst, sym}
use Rattle.std.proofs.lemmas.Bool.{cases_lt}
use Rattle.std.proofs.lemmas.List.{length-take-le}
use Rattle.std.proofs.lemmas.List.Elements.{All-append, All-contains, All-drop, All-nil, All-take, All-weaker}
use borrow.Rule.Slice.PartMut.{put_mid}
use Rattle.residue_words.specs.Matrix.{IsVector}
use Rattle.dense_rows.specs.Rows.{block_row}
use Rattle.dense_panels.specs.Panel.{PanelReduces, PanelReducesEach, PanelRows}
use Rattle.dense_panels.specs.Pieces.{AreNewShares, ArePut, AreReducedBy, AreReducedByAll, AreReducedPieces, AreReducible, AreSharesOf, HaveReducible, IsInPieces, IsPieceOf, HasReducible, IsReducedPiece, IsShareOf, KeepShares, LiesIn, RowsFrom, ShareOf, SharesOf, new_share}
use Rattle.dense_panels.specs.Units.{FoundPanel}
use Rattle.dense_rows.proofs.BlockRows.{put_row_at, put_row_below}

-- k rows from a on
pub part_long : (a k : ℕ) (rows : List (List ℕ)) → a + k ≤ length rows → length (take k (drop a rows)) ≡ k
part_long a k rows within = length-take-le k (drop a rows) (omega (arith, length-drop a rows))

-- the rows up to the end of a piece that is put
pub piece_put : {pieces : List RowsFrom} {piece : RowsFrom} (rows : List (List ℕ)) (a k : ℕ) → Contains pieces piece → piece.start ≡ a → a + k ≤ length rows → length piece.rows ≡ k →
    ((t : ℕ) → t < a → IsInPieces pieces t (block_row rows t)) → (t : ℕ) → t < a + k → IsInPieces pieces t (block_row (put_mid a k rows piece.rows) t)
piece_put {pieces} {piece} rows a k there start within long done t l = elim (cases_lt t a) [
  | inl before ↦ subst (IsInPieces pieces t) (sym (put_row_below a k rows piece.rows t (omega arith) before)) (done t before)
  | inr behind ↦
      let back : a + (t - a) ≡ t = omega arith in
      record {
        piece = piece;
        there = there;
        place = t - a;
        inside = omega arith;
        at = omega (arith, start);
        same = ap (block_row (put_mid a k rows piece.rows)) (sym back) ∙ put_row_at a k rows piece.rows (t - a) (omega arith) (omega arith);
      }
]

-- a piece of reducible rows is reducible, and what is left of it is that of the rows
pub piece_reducible : {p : ℕ} {found : FoundPanel} {block : List (List ℕ)} {piece : RowsFrom} → IsPieceOf block piece → AreReducible p found block → AreReducible p found piece.rows
piece_reducible {p} {found} {block} {piece} of_block ready = record {
  vectors = λ t l.
      let less : piece.start + t < length block = omega (arith, of_block.inside) in
      subst (IsVector p found.panel.width) (sym (of_block.each t l)) (ready.vectors (piece.start + t) less);
  pivots = ready.pivots;
  units = ready.units;
}

pub piece_reduced : {p : ℕ} {panel : PanelRows} {block : List (List ℕ)} (piece left : RowsFrom) → IsPieceOf block piece → left.start ≡ piece.start → length left.rows ≡ length piece.rows →
    PanelReducesEach p panel piece.rows left.rows → IsReducedPiece p panel block left
piece_reduced {p} {panel} {block} piece left of_block start long reduced = record {
  inside = omega (arith, start, long, of_block.inside);
  reduced = λ t l.
      let less : t < length piece.rows = omega (arith, long) in
      let old : block_row piece.rows t ≡ block_row block (left.start + t) = of_block.each t less ∙ ap (λ n. block_row block (n + t)) (sym start) in
      subst (λ v. PanelReduces p panel v (block_row left.rows t)) old (reduced t less);
}

-- pieces of a block lie in it, and put there they are what is left of the block
pub pieces_lie : {p : ℕ} {panel : PanelRows} {block : List (List ℕ)} (height : ℕ) (pieces : List RowsFrom) → height ≡ length block → All (IsReducedPiece p panel block) pieces → All (LiesIn height) pieces
pieces_lie {p} {panel} {block} height pieces same each = All-weaker (IsReducedPiece p panel block) (LiesIn height) (λ piece made. subst (λ n. LiesIn n piece) (sym same) made.inside) pieces each

pub put_reduced : {p : ℕ} {panel : PanelRows} {block : List (List ℕ)} (pieces : List RowsFrom) (rows : List (List ℕ)) → All (IsReducedPiece p panel block) pieces → length rows ≡ length block → ArePut pieces rows →
    PanelReducesEach p panel block rows
put_reduced {p} {panel} {block} pieces rows each long put = λ t l.
    let row = put t (omega (arith, long)) in
    let made = All-contains (IsReducedPiece p panel block) pieces row.piece each row.there in
    subst (PanelReduces p panel (block_row block t)) (sym row.same)
    (subst (λ s. PanelReduces p panel (block_row block s) (block_row row.piece.rows row.place)) (sym row.at) (made.reduced row.place row.inside))

-- what holds of each item, holds where others are put behind or not
pub appended_or_not : {X : Type 0} (P : X → Type 0) (put : Bool) (xs ys zs : List X) → zs ≡ cond put (xs ++ ys) xs → All P xs → All P ys → All P zs
appended_or_not P true xs ys zs e first second = subst (All P) (sym e) (All-append P xs ys first second)
appended_or_not P false xs ys zs e first second = subst (All P) (sym e) first

-- two clauses of a call that succeeds
pub both_clauses : {T E : Type 0} (r : Result T E) (P Q R : T → Type 0) → ((x : T) → P x → Q x → R x) → IfOk r P → IfOk r Q → IfOk r R
both_clauses (Ok x) P Q R f first second = f x first second
both_clauses (Err y) P Q R f first second = tt

-- what holds of new shares: the rows that they know are reducible where those are
pub new_reducible : {p : ℕ} {found : FoundPanel} {rows : List (List ℕ)} {shares : SharesOf} → AreReducible p found rows → AreNewShares rows shares → HaveReducible p found shares
new_reducible {p} {found} {rows} {shares} ready new =
    let each : (list : List ShareOf) → All (λ share. share ≡ new_share rows) list → All (HasReducible p found) list =
    λ list. All-weaker (λ share. share ≡ new_share rows) (HasReducible p found) (λ share e. subst (HasReducible p found) (sym e) ready) list in
    record { own = each shares.own new.own; others = each shares.others new.others }

-- and the pieces of these shares are those of the rows
pub new_made : {p : ℕ} {panel : PanelRows} {rows : List (List ℕ)} {shares : SharesOf} (pieces : Vec RowsFrom Global) → AreNewShares rows shares → AreReducedByAll p panel shares pieces → AreReducedPieces p panel rows pieces
new_made {p} {panel} {rows} {shares} pieces new made =
    let each : (list : List ShareOf) → All (λ share. share ≡ new_share rows) list → AreSharesOf p panel rows list =
    λ list. All-weaker (λ share. share ≡ new_share rows) (IsShareOf p panel rows)
    (λ share e. subst (IsShareOf p panel rows) (sym e) (record { known = refl; pieces = All-nil (IsReducedPiece p panel rows) })) list in
    made rows (each shares.own new.own) (each shares.others new.others)

-- pieces of two lists in one
pub all_made : (p : ℕ) (panel : PanelRows) (shares : SharesOf) (own others pieces : Vec RowsFrom Global) → pieces.items ≡ own.items ++ others.items →
    AreReducedBy p panel shares.own own → AreReducedBy p panel shares.others others → AreReducedByAll p panel shares pieces
all_made p panel shares own others pieces e first second = λ block of_own of_others.
    subst (All (IsReducedPiece p panel block)) (sym e) (All-append (IsReducedPiece p panel block) own.items others.items (first block of_own) (second block of_others))

-- shares that were lent, and lent as a slice and put back
pub kept_from : (p : ℕ) (panel : PanelRows) (given olds news : List ShareOf) → given ≡ olds → KeepShares p panel given news → KeepShares p panel olds news
kept_from p panel given olds news same kept = subst (λ shares. KeepShares p panel shares news) same kept

pub kept_back : (p : ℕ) (panel : PanelRows) (n : ℕ) (given olds news : List ShareOf) → given ≡ olds → KeepShares p panel given news → KeepShares p panel olds (take n (news ++ drop (length news) olds))
kept_back p panel n given olds news same kept = λ block of_block.
    let P : ShareOf → Type 0 = IsShareOf p panel block in
    All-take P n (news ++ drop (length news) olds)
    (All-append P news (drop (length news) olds) (kept block (subst (AreSharesOf p panel block) (sym same) of_block)) (All-drop P (length news) olds of_block))
