-- Each call keeps the rule of the pieces that workers share, and how the rows are moved into them.
use Rattle.std.proofs.Common.{ℕ, ◌≡◌, ◌≢◌, ◌+◌, ◌-◌, ◌<◌, ◌≤◌, ◌∙◌, zero, suc, true, false, true≢false, List, [], ◌∷◌, ◌++◌, All, drop, length, length-append, length-drop, set, slice_index_or, take, ⊎_elim, ap, arith, refl, subst, sym}
use Rattle.std.proofs.Math.Seq.{take-add}
use Rattle.std.proofs.lemmas.Grind.{drop_more_same}
use Rattle.std.proofs.lemmas.List.{drop-drop, drop-set-lt, get_or-append_right, get_or-drop, get_or_append_left, length-take-le, take_more}
use Rattle.std.proofs.lemmas.List.Elements.{All-append, All-cons, All-head, All-tail, All-weaker}
use Rattle.std.proofs.lemmas.Slice.{drop-put_mid}
use borrow.Rule.Slice.PartMut.{put_mid}
use mathlib.Core.Option.{some, some-injective, some-ne-none}
use lib.ListN.{get_elem?}
use Rattle.crossbeam_queue.specs.Fifo.{Forks, Pops, Pushes}
use Rattle.crossbeam_queue.proofs.Lists.{at_set, at_snoc, set_again}
use Rattle.dense_rows.specs.Rows.{block_row}
use Rattle.dense_panels.specs.Pieces.{IsPieceOf, RowsFrom}
use Rattle.dense_panels.specs.SharedPieces.{ArePieces, known}
use Rattle.dense_panels.specs.declared.shared_pieces.Known.{Known}

only : (x : Known) (j : ℕ) (v : Known) → get_elem? (x ∷ []) j ≡ some v → (j ≡ 0) × (x ≡ v)
only x zero v e = (refl, some-injective x v e)
only x (suc j) v e = absurd (some-ne-none v (sym e))

-- no piece, and one worker
pub begins : ArePieces [] (known true [] ∷ [])
begins = record {
  rows = [];
  pieces = λ k d l. absurd (omega arith);
  same = λ j v e. ap (λ u. u.rows) (sym (only (known true []) j v e).1);
  alone = λ j i v w e f _. (only (known true []) i w f).0 ∙ sym (only (known true []) j v e).0;
}

-- a piece of some rows is one of them and of what is put behind them
piece_kept : (rows more : List (List ℕ)) (piece : RowsFrom) → IsPieceOf rows piece → IsPieceOf (rows ++ more) piece
piece_kept rows more piece h =
    let all = length-append rows more in
    let inside = h.inside in
    record {
      inside = omega arith;
      each = λ t l. h.each t l ∙ sym (get_or_append_left rows more [] (piece.start + t) (omega arith));
    }

-- what is put behind some rows is a piece
piece_behind : (rows : List (List ℕ)) (piece : RowsFrom) → piece.start ≡ length rows → IsPieceOf (rows ++ piece.rows) piece
piece_behind rows piece start =
    let all = length-append rows piece.rows in
    let a : ℕ = piece.start in
    record {
      inside = omega arith;
      each = λ t l. let back : a + t - a ≡ t = omega arith in sym (get_or-append_right rows piece.rows a (a + t) [] (sym start) (omega arith) ∙ ap (block_row piece.rows) back);
    }

-- who is alone puts the next piece
pub puts : (n port : ℕ) (v : Known) (x : RowsFrom) → v.alone ≡ true → x.start ≡ length v.rows →
    Pushes ArePieces n port v x (λ w. w ≡ known v.alone (v.rows ++ x.rows))
puts n port v x alone start items views _ h at =
    let w : Known = known v.alone (v.rows ++ x.rows) in
    let rows : v.rows ≡ h.rows = h.same port v at in
    let pieces : All (IsPieceOf v.rows) items = subst (λ r. All (IsPieceOf r) items) (sym rows) h.pieces in
    let more : List (List ℕ) = v.rows ++ x.rows in
    let mine : (j : ℕ) (u : Known) → get_elem? (set views port w) j ≡ some u → (j ≡ port) × (w ≡ u) =
    λ j u e. ⊎_elim (λ here. here) (λ there. absurd (there.0 (h.alone port j v u at there.1 alone))) (at_set views port j w u e) in (
      w,
      record {
        rows = more;
        pieces = All-append (IsPieceOf more) items (x ∷ [])
            (All-weaker (IsPieceOf v.rows) (IsPieceOf more) (piece_kept v.rows x.rows) items pieces)
            (All-cons (IsPieceOf more) x [] (piece_behind v.rows x start) (λ k d l. absurd (omega arith)));
        same = λ j u e. ap (λ y. y.rows) (sym (mine j u e).1);
        alone = λ j i u y e f _. (mine i y f).0 ∙ sym (mine j u e).0;
      },
      refl,
    )

-- any worker takes a piece
pub takes : (port : ℕ) (v : Known) → Pops ArePieces port v (λ x w. (w ≡ v) × IsPieceOf v.rows x)
takes port v x items views h at =
    let pieces : All (IsPieceOf v.rows) (x ∷ items) = subst (λ r. All (IsPieceOf r) (x ∷ items)) (sym (h.same port v at)) h.pieces in (
      v,
      subst (ArePieces items) (sym (set_again views port v at))
          (record {
            rows = h.rows;
            pieces = All-tail (IsPieceOf h.rows) x items h.pieces;
            same = h.same;
            alone = h.alone;
          }),
      (refl, All-head (IsPieceOf v.rows) x items pieces),
    )

-- a worker more: none of them is alone
pub forks : (port : ℕ) (v : Known) → Forks ArePieces port v (known false v.rows) (known false v.rows)
forks port v items views h at =
    let w : Known = known false v.rows in
    let rows : v.rows ≡ h.rows = h.same port v at in
    let here : (u : Known) → w ≡ u → (u.rows ≡ h.rows) × (u.alone ≢ true) =
    λ u is. (ap (λ y. y.rows) (sym is) ∙ rows, λ p. true≢false (sym (ap (λ y. y.alone) is ∙ p))) in
    let each : (j : ℕ) (u : Known) → get_elem? (set views port w ++ w ∷ []) j ≡ some u → (u.rows ≡ h.rows) × (u.alone ≢ true) =
    λ j u e. ⊎_elim
    (λ old. ⊎_elim (λ mine. here u mine.1) (λ other. (h.same j u other.1, λ p. other.0 (sym (h.alone j port u v other.1 at p)))) (at_set views port j w u old))
    (here u)
    (at_snoc (set views port w) w u j e) in
    record {
      rows = h.rows;
      pieces = h.pieces;
      same = λ j u e. (each j u e).0;
      alone = λ j i u y e f p. absurd ((each j u e).1 p);
    }

-- rows that are moved one after another
module _ (olds rows : List (List ℕ)) (t : ℕ) (left : drop t rows ≡ drop t olds) (long : length rows ≡ length olds) (inside : t < length rows) where
  here : (row : List ℕ) → row ≡ slice_index_or rows t row → row ≡ slice_index_or olds t row
  here row is =
      let old : slice_index_or olds (t + 0) row ≡ slice_index_or olds t row = ap (λ i. slice_index_or olds i row) (omega arith) in
      let new : slice_index_or rows t row ≡ slice_index_or rows (t + 0) row = ap (λ i. slice_index_or rows i row) (omega arith) in
      is ∙ new ∙ sym (get_or-drop t rows 0 row) ∙ ap (λ l. slice_index_or l 0 row) left ∙ get_or-drop t olds 0 row ∙ old

  pub moved_more : (moved : List (List ℕ)) (row : List ℕ) → row ≡ slice_index_or rows t row → moved ≡ take t olds → moved ++ row ∷ [] ≡ take (t + 1) olds
  moved_more moved row is all =
      ap (λ l. l ++ row ∷ []) all ∙ ap (λ r. take t olds ++ r ∷ []) (here row is) ∙ sym (take_more olds t row (omega arith))

  pub moved_left : (none : List ℕ) → drop (t + 1) (set rows t none) ≡ drop (t + 1) olds
  moved_left none = drop-set-lt (t + 1) rows t none (omega arith) ∙ drop_more_same rows olds t left

-- a piece more that is put: the rows from a to z, which are there as they were
module _ (olds rows : List (List ℕ)) (a z : ℕ) (left : drop a rows ≡ drop a olds) (order : a ≤ z) (inside : z ≤ length rows) where
  part_size : length (take (z - a) (drop a rows)) ≡ z - a
  part_size = length-take-le (z - a) (drop a rows) (omega (arith, length-drop a rows))

  next : a + (z - a) ≡ z
  next = omega arith

  pub put_more : (put part : List (List ℕ)) → put ≡ take a olds → part ≡ take (z - a) (drop a rows) → put ++ part ≡ take z olds
  put_more put part before is =
      ap (λ l. l ++ part) before ∙ ap (λ l. take a olds ++ l) (is ∙ ap (take (z - a)) left) ∙ sym (take-add a (z - a) olds) ∙ ap (λ n. take n olds) next

  pub put_left : (part : List (List ℕ)) → length part ≡ length (take (z - a) (drop a rows)) → drop z (put_mid a (z - a) rows part) ≡ drop z olds
  put_left part same =
      drop-put_mid a (z - a) rows part z (omega arith) (omega arith) (same ∙ part_size) ∙ ap (λ n. drop n rows) (sym next)
      ∙ sym (drop-drop (z - a) a rows) ∙ ap (drop (z - a)) left ∙ drop-drop (z - a) a olds ∙ ap (λ n. drop n olds) next
