use Rattle.std.proofs.Common.{ℕ, ◌≡◌, ◌+◌, ◌-◌, ◌≤◌, ◌∙◌, Contains, Some, ap, arith, length, sym}
use Rattle.std.proofs.lemmas.List.Elements.{All-contains, All-contains_itself, All-pop}
use Rattle.std.proofs.lemmas.List.Sorted.{All-permutation}
use Rattle.dense_panels.specs.Pieces.{LiesIn, RowsFrom}
use Rattle.dense_panels.proofs.ReducedPieces.{part_long, piece_put}
use Rattle.dense_panels.proofs.pieces.put_pieces.Goals as goal

pub loop-piece-init : goal.loop-piece-init
loop-piece-init g c =
    let all = c.args.pieces.items in
    record {
      rest = All-permutation (Contains all) all c.sort_unstable_by_key.new.self.items c.sort_unstable_by_key.ensures.permutation (All-contains_itself all);
      inside = omega arith;
      done = λ t l. absurd (omega arith);
    }

pub swap_with_slice-requires : goal.swap_with_slice-requires
swap_with_slice-requires g c =
    let all = c.args.pieces.items in
    let rows = c.loop-piece.rows in
    let piece : RowsFrom = c.in-Some.piece in
    let here : Contains all piece = (All-pop (Contains all) c.loop-piece.pieces.items c.pop.new.self.items (Some piece) c.in-Some.ensures.items c.loop-piece.invariant.rest).1 in
    let lies : LiesIn (length c.args.rows.now) piece = All-contains (LiesIn (length c.args.rows.now)) all piece c.requires here in
    let place : c.piece.inside.start ≡ piece.start = ap (λ (n : RowsFrom). n.start) c.piece.view_is in
    let value : c.deref_mut.result.now ≡ piece.rows = c.deref_mut.ensures.value ∙ ap (λ (n : RowsFrom). n.rows) c.piece.view_is in
    let size : length c.deref_mut.result.now ≡ c.len.result = c.deref_mut.ensures.len ∙ sym c.len.ensures in
    let k : ℕ = c.loop-piece.at + c.len.result - c.loop-piece.at in
    let same : k ≡ c.len.result = omega arith in
    part_long c.loop-piece.at k rows (omega (arith, same, size, ap length value, place, c.if-piece-at.false, lies, c.loop-piece.auto.rows)) ∙ same ∙ sym size

pub loop-piece-preserved : goal.loop-piece-preserved
loop-piece-preserved g c =
    let all = c.args.pieces.items in
    let rows = c.loop-piece.rows in
    let piece : RowsFrom = c.in-Some.piece in
    let before = c.loop-piece.invariant in
    let apart = All-pop (Contains all) c.loop-piece.pieces.items c.pop.new.self.items (Some piece) c.in-Some.ensures.items before.rest in
    let lies : LiesIn (length c.args.rows.now) piece = All-contains (LiesIn (length c.args.rows.now)) all piece c.requires apart.1 in
    let start : piece.start ≡ c.loop-piece.at = sym (ap (λ (n : RowsFrom). n.start) c.piece.view_is) ∙ c.if-piece-at.false in
    let value : c.deref_mut.result.now ≡ piece.rows = c.deref_mut.ensures.value ∙ ap (λ (n : RowsFrom). n.rows) c.piece.view_is in
    let size : length piece.rows ≡ c.len.result = ap length (sym value) ∙ c.deref_mut.ensures.len ∙ sym c.len.ensures in
    let k : ℕ = c.loop-piece.at + c.len.result - c.loop-piece.at in
    let same : k ≡ c.len.result = omega arith in
    let within : c.loop-piece.at + k ≤ length rows = omega (arith, same, size, start, lies, c.loop-piece.auto.rows) in
    let swapped : c.swap_with_slice.new.self ≡ piece.rows = c.swap_with_slice.ensures.after ∙ value in
    record {
      rest = apart.0;
      inside = omega (arith, same, within, c.loop-piece.auto.rows);
      done = λ t l. rw swapped (piece_put rows c.loop-piece.at k apart.1 start within (size ∙ sym same) before.done t (omega (arith, same, l)));
    }
