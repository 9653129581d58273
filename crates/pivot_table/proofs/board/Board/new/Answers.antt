use Rattle.std.proofs.Common.{◌≡◌, ℕ, List, length, sym, subst, ap, ◌∙◌, arith}
use Rattle.residue_words.specs.Matrix.{Matrix}
use Rattle.residue_words.specs.declared.plain.Pair.{Pair}
use Rattle.pivot_table.specs.Rule.{SpellsOpening, TableSeat, rows_at}
use Rattle.sparse_rows.specs.Rows.{ResidueMatrix}
use Rattle.pivot_table.proofs.Openings.{opening_spells_run}
use Rattle.pivot_table.proofs.Spellings.{take_front}
use Rattle.pivot_table.proofs.Short.{grown_short}
use Rattle.pivot_table.proofs.board.Board.new.Goals as goal

pub of_words-requires : goal.of_words-requires
of_words-requires c =
    let A : Matrix = c.args.book.now.rows.matrix in
    let h : List Pair = c.args.book.now.pairs in
    let size = c.spell.ensures.size in
    let is : c.as_slice.result.now ≡ c.spell.new.words = c.as_slice.ensures.value ∙ take_front c.spell.new.words _ c.in_ok-words.words.len (omega arith) in
    opening_spells_run A h c.pairs.ensures.grown c.as_slice.result.now (subst (λ (ws : List ℕ). SpellsOpening A ws h) (sym is) c.spell.ensures) (omega (arith, c.width.ensures.value, c.width.ensures.bound, ap (λ (r : ResidueMatrix). r.matrix.width) c.rows-rows.ensures))

pub invariant_of-result-2 : goal.invariant_of-result-2
invariant_of-result-2 c =
    let A : Matrix = c.args.book.now.rows.matrix in
    let h : List Pair = c.args.book.now.pairs in
    let me = c.in_ok-table.ensures.4 in
    let most = grown_short A h c.pairs.ensures.grown in (
      ap (λ (l : List Pair). length l) c.pairs.ensures.pairs ∙ sym (ap (λ (m : TableSeat). length m.0.chair.seen) me),
      sym (ap (λ (m : TableSeat). m.0.chair.hand) me),
      sym (ap (λ (m : TableSeat). m.0.chair.start) me),
      ap (λ (m : TableSeat). m.0.live) me,
      (let s = ap (λ (m : TableSeat). length m.0.chair.seen) me in let g = ap (λ (m : TableSeat). rows_at m.0.matrix) me in omega arith),
      ap (λ (m : TableSeat). m.1) me,
      omega arith,
      tt,
    )
