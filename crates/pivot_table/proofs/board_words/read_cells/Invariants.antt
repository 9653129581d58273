use Rattle.std.proofs.Common.{◌≡◌, ◌≤◌, List, take, length, vec_len, vec_capacity}
use Rattle.std.specs.Mem.Slots.{slots_items}
use Rattle.residue_words.specs.declared.plain.Pair.{Pair}
use Rattle.pivot_table.specs.Closing.{CellsSay}
use Rattle.pivot_table.proofs.board_words.read_cells.Given as goal

abbrev pub invariant-loop-k : goal.invariant-loop-k
invariant-loop-k l = record {
  so_far : (h : List Pair) → CellsSay (slots_items l.closed.words) l.cells h → (l.pairs.items ≡ take l.k h) × (l.k ≤ length h);
  count : vec_len l.pairs ≡ l.k;
  room : l.cells ≤ vec_capacity l.pairs;
}
