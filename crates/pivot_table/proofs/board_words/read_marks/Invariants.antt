use Rattle.std.proofs.Common.{◌≡◌, ◌≤◌, List, take, map, vec_len, vec_capacity}
use Rattle.std.specs.Mem.Slots.{slots_items}
use Rattle.pivot_table.specs.Core.{Mark}
use Rattle.pivot_table.specs.Closing.{MarksSay, is_done}
use Rattle.pivot_table.proofs.board_words.read_marks.Given as goal

abbrev pub invariant-loop-r : goal.invariant-loop-r
invariant-loop-r l = record {
  so_far : (rows : List Mark) → MarksSay (slots_items l.closed.words) l.first l.height rows → l.done.items ≡ map is_done (take l.r rows);
  count : vec_len l.done ≡ l.r;
  room : l.height ≤ vec_capacity l.done;
}
