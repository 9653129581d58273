use Rattle.std.proofs.Common.{◌≡◌, ◌+◌, ℕ, ◌≤◌, List, take, drop, map, length, vec_len, vec_capacity}
use Rattle.std.specs.Mem.Slots.{slots_items, slots_len}
use Rattle.pivot_table.specs.Core.{Mark}
use Rattle.pivot_table.specs.Closing.{MarksSay, start_in}
use Rattle.pivot_table.proofs.board_words.read_starts.Given as goal

abbrev pub invariant-loop-k : goal.invariant-loop-k
invariant-loop-k l = record {
  so_far : (height : ℕ) (rows : List Mark) → MarksSay (slots_items l.closed.words) l.first height rows → l.first + height ≡ slots_len l.closed.words → l.starts.items ≡ map (start_in rows) (drop l.from (take l.k l.pairs));
  count : vec_len l.starts + l.from ≡ l.k;
  room : length l.pairs ≤ vec_capacity l.starts;
}
