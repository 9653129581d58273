use Rattle.std.proofs.Common.{◌≤◌, ◌+◌, length, take, vec_len, vec_capacity}
use Rattle.column_lists.specs.Parts.{AreJoined}
use Rattle.column_lists.proofs.consecutive_parts.append_starts.Given as goal

abbrev pub invariant-loop-k : goal.invariant-loop-k
invariant-loop-k l = record {
  low : 1 ≤ l.k;
  joined : AreJoined l.by l.fn.starts.items (take l.k l.from) l.starts.items;
  room : vec_len l.starts + length l.from ≤ vec_capacity l.starts + l.k;
}
