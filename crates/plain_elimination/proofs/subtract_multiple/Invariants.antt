use Rattle.std.proofs.Common.{◌≡◌, ℕ, ◌<◌, ◌≤◌, ◌+◌, ◌*◌, ◌%◌, length, slice_index}
use Rattle.residue_words.specs.Matrix.{IsVector}
use Rattle.plain_elimination.proofs.subtract_multiple.Given as goal

abbrev pub invariant-loop-j : goal.invariant-loop-j
invariant-loop-j l = record {
  vector : IsVector l.p (length l.initial.row) l.row;
  value : (k : ℕ) → k < l.j → slice_index l.initial.row k ≡ (slice_index l.row k + l.a * slice_index l.kept k) % l.p;
  rest : (k : ℕ) → l.j ≤ k → slice_index l.row k ≡ slice_index l.initial.row k;
}
