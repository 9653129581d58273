-- The rows so far are pushed.
use Rattle.std.proofs.Common.{◌≡◌, ◌*◌}
use Rattle.std.specs.List.{flat_map, range_with_len}
use Rattle.spasm_words.specs.Generator.{generated_row, state_after}
use Rattle.spasm_words.proofs.generator.Generator.matrix.Given as goal

abbrev pub invariant-loop-i : goal.invariant-loop-i
invariant-loop-i l = record {
  state : l.numbers.state ≡ state_after l.self.seed (2 * (l.i * l.self.per));
  drawn : l.builder ≡ record {
    modulus = l.p;
    height = l.self.rows;
    width = l.self.cols;
    pushed = flat_map (generated_row l.p l.self) (range_with_len 0 l.i);
  };
}
