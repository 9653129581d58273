-- The entries so far are pushed, and each took two numbers.
use Rattle.std.proofs.Common.{◌≡◌, ◌+◌, ◌*◌}
use Rattle.spasm_words.specs.Generator.{state_after}
use Rattle.spasm_words.proofs.Generating.{AreDrawn}
use Rattle.spasm_words.proofs.generator.Generator.push_row.Given as goal

abbrev pub invariant-loop : goal.invariant-loop
invariant-loop l = record {
  state : l.numbers.state ≡ state_after l.self.seed (2 * (l.i * l.self.per + l.counter));
  drawn : AreDrawn l.p l.self l.i l.counter l.initial.builder l.builder;
}
