use Rattle.std.proofs.Common.{◌≡◌, ◌<◌, ℕ, true, false}
use Rattle.sparse_rows.specs.Rows.{FitsMatrix}
use Rattle.spasm_c.specs.Given.{IsSoundInput, entry_given}
use Rattle.spasm_c.proofs.given.Given.is_sound.Given as goal

abbrev pub invariant-loop-k : goal.invariant-loop-k
invariant-loop-k l = record {
  yes : l.sound ≡ true → (q : ℕ) → q < l.k → FitsMatrix l.self.height l.self.width l.self.modulus (entry_given l.self q);
  no : l.sound ≡ false → ¬ IsSoundInput l.self;
}
