use Rattle.std.proofs.Common.{◌≡◌, map, take}
use Rattle.sparse_rows.specs.Rows.{triple}
use Rattle.spasm_c.specs.Given.{entries_given}
use Rattle.spasm_c.proofs.given.Given.summed.Given as goal

abbrev pub invariant-loop-k : goal.invariant-loop-k
invariant-loop-k l = l.builder ≡ record { modulus = l.self.modulus; height = l.self.height; width = l.self.width; pushed = map triple (take l.k (entries_given l.self)) }
