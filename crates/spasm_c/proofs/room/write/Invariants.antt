use Rattle.std.proofs.Common.{◌≡◌, ◌<◌, ℕ, get_or}
use Rattle.spasm_c.proofs.Entries.{at}
use Rattle.spasm_c.proofs.room.write.Given as goal

abbrev pub invariant-loop-k : goal.invariant-loop-k
invariant-loop-k l = (q : ℕ) (d : ℕ × ℕ × ℕ) → q < l.k → get_or l.triples q d ≡ at l.rows l.columns l.values q
