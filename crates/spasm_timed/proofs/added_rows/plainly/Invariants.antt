use Rattle.std.proofs.Common.{ℕ, ◌<◌, get_or, length, ◌≡◌}
use Rattle.spasm_timed.proofs.added_rows.plainly.Given as goal

abbrev pub invariant-loop-round : goal.invariant-loop-round
invariant-loop-round l = (length l.y ≡ length l.out) × ((k : ℕ) → k < length l.out → get_or l.out k 0 < l.p)
