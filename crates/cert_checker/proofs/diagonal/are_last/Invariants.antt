use Rattle.std.proofs.Common.{ℕ, ◌<◌, slice_index}
use Rattle.residue_words.specs.Matrix.{entry}
use Rattle.cert_checker.specs.Diagonal.{LastAt}
use Rattle.cert_checker.proofs.diagonal.are_last.Given as goal

abbrev pub invariant-loop-k : goal.invariant-loop-k
invariant-loop-k l = (t : ℕ) → t < l.k → LastAt l.fn.rows.matrix.width (entry l.fn.rows.matrix (slice_index l.named t)) t
