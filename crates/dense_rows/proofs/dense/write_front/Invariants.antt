use Rattle.std.proofs.Common.{length, map, slice_index}
use Rattle.dense_rows.proofs.Writing.{AreWritten}
use Rattle.dense_rows.proofs.dense.write_front.Given as goal

abbrev pub invariant-loop-k : goal.invariant-loop-k
invariant-loop-k g l = AreWritten (slice_index (map g.W.Residue.value l.residues)) (length l.fn.to) l.any l.k l.to
