use Rattle.std.proofs.Common.{length}
use Rattle.plain_elimination.specs.Plain.{lists}
use Rattle.plain_elimination.proofs.Elimination.{IsReducing}
use Rattle.plain_elimination.proofs.reduce.Given as goal

abbrev pub invariant-loop-k : goal.invariant-loop-k
invariant-loop-k l = IsReducing l.p (length l.initial.row) (lists l.kept) l.leads l.initial.row l.row l.k
