use Rattle.std.proofs.Common.{◌≡◌, ◌++◌, length}
use Rattle.std.specs.Vec.Iter.{into_iter_items, into_iter_len}
use Rattle.residue_words.specs.Residues.{IsPrime}
use Rattle.plain_elimination.specs.Plain.{AreKept, AreReduced, lists}
use Rattle.plain_elimination.proofs.rank_of.Given as goal

abbrev pub invariant-loop-row : goal.invariant-loop-row
invariant-loop-row l = record {
  items : l.yielded ++ into_iter_items l.row-iterator ≡ into_iter_items l.initial.row-iterator;
  left : into_iter_len l.row-iterator ≡ length (into_iter_items l.row-iterator);
  kept : AreKept l.p l.width (lists l.kept.items) l.leads.items;
  reduced : IsPrime l.p → AreReduced l.p l.width (lists l.yielded) (lists l.kept.items) l.leads.items;
}
