-- What a board begins with meets the rule.
use Rattle.std.proofs.Common.{ℕ, ◌≤◌, true, List, [], sym, refl, ap, subst}
use Rattle.atomic_table.specs.Table.{opening}
use Rattle.residue_words.specs.Matrix.{Matrix}
use Rattle.residue_words.specs.declared.plain.Pair.{Pair}
use Rattle.pivot_table.specs.History.{Grown, StartsWith}
use Rattle.pivot_table.specs.Core.{opening_marks, opened}
use Rattle.pivot_table.specs.Rule.{SpellsRun, Spells, view}
use Rattle.pivot_table.specs.declared.view.View.{View}
use Rattle.pivot_table.proofs.Runs.{lone}

pub opening_spells_run : (A : Matrix) (h : List Pair) → Grown A h → (ws : List ℕ) → Spells A ws h (opening_marks A h) → A.width ≤ 4294967296 → SpellsRun A h (opening ws [] (view A true (opened h)))
opening_spells_run A h grown ws sp narrow = record {
  history = h;
  rows = opening_marks A h;
  reached = (grown, ([], refl));
  spells = sp;
  of_board = λ i v at live. sym (ap (λ (x : View). x.matrix) (lone (view A true (opened h)) v i at).1);
  heard = λ i v at. subst (λ (x : View). StartsWith x.chair.seen x.heard) (lone (view A true (opened h)) v i at).1 (h, refl);
  narrow = narrow;
}
