use Rattle.std.proofs.Common.{ℕ, ◌≡◌, ◌≢◌, ◌≤◌, ◌<◌, ◌+◌, List, length, slice_index, slice_set, subst, sym, refl, ap, ◌∙◌, ⊎_elim, inr, arith}
use Rattle.std.specs.List.{Contains}
use Rattle.std.proofs.lemmas.List.{length-set, get_or-set_same, get_or-set_other}
use Rattle.pivot_walks.specs.Indexed.{Indexed}
use Rattle.pivot_walks.specs.MarkedColumns.{Marked}
use Rattle.pivot_walks.specs.Raising.{CanRaiseAbove, IsRaisedAbove, work_left}
use Rattle.pivot_walks.proofs.Leveling.{work_falls}
use Rattle.pivot_walks.proofs.Growing.{came}
use Rattle.pivot_walks.proofs.raising.raise_column.Goals as goal

-- if another column is put above its level, the column can still raise others
still : {w : Indexed} {old new : List ℕ} {m n : Marked} {c level d : ℕ} → CanRaiseAbove w old m c level → new ≡ slice_set old d (level + 1) → d ≢ c → n.width ≡ m.width → ¬ Contains n.list c → CanRaiseAbove w new n c level
still {w} {old} {new} {m} {n} {c} {level} {d} can is apart width fresh = record {
  width = width ∙ can.width;
  long = ap length is ∙ length-set old d (level + 1) ∙ can.long;
  at = ap (λ xs. slice_index xs c) is ∙ get_or-set_other old d c (level + 1) 0 (λ z. apart (sym z)) ∙ can.at;
  low = can.low;
  unmarked = fresh;
}

put : {old new : List ℕ} {c level d : ℕ} → new ≡ slice_set old d (level + 1) → d < length old → d ≢ c → slice_index old d ≤ level → IsRaisedAbove c level d old new
put {old} {new} {c} {level} {d} is inside apart low =
    let at : slice_index new d ≡ level + 1 = ap (λ xs. slice_index xs d) is ∙ get_or-set_same old d (level + 1) 0 inside in record {
      long = ap length is ∙ length-set old d (level + 1);
      others = λ e ne. ap (λ xs. slice_index xs e) is ∙ get_or-set_other old d e (level + 1) 0 ne;
      raised = omega (arith, at);
      above = λ ne. omega (arith, at);
      own = λ e. absurd (apart e);
      by_one = inr at;
    }

pub returns-in-Some-clause-work : goal.returns-in-Some-clause-work
returns-in-Some-clause-work c =
    let n = length c.args.pivots.now.pairs in
    subst (λ l. work_left n l c.add.new.self.list ≤ work_left n c.args.levels.now c.args.marks.now.list) (sym c.put.ensures)
    (work_falls n c.args.levels.now c.args.d c.args.level c.args.marks.now.list c.add.new.self.list (omega (arith, c.requires.can.long, c.requires.inside)) (omega (arith, c.at.ensures, c.if-at-level.false)) c.requires.can.low c.add.ensures.few)

pub returns-in_default-clause-work : goal.returns-in_default-clause-work
returns-in_default-clause-work c =
    let n = length c.args.pivots.now.pairs in
    let m = c.args.marks.now.list in
    subst (λ l. work_left n l m ≤ work_left n c.args.levels.now m) (sym c.put.ensures)
    (work_falls n c.args.levels.now c.args.d c.args.level m m (omega (arith, c.requires.can.long, c.requires.inside)) (omega (arith, c.at.ensures, c.if-at-level.false)) c.requires.can.low (omega arith))

pub returns-in-Some-clause-can : goal.returns-in-Some-clause-can
returns-in-Some-clause-can c =
    still c.requires.can c.put.ensures c.if-d-c.false c.add.ensures.width (λ m. ⊎_elim c.requires.can.unmarked (λ e. c.if-d-c.false (sym e)) (came c.args.c c.add.ensures.grows m))

pub returns-in-Some-clause-raised : goal.returns-in-Some-clause-raised
returns-in-Some-clause-raised c = put c.put.ensures (omega (arith, c.requires.can.long, c.requires.inside)) c.if-d-c.false (omega (arith, c.at.ensures, c.if-at-level.false))

pub returns-in_default-clause-can : goal.returns-in_default-clause-can
returns-in_default-clause-can c = still c.requires.can c.put.ensures c.if-d-c.false refl c.requires.can.unmarked

pub returns-in_default-clause-raised : goal.returns-in_default-clause-raised
returns-in_default-clause-raised c = put c.put.ensures (omega (arith, c.requires.can.long, c.requires.inside)) c.if-d-c.false (omega (arith, c.at.ensures, c.if-at-level.false))
