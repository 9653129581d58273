-- The parts of a panel, one behind the other.
use Rattle.std.proofs.Common.{ℕ, ◌≡◌, ◌+◌, ◌-◌, inl, inr, List, [], length, slice_index, sym, refl, ap, subst, ◌∙◌, arith, length-append}
use Rattle.std.proofs.lemmas.Bool.{cases_lt}
use Rattle.std.proofs.lemmas.List.{get_or-append_right, get_or_append_left}
use Rattle.dense_panels.specs.Panel.{PanelRows, joined_panel}
use Rattle.dense_finish.specs.Pivots.{AreFound, FindsPart, HasReached, IsPanelFrom, KeepsPivots, PanelStage, Stage, count, filled_entry, panel_stage, stage_of}
use Rattle.dense_panels.specs.Units.{FoundPanel, HasUnits, nothing_found}
use Rattle.dense_finish.proofs.Growing.{found_own}
use Rattle.dense_finish.proofs.PanelStages.{no_units}
use Rattle.dense_finish.proofs.Progress.{panel_begins}
use Rattle.dense_finish.proofs.Stages.{kept_same}
use Rattle.dense_panels.proofs.JoinedPanels.{joined_pivots}

-- no pivot is found yet
pub part_begins : {p : ℕ} {names : List ℕ} {s : Stage} → HasReached p names s → FindsPart p names s (panel_stage s.pivots (nothing_found (length names)) s.rows s.done)
part_begins {p} {names} {s} reached = record {
  found = reached.found;
  eliminated = reached.eliminated;
  holds = panel_begins names s.pivots;
  units = no_units;
  kept = kept_same;
  split = λ prime block h. h;
}

-- more pivots can be found behind those of a part
pub part_ready : {p : ℕ} {names : List ℕ} {old : Stage} {new : PanelStage} → HasReached p names old → length new.rows ≡ length old.rows → FindsPart p names old new → HasReached p names (stage_of new)
part_ready reached same finds = record {
  low = omega (arith, reached.low);
  few = reached.few;
  inside = λ j l. omega (arith, reached.inside j l, finds.found.wide);
  rising = reached.rising;
  found = found_own finds.found;
  eliminated = finds.eliminated;
}

-- the pivots of a part that are found go on
module _ {p : ℕ} {names : List ℕ} {old : Stage} {mid new : PanelStage} (finds : FindsPart p names old mid) (more : FindsPart p names (stage_of mid) new) where
  kept : KeepsPivots names old.pivots new.pivots
  kept = record {
    few = omega (arith, finds.kept.few, more.kept.few);
    places = λ k l. more.kept.places k (omega (arith, finds.kept.few)) ∙ finds.kept.places k l;
    entries = λ k j l lj. more.kept.entries k j (omega (arith, finds.kept.few)) lj ∙ finds.kept.entries k j l lj;
  }

  width : new.found.panel.width ≡ mid.found.panel.width
  width = more.holds.wide ∙ sym finds.holds.wide

  abbrev front : PanelRows
  front = mid.found.panel

  abbrev back : PanelRows
  back = new.found.panel

  total : count mid.pivots ≡ count old.pivots + length front.columns
  total = sym finds.holds.total

  pub part_joined : {both : FoundPanel} → both.panel ≡ joined_panel front back → HasUnits p both →
      FindsPart p names old (record { pivots = new.pivots; found = both; rows = new.rows; done = new.done })
  part_joined {both} same units = record {
    found = subst (λ n. AreFound p names n new.done new.pivots) finds.found.wide more.found;
    eliminated = more.eliminated;
    holds = subst (IsPanelFrom p names (count old.pivots) new.pivots) (sym same) record {
      wide = finds.holds.wide;
      pivots = joined_pivots p front back finds.holds.pivots width more.holds.pivots;
      total = omega (arith, finds.holds.total, more.holds.total, length-append front.columns back.columns);
      continues = record {
        stands = λ k l. elim (cases_lt k (length front.columns)) [
          | inl less ↦ more.kept.places (count old.pivots + k) (omega (arith, total)) ∙ finds.holds.continues.stands k less ∙ sym (get_or_append_left front.columns back.columns 0 k less)
          | inr behind ↦
              let place : count old.pivots + k ≡ count mid.pivots + (k - length front.columns) = omega (arith, total) in
              ap (slice_index new.pivots.columns.items) place ∙ more.holds.continues.stands (k - length front.columns) (omega (arith, l, length-append front.columns back.columns))
              ∙ sym (get_or-append_right front.columns back.columns (length front.columns) k 0 refl behind)
        ];
        entries = λ k j l lj. elim (cases_lt k (length front.columns)) [
          | inl less ↦ more.kept.entries (count old.pivots + k) j (omega (arith, total)) lj ∙ finds.holds.continues.entries k j less lj
              ∙ ap (λ u. slice_index u j) (sym (get_or_append_left front.rows back.rows [] k (omega (arith, finds.holds.pivots.long))))
          | inr behind ↦
              let place : count old.pivots + k ≡ count mid.pivots + (k - length front.columns) = omega (arith, total) in
              ap (λ x. filled_entry new.pivots.u.matrix names x j) place ∙ more.holds.continues.entries (k - length front.columns) j (omega (arith, l, length-append front.columns back.columns)) lj
              ∙ ap (λ u. slice_index u j) (sym (get_or-append_right front.rows back.rows (length front.columns) k [] finds.holds.pivots.long behind))
        ];
      };
    };
    units = units;
    kept = kept;
    split = λ prime block h. more.split prime block (finds.split prime block h);
  }
