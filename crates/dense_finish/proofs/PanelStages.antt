-- The rounds of an elimination, and a block that is cut: of its second part the rows are reduced alone.
use Rattle.std.proofs.Common.{ℕ, ◌≡◌, ◌+◌, ◌-◌, ◌<◌, ◌≤◌, ◌∙◌, inl, inr, List, [], ◌++◌, ap, arith, drop, length, length-append, length-drop, refl, slice_index, subst, sym, take}
use Rattle.std.proofs.lemmas.Bool.{cases_lt}
use Rattle.std.proofs.lemmas.List.{get_or-append_right, get_or-drop, get_or-take, get_or_append_left, length-take-le}
use Rattle.residue_words.specs.Matrix.{IsVector}
use Rattle.residue_words.specs.Residues.{IsPrime}
use Rattle.dense_finish.specs.declared.pivots.Pivots.{Pivots}
use Rattle.dense_rows.specs.Rows.{block_row}
use Rattle.dense_panels.specs.Panel.{PanelReducesEach, no_pivots}
use Rattle.dense_finish.specs.Pivots.{AreEliminated, AreSplit, CanGoOn, FindsPanel, IsPanelFrom, PanelStage, before_panel, count, pivot_sequence, panel_stage, stage, stage_of}
use Rattle.dense_panels.specs.Splitting.{IsSplit}
use Rattle.dense_panels.specs.Units.{FoundPanel, HasUnits, nothing_found}
use Rattle.dense_finish.proofs.Growing.{found_own}
use Rattle.dense_finish.proofs.Progress.{panel_begins, reduced_split, split_begins}
use Rattle.dense_panels.proofs.Splitting.{split_same}

pub holds_begins : {p : ℕ} (names : List ℕ) (f : Pivots) (block : List (List ℕ)) → IsPanelFrom p names (before_panel (panel_stage f (nothing_found (length names)) block 0)) f (no_pivots (length names))
holds_begins {p} names f block =
    let all : count f ≡ before_panel (panel_stage f (nothing_found (length names)) block 0) = omega arith in
    subst (λ r. IsPanelFrom p names r f (no_pivots (length names))) all (panel_begins names f)

pub split_start : {p : ℕ} (names : List ℕ) (block : List (List ℕ)) (f : Pivots) → count f ≡ 0 →
    AreSplit p names (before_panel (panel_stage f (nothing_found (length names)) block 0)) block (stage f block 0)
split_start {p} names block f none =
    let all : count f ≡ before_panel (panel_stage f (nothing_found (length names)) block 0) = omega arith in
    subst (λ r. AreSplit p names r block (stage f block 0)) all (split_begins names block f none)

pub no_units : {p n : ℕ} → HasUnits p (nothing_found n)
no_units = record { long = refl; reduced = λ k l. absurd (omega arith); before = λ k j l. absurd (omega arith) }

-- what is found goes on
module _ {p : ℕ} {names : List ℕ} {old new : PanelStage} (finds : FindsPanel p names old new) where
  before : count old.pivots ≡ before_panel new
  before = omega (arith, finds.holds.total)

  pub ready_next : CanGoOn p names old → length new.rows ≡ length old.rows → CanGoOn p names new
  ready_next ready long = record {
    reached = record {
      low = omega (arith, ready.reached.low);
      few = ready.reached.few;
      inside = λ j l. omega (arith, ready.reached.inside j l, finds.found.wide);
      rising = ready.reached.rising;
      found = found_own finds.found;
      eliminated = finds.eliminated;
    };
    holds = subst (λ r. IsPanelFrom p names r new.pivots new.found.panel) before finds.holds;
    units = finds.units;
  }

  pub split_next : (block : List (List ℕ)) → IsPrime p → AreSplit p names (before_panel old) block (stage_of old) → AreSplit p names (before_panel new) block (stage_of new)
  split_next block prime split = subst (λ r. AreSplit p names r block (stage_of new)) before (finds.split prime block split)

-- no row is ahead
pub split_ends : {p r i : ℕ} (s : ℕ) {names : List ℕ} {block rows : List (List ℕ)} {f : Pivots} → length block ≤ i → AreSplit p names r block (stage f rows i) → AreSplit p names s block (stage f rows i)
split_ends s end split = record { long = split.long; done = split.done; ahead = λ t l lb. absurd (omega arith) }

-- the first rows of a block, and those of a block in two parts
front_long : (cut : ℕ) (rows : List (List ℕ)) → cut ≤ length rows → length (take cut rows) ≡ cut
front_long cut rows inside = length-take-le cut rows inside

front : (cut : ℕ) (rows : List (List ℕ)) (t : ℕ) → t < cut → block_row (take cut rows) t ≡ block_row rows t
front cut rows t l = get_or-take cut rows t [] l

before_cut : (own others : List (List ℕ)) (t : ℕ) → t < length own → block_row (own ++ others) t ≡ block_row own t
before_cut own others t l = get_or_append_left own others [] t l

behind_cut : (cut : ℕ) (own others : List (List ℕ)) (t : ℕ) → length own ≡ cut → cut ≤ t → block_row (own ++ others) t ≡ block_row others (t - cut)
behind_cut cut own others t long l = get_or-append_right own others cut t [] long l

-- an elimination that can go on can do so on the first rows
pub front_ready : {p i : ℕ} {names : List ℕ} {f : Pivots} {found : FoundPanel} {rows : List (List ℕ)} (cut : ℕ) → i ≤ cut → cut ≤ length rows →
    CanGoOn p names (panel_stage f found rows i) → CanGoOn p names (panel_stage f found (take cut rows) i)
front_ready {p} {i} {names} {f} {found} {rows} cut done inside ready = record {
  reached = record {
    low = omega (arith, ready.reached.low, long);
    few = ready.reached.few;
    inside = ready.reached.inside;
    rising = ready.reached.rising;
    found = ready.reached.found;
    eliminated = record {
      vectors = λ t l. let less : t < cut = omega (arith, long) in subst (IsVector p (length names)) (sym (front cut rows t less)) (ready.reached.eliminated.vectors t (omega arith));
      clear = λ t j l lj none. ap (λ v. slice_index v j) (front cut rows t (omega arith)) ∙ ready.reached.eliminated.clear t j l lj none;
      leads = λ k l z. ready.reached.eliminated.leads k l (sym (ap (λ v. slice_index v (slice_index f.columns.items k)) (front cut rows (slice_index f.rows.items k) (omega (arith, ready.reached.found.inside k l)))) ∙ z);
      after = λ t k l a. ap (λ v. slice_index v (slice_index f.columns.items k)) (front cut rows t (omega (arith, ready.reached.found.inside k l))) ∙ ready.reached.eliminated.after t k l a;
    };
  };
  holds = ready.holds;
  units = ready.units;
}
  where
    long : length (take cut rows) ≡ cut
    long = front_long cut rows inside

front_split : {p i r : ℕ} {names : List ℕ} {f : Pivots} {rows block : List (List ℕ)} (cut : ℕ) → cut ≤ length rows →
    AreSplit p names r block (stage f rows i) → AreSplit p names r (take cut block) (stage f (take cut rows) i)
front_split {p} {i} {r} {names} {f} {rows} {block} cut inside split = record {
  long = front_long cut rows inside ∙ sym all;
  done = λ t l lb. both (count f) t (omega (arith, all)) (split.done t l (omega (arith, all, split.long)));
  ahead = λ t l lb. both r t (omega (arith, all)) (split.ahead t l (omega (arith, all, split.long)));
}
  where
    all : length (take cut block) ≡ cut
    all = front_long cut block (omega (arith, split.long))

    both : (s t : ℕ) → t < cut → IsSplit (pivot_sequence p names f) s (block_row block t) (block_row rows t) →
        IsSplit (pivot_sequence p names f) s (block_row (take cut block) t) (block_row (take cut rows) t)
    both s t less h =
        subst (IsSplit (pivot_sequence p names f) s (block_row (take cut block) t)) (sym (front cut rows t less))
        (subst (λ b. IsSplit (pivot_sequence p names f) s b (block_row rows t)) (sym (front cut block t less)) h)

-- of the first rows the pivots are found, and the others are reduced
module _ {p i cut end : ℕ} {names : List ℕ} {f g : Pivots} {found next : FoundPanel} {rows own : List (List ℕ)} (others : List (List ℕ)) (done : i ≤ cut) (inside : cut ≤ length rows)
    (ready : CanGoOn p names (panel_stage f found rows i)) (ends : end ≤ cut) (own_long : length own ≡ length (take cut rows))
    (others_long : length others ≡ length (drop cut rows)) (finds : FindsPanel p names (panel_stage f found (take cut rows) i) (panel_stage g next own end))
    (reduced : PanelReducesEach p found.panel (drop cut rows) others) where
  size : length own ≡ cut
  size = own_long ∙ front_long cut rows inside

  eliminated : AreEliminated p (length names) end g (own ++ others)
  eliminated = record {
    vectors = λ t l. elim (cases_lt t cut) [
      | inl less ↦ subst (IsVector p (length names)) (sym (before_cut own others t (omega (arith, size)))) (finds.eliminated.vectors t (omega (arith, size)))
      | inr more ↦
          let there : t - cut < length (drop cut rows) = omega (arith, l, size, others_long, length-append own others) in
          subst (IsVector p (length names)) (sym (behind_cut cut own others t size more)) (subst (λ n. IsVector p n (block_row others (t - cut))) ready.holds.wide (reduced (t - cut) there).vector)
    ];
    clear = λ t j l lj none. ap (λ v. slice_index v j) (before_cut own others t (omega (arith, size))) ∙ finds.eliminated.clear t j l lj none;
    leads = λ k l z.
        finds.eliminated.leads k l (sym (ap (λ v. slice_index v (slice_index g.columns.items k)) (before_cut own others (slice_index g.rows.items k) (omega (arith, size, finds.found.inside k l)))) ∙ z);
    after = λ t k l a. ap (λ v. slice_index v (slice_index g.columns.items k)) (before_cut own others t (omega (arith, size, finds.found.inside k l))) ∙ finds.eliminated.after t k l a;
  }

  -- a row of the others splits by all pivots of f
  split_behind_cut : {block : List (List ℕ)} → AreSplit p names (before_panel (panel_stage f found rows i)) block (stage f rows i) → (t : ℕ) → cut ≤ t → t < length block →
      IsSplit (pivot_sequence p names g) (count f) (block_row block t) (block_row (own ++ others) t)
  split_behind_cut {block} split t more l =
      let place : cut + (t - cut) ≡ t = omega arith in
      let there : t - cut < length (drop cut rows) = omega (arith, split.long, length-drop cut rows) in
      let old : block_row (drop cut rows) (t - cut) ≡ block_row rows t = get_or-drop cut rows (t - cut) [] ∙ ap (block_row rows) place in
      let here = split.ahead t (omega arith) l in
      let by_f = reduced_split ready.holds ready.reached.found.steps (reduced (t - cut) there)
      (subst (IsSplit (pivot_sequence p names f) (before_panel (panel_stage f found rows i)) (block_row block t)) (sym old) here) in
      subst (IsSplit (pivot_sequence p names g) (count f) (block_row block t)) (sym (behind_cut cut own others t size more))
      (split_same (λ k lk. sym (finds.kept.places k lk)) (λ k j lk lj. sym (finds.kept.entries k j lk lj)) by_f)

  split : IsPrime p → (block : List (List ℕ)) → AreSplit p names (before_panel (panel_stage f found rows i)) block (stage f rows i) →
      AreSplit p names (count f) block (stage g (own ++ others) end)
  split prime block was =
      let own_split = finds.split prime (take cut block) (front_split cut inside was) in
      let all : length (take cut block) ≡ cut = length-take-le cut block (omega (arith, was.long)) in
      record {
        long = length-append own others ∙ omega (arith, size, others_long, length-drop cut rows, was.long);
        done = λ t l lb.
            let less : t < cut = omega arith in
            subst (IsSplit (pivot_sequence p names g) (count g) (block_row block t)) (sym (before_cut own others t (omega (arith, size))))
            (subst (λ b. IsSplit (pivot_sequence p names g) (count g) b (block_row own t)) (front cut block t less) (own_split.done t l (omega (arith, all))));
        ahead = λ t l lb. elim (cases_lt t cut) [
          | inl less ↦
              subst (IsSplit (pivot_sequence p names g) (count f) (block_row block t)) (sym (before_cut own others t (omega (arith, size))))
              (subst (λ b. IsSplit (pivot_sequence p names g) (count f) b (block_row own t)) (front cut block t less) (own_split.ahead t l (omega (arith, all))))
          | inr more ↦ split_behind_cut was t more lb
        ];
      }

  pub finds_joined : FindsPanel p names (panel_stage f found rows i) (panel_stage g next (own ++ others) end)
  finds_joined = record {
    found = finds.found;
    eliminated = eliminated;
    holds = finds.holds;
    units = finds.units;
    kept = finds.kept;
    split = split;
  }
