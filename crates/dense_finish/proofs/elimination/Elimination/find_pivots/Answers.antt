use Rattle.std.proofs.Common.{List, ℕ, ◌≡◌, ◌<◌, ◌∙◌, false, ap, arith, length, slice_index, slice_index_or, slice_set, subst, sym}
use Rattle.std.proofs.lemmas.List.{get_or-set_same}
use Rattle.residue_words.specs.Matrix.{IsVector}
use Rattle.dense_rows.specs.Rows.{block_row}
use Rattle.dense_rows.specs.Dense.{IsZeroAtFree, IsFirstFree, IsPivotOf, KeepsCoefficients}
use Rattle.dense_rows.proofs.BlockRows.{read_row}
use Rattle.dense_panels.specs.Panel.{PanelReduces, PanelRows}
use Rattle.dense_finish.proofs.Growing.{found_own}
use Rattle.dense_finish.proofs.Progress.{panel_begins}
use Rattle.dense_finish.proofs.Stages.{kept_same, reduced_vector, stage_more, stage_more_kept, stage_more_split, stage_same, stage_same_split}
use Rattle.dense_finish.proofs.elimination.Elimination.find_pivots.Goals as goal
use Rattle.dense_finish.proofs.elimination.Elimination.find_pivots.Goals.{in-Some+in_ok-pivot+in_ok-push, in_default}

-- a row that was read and reduced
reduced_row : (p : ℕ) (panel : PanelRows) (block : List (List ℕ)) (i : ℕ) (d v : List ℕ) → i < length block → PanelReduces p panel (slice_index_or block i d) v → PanelReduces p panel (block_row block i) v
reduced_row p panel block i d v l h = subst (λ u. PanelReduces p panel u v) (read_row block i d l) h

pub loop-i-init : goal.loop-i-init
loop-i-init g c = record {
  state = record {
    found = c.requires.ready.found;
    eliminated = c.requires.ready.eliminated;
    holds = rw c.new-panel.ensures (panel_begins c.args.self.now.columns.now c.args.pivots.now);
  };
  kept = kept_same;
  split = λ prime from h. h;
}

pub reduce-requires-clause-residues : goal.reduce-requires-clause-residues
reduce-requires-clause-residues g c κs within =
    let state = c.loop-i.invariant.state in
    let inside : c.loop-i.i < length c.loop-i.block = omega (arith, c.loop-i.auto.block, c.requires.rows.inside) in
    rw (read_row c.loop-i.block c.loop-i.i c.index-block-i.result inside, state.holds.wide) (state.eliminated.vectors c.loop-i.i inside)

pub reduce-requires-clause-pivots : goal.reduce-requires-clause-pivots
reduce-requires-clause-pivots g c κs within = c.loop-i.invariant.state.holds.pivots

pub first_free-requires-after_bounds : goal.first_free-requires-after_bounds
first_free-requires-after_bounds g c κs within =
    let state = c.loop-i.invariant.state in
    let block = c.loop-i.block in
    let i = c.loop-i.i in
    let inside : i < length block = omega (arith, c.loop-i.auto.block, c.requires.rows.inside) in
    let vector = reduced_vector state inside (reduced_row c.args.self.now.p c.loop-i.panel block i c.index-block-i.result c.reduce.new.row inside c.reduce.ensures) in
    ap length c.deref.ensures.value ∙ state.found.marks ∙ sym (ap length (get_or-set_same block i c.reduce.new.row c.index-block-i-in-loop-i.result inside) ∙ vector.len)

pub take_pivot-requires-clause-residues : goal.take_pivot-requires-clause-residues
take_pivot-requires-clause-residues g c κs within =
    let block = c.loop-i.block in
    let i = c.loop-i.i in
    let inside : i < length block = omega (arith, c.loop-i.auto.block, c.requires.rows.inside) in
    subst (IsVector c.args.self.now.p (length c.args.self.now.columns.now)) (sym (get_or-set_same block i c.reduce.new.row c.index-block-i-in-Some.result inside))
    (reduced_vector c.loop-i.invariant.state inside
    (reduced_row c.args.self.now.p c.loop-i.panel block i c.index-block-i.result c.reduce.new.row inside c.reduce.ensures))

pub take_pivot-requires-clause-first : goal.take_pivot-requires-clause-first
take_pivot-requires-clause-first g c κs within =
    let block = c.loop-i.block in
    let i = c.loop-i.i in
    let inside : i < length block = omega (arith, c.loop-i.auto.block, c.requires.rows.inside) in
    let same = get_or-set_same block i c.reduce.new.row c.index-block-i-in-loop-i.result inside ∙ sym (get_or-set_same block i c.reduce.new.row c.index-block-i-in-Some.result inside) in
    subst (λ v. IsFirstFree v c.loop-i.pivots.taken.items c.in-Some.c) same
    (subst (λ t. IsFirstFree (slice_index_or (slice_set block i c.reduce.new.row) i c.index-block-i-in-loop-i.result) t c.in-Some.c) c.deref.ensures.value c.in-Some.ensures.some)

pub take_pivot-requires-clause-found : goal.take_pivot-requires-clause-found
take_pivot-requires-clause-found g c κs within = found_own c.loop-i.invariant.state.found

pub take_pivot-requires-clause-inside : goal.take_pivot-requires-clause-inside
take_pivot-requires-clause-inside g c κs within = λ j l. omega (arith, c.loop-i.invariant.state.found.wide, c.requires.ready.inside j l)

pub loop-i-preserved : goal.loop-i-preserved
loop-i-preserved g c =
    let state = c.loop-i.invariant.state in
    let block = c.loop-i.block in
    let i = c.loop-i.i in
    let v = c.reduce.new.row in
    let taken = c.loop-i.pivots.taken.items in
    let inside : i < length block = omega (arith, c.loop-i.auto.block, c.requires.rows.inside) in
    let reduced = reduced_row c.args.self.now.p c.loop-i.panel block i c.index-block-i.result v inside c.reduce.ensures in
    let left = get_or-set_same block i v c.index-block-i-in-loop-i.result inside in
    elim c.match-first_free.branch [
      | in-Some+in_ok-pivot+in_ok-push w ↦
          let first : IsFirstFree v taken w.in-Some.c =
          subst (λ u. IsFirstFree u taken w.in-Some.c) left
          (subst (λ t. IsFirstFree (slice_index_or (slice_set block i v) i c.index-block-i-in-loop-i.result) t w.in-Some.c) c.deref.ensures.value w.in-Some.ensures.some) in
          let read = get_or-set_same block i v w.index-block-i-in-Some.result inside in
          let pivot : IsPivotOf c.args.self.now.p w.in-Some.c taken v w.in_ok-pivot.pivot =
          subst (λ u. IsPivotOf c.args.self.now.p w.in-Some.c taken u w.in_ok-pivot.pivot) read w.in_ok-pivot.ensures.pivot in
          let kept : KeepsCoefficients c.args.self.now.p w.in-Some.c taken v w.take_pivot.new.row =
          subst (λ u. KeepsCoefficients c.args.self.now.p w.in-Some.c taken u w.take_pivot.new.row) read w.in_ok-pivot.ensures.kept in
          rw (w.block-is, w.pivots-is, w.panel-is, w.in_ok-push.ensures.pivot) record {
            state = stage_more state inside reduced first w.in_ok-pivot.ensures.added pivot kept;
            kept = stage_more_kept state inside reduced first w.in_ok-pivot.ensures.added pivot kept c.loop-i.invariant.kept;
            split = λ prime from h. stage_more_split state inside reduced first w.in_ok-pivot.ensures.added pivot kept prime from (c.loop-i.invariant.split prime from h);
          }
      | in_default w ↦
          let none : IsZeroAtFree taken v =
          λ j l free. ap (λ u. slice_index u j) (sym left) ∙ w.in_default.ensures.none j (omega (arith, ap length left)) (ap (λ t. slice_index_or t j false) c.deref.ensures.value ∙ free) in
          rw (w.block-is, w.pivots-is, w.panel-is) record {
            state = stage_same state inside reduced none;
            kept = c.loop-i.invariant.kept;
            split = λ prime from h. stage_same_split state inside reduced from (c.loop-i.invariant.split prime from h);
          }
    ]

pub returns-clause-found : goal.returns-clause-found
returns-clause-found g c = let end : c.loop-i.i ≡ c.args.rows.end = omega arith in rw (← end) c.loop-i.invariant.state.found

pub returns-clause-eliminated : goal.returns-clause-eliminated
returns-clause-eliminated g c = let end : c.loop-i.i ≡ c.args.rows.end = omega arith in rw (← end) c.loop-i.invariant.state.eliminated

pub returns-clause-panel : goal.returns-clause-panel
returns-clause-panel g c = c.loop-i.invariant.state.holds

pub returns-clause-kept : goal.returns-clause-kept
returns-clause-kept g c = c.loop-i.invariant.kept

pub returns-clause-split : goal.returns-clause-split
returns-clause-split g c = let end : c.loop-i.i ≡ c.args.rows.end = omega arith in rw (← end) c.loop-i.invariant.split

pub take_pivot-requires-clause-row : goal.take_pivot-requires-clause-row
take_pivot-requires-clause-row g c κs within = omega (arith, c.loop-i.auto.block, c.requires.rows.inside, c.requires.ready.low)

pub reduce-requires-clause-modulus : goal.reduce-requires-clause-modulus
reduce-requires-clause-modulus g c κs within = c.requires.modulus

pub bounds-block-i : goal.bounds-block-i
bounds-block-i g c = omega (arith, c.loop-i.auto.block, c.requires.rows.inside)
