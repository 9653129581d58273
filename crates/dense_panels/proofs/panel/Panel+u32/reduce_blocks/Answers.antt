use Rattle.std.proofs.Common.{ℕ, ◌≡◌, ◌<◌, ◌≤◌, ◌+◌, ◌-◌, ◌∙◌, ap, arith, drop, inl, inr, length, length-drop, refl, subst, sym, take}
use Rattle.std.proofs.lemmas.Bool.{cases_lt}
use Rattle.std.proofs.lemmas.List.{length-take-le}
use borrow.Rule.Slice.PartMut.{put_mid}
use Rattle.dense_rows.specs.Rows.{block_row}
use Rattle.dense_panels.specs.Panel.{PanelReduces}
use Rattle.dense_rows.proofs.BlockRows.{part_row, put_row_at, put_row_behind, put_row_below}
use Rattle.dense_panels.proofs.panel.Panel+u32.reduce_blocks.Goals as goal

pub loop-at-init : goal.loop-at-init
loop-at-init c = record { within = omega arith; done = λ t l. absurd (omega arith); ahead = λ t l. refl }

pub reduce_block-requires-clause-residues : goal.reduce_block-requires-clause-residues
reduce_block-requires-clause-residues c = λ t l.
    let at = c.loop-at.at in
    let rows = c.loop-at.rows in
    let k : ℕ = c.min-end.result - at in
    let long : length (take k (drop at rows)) ≡ k = length-take-le k (drop at rows) (omega (arith, length-drop at rows)) in
    let less : t < k = omega (arith, l) in
    let here = part_row at k rows t less ∙ c.loop-at.invariant.ahead (at + t) (omega arith) in
    let vector = c.requires.residues (at + t) (omega (arith, c.loop-at.auto.rows)) in
    rw (c.of-folding.ensures, here) vector

pub reduce_block-requires-clause-pivots : goal.reduce_block-requires-clause-pivots
reduce_block-requires-clause-pivots c = rw c.of-folding.ensures c.requires.pivots

pub reduce_block-requires-clause-units : goal.reduce_block-requires-clause-units
reduce_block-requires-clause-units c = rw c.of-folding.ensures c.requires.units

pub loop-at-preserved : goal.loop-at-preserved
loop-at-preserved c =
    let at = c.loop-at.at in
    let p = c.args.p.now in
    let panel = c.args.self.now in
    let olds = c.args.rows.now in
    let rows = c.loop-at.rows in
    let part = c.reduce_block.new.rows in
    let k : ℕ = c.min-end.result - at in
    let within : at ≤ length rows = omega (arith, c.loop-at-test.true) in
    let long : length (take k (drop at rows)) ≡ k = length-take-le k (drop at rows) (omega (arith, length-drop at rows)) in
    let long_part : length part ≡ k = omega (arith, c.reduce_block.auto.rows) in
    record {
      within = omega (arith, c.loop-at.auto.rows);
      done = λ t l. elim (cases_lt t at) [
        | inl before ↦ subst (PanelReduces p panel (block_row olds t)) (sym (put_row_below at k rows part t within before)) (c.loop-at.invariant.done t before)
        | inr behind ↦
            let place : at + (t - at) ≡ t = omega arith in
            let less : t - at < k = omega arith in
            let here = part_row at k rows (t - at) less ∙ c.loop-at.invariant.ahead (at + (t - at)) (omega arith) ∙ ap (block_row olds) place in
            let reduced : PanelReduces p panel (block_row (take k (drop at rows)) (t - at)) (block_row part (t - at)) =
            subst (λ q. PanelReduces q panel (block_row (take k (drop at rows)) (t - at)) (block_row part (t - at))) c.of-folding.ensures (c.reduce_block.ensures (t - at) (omega arith)) in
            let now = sym (put_row_at at k rows part (t - at) within (omega arith)) ∙ ap (block_row (put_mid at k rows part)) place in
            subst (PanelReduces p panel (block_row olds t)) now (subst (λ v. PanelReduces p panel v (block_row part (t - at))) here reduced)
      ];
      ahead = λ t le. put_row_behind at k rows part t within long_part (omega arith) ∙ c.loop-at.invariant.ahead t (omega arith);
    }

pub returns : goal.returns
returns c = λ t l. c.loop-at.invariant.done t (omega (arith, c.loop-at.auto.rows))
