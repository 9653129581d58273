use Rattle.std.proofs.Common.{◌∙◌, ◌+◌, arith, sym}
use Rattle.std.proofs.lemmas.Simd.{get_or-replicate}
use Rattle.dense_rows.specs.Rows.{block_row}
use Rattle.dense_rows.proofs.ProductSums.{products_none, sums_more, sums_small}
use Rattle.dense_rows.proofs.products.sums_of.Goals as goal

pub loop-i-init : goal.loop-i-init
loop-i-init c =
    let by = c.args.by.now in
    let tile = c.args.tile.now in
    let s = c.args.run.first in
    record {
      first = λ k l. get_or-replicate 8 k 0 0 l ∙ sym (products_none (block_row by c.args.row) tile s k);
      second = λ k l. get_or-replicate 8 k 0 0 l ∙ sym (products_none (block_row by (c.args.row + 1)) tile s k);
      third = λ k l. get_or-replicate 8 k 0 0 l ∙ sym (products_none (block_row by (c.args.row + 2)) tile s k);
      fourth = λ k l. get_or-replicate 8 k 0 0 l ∙ sym (products_none (block_row by (c.args.row + 3)) tile s k);
    }

pub plus_products-first-requires : goal.plus_products-first-requires
plus_products-first-requires c =
    sums_small c.args.by.now c.args.tile.now c.args.run c.requires.small c.loop-i.i c.args.row c.loop-i.first _ _ c.loop-i-test.true (omega (arith, c.requires.four)) c.loop-i.invariant.first c.lanes-y.ensures

pub plus_products-second-requires : goal.plus_products-second-requires
plus_products-second-requires c =
    sums_small c.args.by.now c.args.tile.now c.args.run c.requires.small c.loop-i.i (c.args.row + 1) c.loop-i.second _ _ c.loop-i-test.true (omega (arith, c.requires.four)) c.loop-i.invariant.second c.lanes-y.ensures

pub plus_products-third-requires : goal.plus_products-third-requires
plus_products-third-requires c =
    sums_small c.args.by.now c.args.tile.now c.args.run c.requires.small c.loop-i.i (c.args.row + 2) c.loop-i.third _ _ c.loop-i-test.true (omega (arith, c.requires.four)) c.loop-i.invariant.third c.lanes-y.ensures

pub plus_products-fourth-requires : goal.plus_products-fourth-requires
plus_products-fourth-requires c =
    sums_small c.args.by.now c.args.tile.now c.args.run c.requires.small c.loop-i.i (c.args.row + 3) c.loop-i.fourth _ _ c.loop-i-test.true (omega (arith, c.requires.four)) c.loop-i.invariant.fourth c.lanes-y.ensures

pub loop-i-preserved : goal.loop-i-preserved
loop-i-preserved c =
    let by = c.args.by.now in
    let tile = c.args.tile.now in
    let inside = c.loop-i-test.true in
    let before = c.loop-i.invariant in
    record {
      first = sums_more by tile c.args.run c.requires.small c.loop-i.i c.args.row c.loop-i.first _ _ inside (omega (arith, c.requires.four)) before.first c.lanes-y.ensures _ c.plus_products-first.ensures;
      second = sums_more by tile c.args.run c.requires.small c.loop-i.i (c.args.row + 1) c.loop-i.second _ _ inside (omega (arith, c.requires.four)) before.second c.lanes-y.ensures _ c.plus_products-second.ensures;
      third = sums_more by tile c.args.run c.requires.small c.loop-i.i (c.args.row + 2) c.loop-i.third _ _ inside (omega (arith, c.requires.four)) before.third c.lanes-y.ensures _ c.plus_products-third.ensures;
      fourth = sums_more by tile c.args.run c.requires.small c.loop-i.i (c.args.row + 3) c.loop-i.fourth _ _ inside (omega (arith, c.requires.four)) before.fourth c.lanes-y.ensures _ c.plus_products-fourth.ensures;
    }
