use Rattle.std.proofs.Common.{◌<◌, ◌+◌, arith, length, refl}
use Rattle.dense_rows.specs.Rows.{block_row}
use Rattle.dense_rows.proofs.AddingEach.{adds_before, adds_none, adds_nothing, adds_vectors, each_equal, products_tile, products_zero}
use Rattle.dense_rows.proofs.ProductSums.{zeros_at}
use Rattle.dense_rows.proofs.products.add_products.Goals as goal

pub loop-end-init : goal.loop-end-init
loop-end-init c =
    let f = c.args.folding.now in
    record {
      within = omega arith;
      long = refl;
      entries = refl;
      left = λ t l lt ll. omega (arith, zeros_at 64 8 t l, f.one.residue, f.one_factor, f.one_modulus);
      added = adds_none {end = c.args.columns.end} c.args.rows.now;
    }

pub add_columns-requires-clause-wide : goal.add_columns-requires-clause-wide
add_columns-requires-clause-wide c = λ t l.
    let vectors = adds_vectors c.requires.residues c.loop-end.invariant.added in
    omega (arith, (vectors t l).len, c.loop-end.invariant.within, c.requires.wide)

pub add_columns-requires-clause-residues : goal.add_columns-requires-clause-residues
add_columns-requires-clause-residues c = λ t k l lk.
    let vectors = adds_vectors c.requires.residues c.loop-end.invariant.added in
    (vectors t l).residues (c.saturating_sub-start.result + k) (omega (arith, c.loop-end.invariant.within, c.requires.wide))

pub invariant_of-product : goal.invariant_of-product
invariant_of-product c = record {
  high = c.requires.high;
  long = c.fill_tile.ensures.long;
  residues = λ k l lk ll.
      let start = c.saturating_sub-start.result in
      let less : l < 8 = ll in
      omega (arith, c.fill_tile.ensures.filled k l lk less, (c.requires.units k lk).residues (start + l) (omega (arith, c.loop-end.invariant.within, c.requires.wide)));
  coefficients = c.requires.coefficients;
}

pub loop-end-preserved : goal.loop-end-preserved
loop-end-preserved c =
    let start = c.saturating_sub-start.result in
    record {
      within = omega (arith, c.loop-end.invariant.within);
      long = c.fill_tile.ensures.long;
      entries = c.add_columns.ensures.entries;
      left = c.add_columns.ensures.left;
      added = adds_before (omega arith) c.loop-end.invariant.within c.loop-end.invariant.added
          (each_equal (λ t j from less. products_tile (block_row c.args.by.now t) c.args.units.now c.fill_tile.new.tile start (length c.args.units.now) j c.fill_tile.ensures.filled (omega arith) from (omega arith)) c.add_columns.ensures.added);
    }

pub returns : goal.returns
returns c =
    adds_nothing c.requires.residues
    (λ t j l less. products_zero (block_row c.args.by.now t) c.args.units.now _ j (λ k lk. c.requires.before k j (omega (arith, lk)) (omega (arith, c.loop-end-test.false))))
    c.loop-end.invariant.within c.loop-end.invariant.added
