use Rattle.std.proofs.Common.{◌≡◌, ◌+◌, ◌-◌, ◌%◌, ◌∙◌, ap, arith}
use Rattle.dense_rows.specs.Rows.{entry_of}
use Rattle.dense_rows.specs.Products.{tile_products, run_of}
use Rattle.dense_rows.proofs.AddingEach.{adds_written}
use Rattle.dense_rows.proofs.products.add_columns.Goals as goal

pub write_entries-requires-clause-residues : goal.write_entries-requires-clause-residues
write_entries-requires-clause-residues c = λ t k l lk. c.fill_entries.ensures.residues t k (omega (arith, c.requires.few)) lk

pub returns-clause-added : goal.returns-clause-added
returns-clause-added c = record {
  long = c.write_entries.auto.rows;
  each = λ t l. adds_written (c.write_entries.ensures t l) (λ j from less.
      let start = c.args.columns.start in
      let place : start + (j - start) ≡ j = omega arith in
      c.fill_entries.ensures.added t (j - start) l (omega (arith, c.requires.narrow))
      ∙ ap (λ x. (entry_of c.args.rows.now t x + tile_products c.args.product.now.by.now c.args.product.now.tile.now (run_of 0 c.args.product.now.height) start t j) % c.args.product.now.folding.now.p) place);
}
