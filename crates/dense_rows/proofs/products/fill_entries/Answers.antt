use Rattle.std.proofs.Common.{ℕ, ◌≡◌, ◌<◌, ◌+◌, ◌%◌, ◌∙◌, inl, inr, ap, arith, length, mod-eq_of_lt, slice_index, sym}
use Rattle.std.proofs.lemmas.Bool.{cases_lt}
use Rattle.dense_rows.specs.Rows.{block_row, entry_of}
use Rattle.dense_rows.specs.Products.{products_of, run_of}
use Rattle.dense_rows.proofs.AddingEach.{plus_then, products_small, products_split}
use Rattle.dense_rows.proofs.ProductSums.{products_none}
use Rattle.dense_rows.proofs.products.fill_entries.Goals as goal

pub loop-first-init : goal.loop-first-init
loop-first-init c =
    let p : ℕ = c.args.product.now.folding.now.p in
    let rows = c.args.rows.now in
    let start = c.args.start in
    record {
      within = omega arith;
      long = c.fill_tile.ensures.long;
      residues = λ t k l lk. elim (cases_lt t (length rows)) [
        | inl inside ↦ omega (arith, c.fill_tile.ensures.filled t k inside lk, c.requires.residues t k inside lk)
        | inr past ↦ omega (arith, ap (λ v. slice_index v k) (c.fill_tile.ensures.kept t past), c.requires.left t k l lk)
      ];
      added = λ t k l lk.
          let x = entry_of rows t (start + k) in
          let plain : x + products_of c.args.product.now.by.now c.args.product.now.tile.now (run_of 0 0) t k ≡ x = omega (arith, products_none (block_row c.args.product.now.by.now t) c.args.product.now.tile.now 0 k) in
          c.fill_tile.ensures.filled t k l lk ∙ sym (ap (λ y. y % p) plain ∙ mod-eq_of_lt (c.requires.residues t k l lk));
    }

pub add_run-requires-clause-small : goal.add_run-requires-clause-small
add_run-requires-clause-small c =
    let f = c.args.product.now.folding.now in
    let low : f.p < 2147483648 = omega (arith, f.one.in_range, f.one_modulus) in
    record {
      long = c.args.product.now.long;
      inside = omega (arith, c.loop-first.invariant.within, c.args.product.now.high);
      coefficients = λ t k l. omega (arith, c.args.product.now.coefficients t k l, low);
      sums = λ t j l lj. products_small f.p f.most (block_row c.args.product.now.by.now t) c.args.product.now.tile.now _ j f.room (omega arith) (λ k. c.args.product.now.coefficients t k l)
          (λ k lk. c.args.product.now.residues k j (omega (arith, c.loop-first.invariant.within, lk)) lj);
    }

pub loop-first-preserved : goal.loop-first-preserved
loop-first-preserved c =
    let by = c.args.product.now.by.now in
    let tile = c.args.product.now.tile.now in
    let first = c.loop-first.first in
    let count = c.min-count.result in
    record {
      within = omega (arith, c.loop-first.invariant.within);
      long = c.add_run.ensures.long;
      residues = c.add_run.ensures.residues;
      added = λ t k l lk. plus_then c.args.product.now.folding.now.p (entry_of c.args.rows.now t (c.args.start + k)) (products_of by tile (run_of 0 first) t k) (products_of by tile (run_of first count) t k)
          (products_of by tile (run_of 0 (first + count)) t k) (c.loop-first.invariant.added t k l lk) (c.add_run.ensures.added t k l lk) (products_split (block_row by t) tile first count k);
    }

pub returns-clause-added : goal.returns-clause-added
returns-clause-added c = λ t k l lk.
    let all : c.loop-first.first ≡ c.args.product.now.height = omega (arith, c.loop-first.invariant.within, c.loop-first-test.false) in
    c.loop-first.invariant.added t k l lk ∙ ap (λ n. (entry_of c.args.rows.now t (c.args.start + k) + products_of c.args.product.now.by.now c.args.product.now.tile.now (run_of 0 n) t k) % c.args.product.now.folding.now.p) all
