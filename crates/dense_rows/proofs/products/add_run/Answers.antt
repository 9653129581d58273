use Rattle.std.proofs.Common.{ℕ, ◌≡◌, ◌<◌, ◌≤◌, ◌+◌, ◌%◌, ◌∙◌, inl, inr, ap, arith, length-set, mod-lt, refl, set, slice_index}
use Rattle.std.proofs.lemmas.Bool.{cases_lt}
use Rattle.dense_rows.specs.Rows.{block_row, entry_of}
use Rattle.dense_rows.specs.Products.{products_of}
use Rattle.dense_rows.proofs.AddingEach.{four_kept, four_more, plus_eight}
use Rattle.dense_rows.proofs.products.add_run.Goals as goal

pub loop-row-init : goal.loop-row-init
loop-row-init c = record { fours = refl; long = c.requires.long; residues = c.requires.residues; done = λ t k l lk. absurd (omega arith); ahead = λ t l. refl }

pub plus_sums-first-requires : goal.plus_sums-first-requires
plus_sums-first-requires c = λ k l. c.loop-row.invariant.residues c.loop-row.row k (omega (arith, c.requires.few)) l

pub plus_sums-second-requires : goal.plus_sums-second-requires
plus_sums-second-requires c = λ k l. c.loop-row.invariant.residues (c.loop-row.row + 1) k (omega (arith, c.loop-row.invariant.fours, c.requires.few)) l

pub plus_sums-third-requires : goal.plus_sums-third-requires
plus_sums-third-requires c = λ k l. c.loop-row.invariant.residues (c.loop-row.row + 2) k (omega (arith, c.loop-row.invariant.fours, c.requires.few)) l

pub plus_sums-fourth-requires : goal.plus_sums-fourth-requires
plus_sums-fourth-requires c = λ k l. c.loop-row.invariant.residues (c.loop-row.row + 3) k (omega (arith, c.loop-row.invariant.fours, c.requires.few)) l

pub loop-row-preserved : goal.loop-row-preserved
loop-row-preserved c =
    let p : ℕ = c.args.folding.now.p in
    let olds = c.args.entries.now in
    let entries = c.loop-row.entries in
    let f : ℕ → ℕ → ℕ = products_of c.args.by.now c.args.tile.now c.args.run in
    let row : ℕ = c.loop-row.row in
    let low : row + 4 ≤ 32 = omega (arith, c.loop-row.invariant.fours, c.requires.few) in
    let sums = c.sums_of-sums in
    let v1 = c.plus_sums-first in
    let v2 = c.plus_sums-second in
    let v3 = c.plus_sums-third in
    let v4 = c.plus_sums-fourth in
    let one = set entries row v1.result in
    let two = set one (row + 1) v2.result in
    let three = set two (row + 2) v3.result in
    let four = set three (row + 3) v4.result in
    let done : (t : ℕ) → t < row + 4 → (k : ℕ) → k < 8 → slice_index (block_row four t) k ≡ (entry_of olds t k + f t k) % p =
    four_more (λ t v. (k : ℕ) → k < 8 → slice_index v k ≡ (entry_of olds t k + f t k) % p) entries row v1.result v2.result v3.result v4.result (omega (arith, c.loop-row.invariant.long))
    (λ t l k lk. c.loop-row.invariant.done t k l lk)
    (plus_eight p (block_row olds row) sums.result.first v1.result (f row) (c.loop-row.invariant.ahead row (omega arith)) v1.ensures sums.ensures.first)
    (plus_eight p (block_row olds (row + 1)) sums.result.second v2.result (f (row + 1)) (c.loop-row.invariant.ahead (row + 1) (omega arith)) v2.ensures sums.ensures.second)
    (plus_eight p (block_row olds (row + 2)) sums.result.third v3.result (f (row + 2)) (c.loop-row.invariant.ahead (row + 2) (omega arith)) v3.ensures sums.ensures.third)
    (plus_eight p (block_row olds (row + 3)) sums.result.fourth v4.result (f (row + 3)) (c.loop-row.invariant.ahead (row + 3) (omega arith)) v4.ensures sums.ensures.fourth) in
    let kept : (t : ℕ) → row + 4 ≤ t → block_row four t ≡ block_row entries t = λ t le. four_kept entries row v1.result v2.result v3.result v4.result t le in
    let positive : 0 < p = omega (arith, c.loop-row.invariant.residues 0 0 (omega arith) (omega arith)) in
    record {
      fours = omega (arith, c.loop-row.invariant.fours);
      long = length-set three (row + 3) v4.result ∙ length-set two (row + 2) v3.result ∙ length-set one (row + 1) v2.result ∙ length-set entries row v1.result ∙ c.loop-row.invariant.long;
      residues = λ t k l lk. elim (cases_lt t (row + 4)) [
        | inl less ↦ omega (arith, done t less k lk, mod-lt (entry_of olds t k + f t k) positive)
        | inr le ↦ omega (arith, ap (λ v. slice_index v k) (kept t le), c.loop-row.invariant.residues t k l lk)
      ];
      done = λ t k l lk. done t l k lk;
      ahead = λ t le. kept t le ∙ c.loop-row.invariant.ahead t (omega arith);
    }

pub returns-clause-added : goal.returns-clause-added
returns-clause-added c = λ t k l lk. c.loop-row.invariant.done t k (omega arith) lk
