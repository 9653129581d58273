use Rattle.std.proofs.Common.{ℕ, List, [], ◌≡◌, ◌<◌, ◌+◌, ◌*◌, ◌%◌, ◌∙◌, ap, arith, inl, inr, length, length-set, refl, set, slice_index, slice_index_or, subst, sym}
use native.Mathlib.Nat.{mod-mod}
use Rattle.std.proofs.lemmas.Bool.{cases_eq, cases_lt}
use Rattle.std.proofs.lemmas.List.{get_or-set_other, get_or-set_same}
use Rattle.residue_words.specs.Matrix.{IsVector}
use Rattle.residue_words.specs.Residues.{sum_below}
use Rattle.dense_rows.specs.Rows.{block_row, entry_of}
use Rattle.dense_rows.specs.Dense.{IsCleared}
use Rattle.dense_panels.specs.Panel.{PanelRows}
use Rattle.dense_rows.proofs.AddingEach.{adds_vector}
use Rattle.dense_rows.proofs.BlockRows.{read_row}
use Rattle.dense_rows.proofs.ProductSums.{products_units, zeros_at}
use Rattle.dense_panels.proofs.UnitRows.{reduced_by_units}
use Rattle.dense_panels.proofs.panel.Panel+u32.reduce_block.Goals as goal

pub loop-t-init : goal.loop-t-init
loop-t-init c = record {
  all = refl;
  taken = λ t k l lk. absurd (omega arith);
  small = λ t k. omega (arith, zeros_at 32 64 t k, c.is_sound.ensures.two_or_more);
  cleared = λ t l. absurd (omega arith);
  ahead = λ t l. refl;
}

pub entries_at-requires-clause-inside : goal.entries_at-requires-clause-inside
entries_at-requires-clause-inside c = λ κs k l.
    let t = c.loop-t.t in
    let cols : c.deref.result.now ≡ c.args.self.now.columns = c.deref.ensures.value ∙ ap (λ (m : PanelRows). m.columns) c.self.view_is in
    let here = read_row c.loop-t.rows t c.index-rows-t.result (omega (arith, c.loop-t.auto.rows, c.loop-t-test.true)) ∙ c.loop-t.invariant.ahead t (omega arith) in
    omega (arith, ap (λ (v : List ℕ). slice_index v k) cols, c.requires.pivots.inside k (omega (arith, ap length cols)), ap length here, (c.requires.residues t c.loop-t-test.true).len)

pub entries_at-requires-clause-few : goal.entries_at-requires-clause-few
entries_at-requires-clause-few c = λ κs.
    let cols : c.deref.result.now ≡ c.args.self.now.columns = c.deref.ensures.value ∙ ap (λ (m : PanelRows). m.columns) c.self.view_is in
    omega (arith, ap length cols, c.requires.few)

pub clear-requires-clause-residues : goal.clear-requires-clause-residues
clear-requires-clause-residues c = λ κs.
    let t = c.loop-t.t in
    let here = read_row c.loop-t.rows t c.index-rows-t-in-loop-t.result (omega (arith, c.loop-t.auto.rows, c.loop-t-test.true)) ∙ c.loop-t.invariant.ahead t (omega arith) in
    let vector : IsVector c.args.folding.now.p c.args.self.now.width (block_row c.args.rows.now t) = c.requires.residues t c.loop-t-test.true in
    rw (here, vector.len) vector

pub clear-requires-clause-inside : goal.clear-requires-clause-inside
clear-requires-clause-inside c = λ κs k l.
    let t = c.loop-t.t in
    let cols : c.deref-in-loop-t.result.now ≡ c.args.self.now.columns = c.deref-in-loop-t.ensures.value ∙ ap (λ (m : PanelRows). m.columns) c.self.view_is in
    let here = read_row c.loop-t.rows t c.index-rows-t-in-loop-t.result (omega (arith, c.loop-t.auto.rows, c.loop-t-test.true)) ∙ c.loop-t.invariant.ahead t (omega arith) in
    omega (arith, ap (λ (v : List ℕ). slice_index v k) cols, c.requires.pivots.inside k (omega (arith, ap length cols)), ap length here, (c.requires.residues t c.loop-t-test.true).len)

pub loop-t-preserved : goal.loop-t-preserved
loop-t-preserved c =
    let p = c.args.folding.now.p in
    let panel = c.args.self.now in
    let olds = c.args.rows.now in
    let rows = c.loop-t.rows in
    let by = c.loop-t.by in
    let t = c.loop-t.t in
    let e = c.entries_at.result in
    let w = c.clear.new.self in
    let inside : t < length rows = omega (arith, c.loop-t.auto.rows, c.loop-t-test.true) in
    let low : t < length by = omega (arith, c.loop-t.invariant.all, c.requires.few_rows, c.loop-t-test.true) in
    let cols : c.deref.result.now ≡ panel.columns = c.deref.ensures.value ∙ ap (λ (m : PanelRows). m.columns) c.self.view_is in
    let cols_then : c.deref-in-loop-t.result.now ≡ panel.columns = c.deref-in-loop-t.ensures.value ∙ ap (λ (m : PanelRows). m.columns) c.self.view_is in
    let here = read_row rows t c.index-rows-t.result inside ∙ c.loop-t.invariant.ahead t (omega arith) in
    let here_then = read_row rows t c.index-rows-t-in-loop-t.result inside ∙ c.loop-t.invariant.ahead t (omega arith) in
    let taken_now : (k : ℕ) → k < length panel.columns → slice_index e k ≡ entry_of olds t (slice_index panel.columns k) =
    λ k l. c.entries_at.ensures.entries k (omega (arith, ap length cols)) ∙ (λ i. slice_index (here i) (slice_index (cols i) k)) in
    let small_now : (k : ℕ) → slice_index e k < p =
    λ k. elim (cases_lt k (length panel.columns)) [
      | inl l ↦ omega (arith, taken_now k l, (c.requires.residues t c.loop-t-test.true).residues (slice_index panel.columns k) (c.requires.pivots.inside k l))
      | inr m ↦ omega (arith, c.entries_at.ensures.rest k (omega (arith, ap length cols)), c.loop-t.invariant.small 0 0)
    ] in
    let cleared_then : IsCleared p (length panel.columns) (slice_index panel.columns) (slice_index_or rows t c.index-rows-t-in-loop-t.result) w =
    subst (λ (v : List ℕ). IsCleared p (length v) (slice_index v) (slice_index_or rows t c.index-rows-t-in-loop-t.result) w) cols_then c.clear.ensures in
    let cleared_now : IsCleared p (length panel.columns) (slice_index panel.columns) (block_row olds t) w =
    subst (λ v. IsCleared p (length panel.columns) (slice_index panel.columns) v w) here_then cleared_then in
    record {
      all = length-set by t e ∙ c.loop-t.invariant.all;
      taken = λ x k l lk. elim (cases_eq x t) [
        | inl same ↦
            ap (λ y. entry_of (set by t e) y k) same ∙ ap (λ v. slice_index v k) (get_or-set_same by t e [] low) ∙ taken_now k lk
            ∙ ap (λ y. entry_of olds y (slice_index panel.columns k)) (sym same)
        | inr other ↦ ap (λ v. slice_index v k) (get_or-set_other by t x e [] other) ∙ c.loop-t.invariant.taken x k (omega arith) lk
      ];
      small = λ x k. elim (cases_eq x t) [
        | inl same ↦ omega (arith, ap (λ y. entry_of (set by t e) y k) same, ap (λ v. slice_index v k) (get_or-set_same by t e [] low), small_now k)
        | inr other ↦ omega (arith, ap (λ v. slice_index v k) (get_or-set_other by t x e [] other), c.loop-t.invariant.small x k)
      ];
      cleared = λ x l. elim (cases_eq x t) [
        | inl same ↦
            let read : block_row (set rows t w) x ≡ w = ap (block_row (set rows t w)) same ∙ get_or-set_same rows t w [] inside in
            subst (IsCleared p (length panel.columns) (slice_index panel.columns) (block_row olds x)) (sym read)
            (subst (λ y. IsCleared p (length panel.columns) (slice_index panel.columns) (block_row olds y) w) (sym same) cleared_now)
        | inr other ↦
            subst (IsCleared p (length panel.columns) (slice_index panel.columns) (block_row olds x)) (sym (get_or-set_other rows t x w [] other)) (c.loop-t.invariant.cleared x (omega arith))
      ];
      ahead = λ x l. get_or-set_other rows t x w [] (omega arith) ∙ c.loop-t.invariant.ahead x (omega arith);
    }

pub add_products-requires-clause-residues : goal.add_products-requires-clause-residues
add_products-requires-clause-residues c = λ t l.
    let p = c.args.folding.now.p in
    let width : c.self.inside.width ≡ c.args.self.now.width = ap (λ (m : PanelRows). m.width) c.self.view_is in
    let inside : t < length c.args.rows.now = omega (arith, c.loop-t.auto.rows) in
    subst (λ n. IsVector p n (block_row c.loop-t.rows t)) ((c.requires.residues t inside).len ∙ sym width) (c.loop-t.invariant.cleared t (omega arith)).vector

pub add_products-requires-clause-units : goal.add_products-requires-clause-units
add_products-requires-clause-units c = λ t l.
    let width : c.self.inside.width ≡ c.args.self.now.width = ap (λ (m : PanelRows). m.width) c.self.view_is in
    subst (λ n. IsVector c.args.folding.now.p n (block_row c.args.units.now t)) (sym width) (c.requires.units.reduced t l).vector

pub add_products-requires-clause-coefficients : goal.add_products-requires-clause-coefficients
add_products-requires-clause-coefficients c = λ t k l. c.loop-t.invariant.small t k

pub add_products-requires-clause-before : goal.add_products-requires-clause-before
add_products-requires-clause-before c = λ k j l lj. c.requires.units.before k j l lj

pub returns : goal.returns
returns c = λ t l.
    let p = c.args.folding.now.p in
    let panel = c.args.self.now in
    let units = c.args.units.now in
    let v = block_row c.args.rows.now t in
    let v0 = block_row c.loop-t.rows t in
    let w = block_row c.add_products.new.rows t in
    let width : c.self.inside.width ≡ panel.width = ap (λ (m : PanelRows). m.width) c.self.view_is in
    let inside : t < length c.loop-t.rows = omega (arith, c.loop-t.auto.rows) in
    let vector = c.requires.residues t l in
    let cleared = c.loop-t.invariant.cleared t (omega arith) in
    let adds = c.add_products.ensures.each t inside in
    let start : IsVector p panel.width v0 = subst (λ n. IsVector p n v0) vector.len cleared.vector in
    let g : ℕ → ℕ = λ k. slice_index v (slice_index panel.columns k) in
    let sum : (j : ℕ) → j < panel.width → slice_index w j % p ≡ (slice_index v0 j + sum_below (length panel.columns) (λ k. g k * entry_of units k j)) % p =
    λ j lj. ap (λ x. x % p) (adds.added j (omega arith) (omega (arith, width))) ∙ mod-mod _ p
    ∙ ap (λ x. (slice_index v0 j + x) % p) (products_units (block_row c.loop-t.by t) units (length panel.columns) j g c.requires.units.long (λ k lk. c.loop-t.invariant.taken t k (omega arith) lk)) in
    reduced_by_units p c.args.from panel units v v0 w c.requires.pivots c.requires.units vector cleared sum (adds_vector start adds)
