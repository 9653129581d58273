use Rattle.std.proofs.Common.{◌<◌, length, slice_index, slice_set, refl, ap, subst, sym, arith, ◌∙◌}
use Rattle.residue_words.specs.Matrix.{zeros}
use Rattle.residue_words.proofs.Vectors.{at_zeros, length_list_of}
use Rattle.sparse_rows.specs.Stored.{IsSparse}
use Rattle.lead_rows.specs.Accumulator.{IsClear}
use Rattle.lead_rows.specs.Led.{Drains, IsKept, kept_rows, spread_row}
use Rattle.lead_rows.specs.Leads.{KeptRows, IsSettled}
use Rattle.lead_rows.proofs.LedRows.{IsAt, read_led}
use Rattle.lead_rows.proofs.Draining.{sparse_of}
use Rattle.lead_rows.proofs.Reducing.{at_clear, made_of, settled_of_drained, unit_ready}
use Rattle.lead_rows.proofs.leads.Leads.settle_with.Goals as goal

pub push-requires-clause-column : goal.push-requires-clause-column
push-requires-clause-column c =
    let at : IsAt (kept_rows c.self.inside.modulus c.self.inside.width c.self.inside.rows.items) c.args.k c.index-row.result.now =
    read_led c.self.invariant.0 c.args.k (subst (λ (K : KeptRows). c.args.k < K.matrix.height) (sym c.self.view_is) c.requires.row) c.index-row.result.now c.index-row.ensures in
    omega (arith, at.led.lead, ap length c.new-rest.ensures.row, length_list_of c.self.inside.width (λ j. 0))

pub push-requires-clause-behind : goal.push-requires-clause-behind
push-requires-clause-behind c = λ k le l.
    ap (λ u. slice_index u k) c.new-rest.ensures.row ∙ at_zeros c.self.inside.width k (omega (arith, ap length c.new-rest.ensures.row, length_list_of c.self.inside.width (λ j. 0)))

pub reduce-requires-clause-kept : goal.reduce-requires-clause-kept
reduce-requires-clause-kept c =
    let clear : IsClear c.self.inside.modulus c.self.inside.width c.args.accumulator.now = subst (λ (K : KeptRows). IsClear K.modulus K.matrix.width c.args.accumulator.now) (sym c.self.view_is) c.requires.clear in
    rw (c.deref.ensures.value, c.deref-2.ensures.value) (at_clear (λ p n. IsKept p n c.self.inside.rows.items c.self.inside.row_at.items) c.self.inside.modulus c.self.inside.width clear c.self.invariant.0)

pub reduce-requires-clause-clear : goal.reduce-requires-clause-clear
reduce-requires-clause-clear c =
    at_clear (λ p n. IsClear p n c.args.accumulator.now) c.args.self.now.modulus c.args.self.now.matrix.width c.requires.clear c.requires.clear

pub reduce-requires-clause-sparse : goal.reduce-requires-clause-sparse
reduce-requires-clause-sparse c =
    let clear : IsClear c.self.inside.modulus c.self.inside.width c.args.accumulator.now = subst (λ (K : KeptRows). IsClear K.modulus K.matrix.width c.args.accumulator.now) (sym c.self.view_is) c.requires.clear in
    let at : IsAt (kept_rows c.self.inside.modulus c.self.inside.width c.self.inside.rows.items) c.args.k c.index-row.result.now =
    read_led c.self.invariant.0 c.args.k (subst (λ (K : KeptRows). c.args.k < K.matrix.height) (sym c.self.view_is) c.requires.row) c.index-row.result.now c.index-row.ensures in
    at_clear (λ p n. IsSparse p n c.cols.result.now c.vals.result.now) c.self.inside.modulus c.self.inside.width clear
    (sparse_of at.led.vector refl refl c.cols.ensures.support c.vals.ensures.values)

pub reduce-requires-clause-rest : goal.reduce-requires-clause-rest
reduce-requires-clause-rest c =
    let clear : IsClear c.self.inside.modulus c.self.inside.width c.args.accumulator.now = subst (λ (K : KeptRows). IsClear K.modulus K.matrix.width c.args.accumulator.now) (sym c.self.view_is) c.requires.clear in
    let at : IsAt (kept_rows c.self.inside.modulus c.self.inside.width c.self.inside.rows.items) c.args.k c.index-row.result.now =
    read_led c.self.invariant.0 c.args.k (subst (λ (K : KeptRows). c.args.k < K.matrix.height) (sym c.self.view_is) c.requires.row) c.index-row.result.now c.index-row.ensures in
    unit_ready c.self.inside.modulus c.self.inside.width c.self.invariant.0.two_or_more clear at.led c.cols.ensures.support c.vals.ensures.values
    (made_of c.self.inside.modulus (slice_set (zeros c.self.inside.width) c.index-row.result.now.lead 1) (c.push.ensures.modulus ∙ c.new-rest.ensures.modulus)
    (c.in_ok-push.ensures.ok ∙ ap (λ u. slice_set u c.index-row.result.now.lead 1) c.new-rest.ensures.row))

pub returns-clause-settled : goal.returns-clause-settled
returns-clause-settled c =
    let clear : IsClear c.self.inside.modulus c.self.inside.width c.args.accumulator.now = subst (λ (K : KeptRows). IsClear K.modulus K.matrix.width c.args.accumulator.now) (sym c.self.view_is) c.requires.clear in
    let at : IsAt (kept_rows c.self.inside.modulus c.self.inside.width c.self.inside.rows.items) c.args.k c.index-row.result.now =
    read_led c.self.invariant.0 c.args.k (subst (λ (K : KeptRows). c.args.k < K.matrix.height) (sym c.self.view_is) c.requires.row) c.index-row.result.now c.index-row.ensures in
    subst (λ (K : KeptRows). IsSettled K c.args.k c.reduce.new.rest.row) c.self.view_is
    (settled_of_drained c.self.invariant.0 clear at c.cols.ensures.support c.vals.ensures.values (c.in_ok-push.ensures.ok ∙ ap (λ u. slice_set u c.index-row.result.now.lead 1) c.new-rest.ensures.row)
    (subst (λ rows. Drains rows (spread_row c.args.accumulator.now c.cols.result.now c.vals.result.now) c.push.new.self.row c.reduce.new.rest.row) c.deref.ensures.value c.in_ok-reduce.ensures.ok))
