use Rattle.std.proofs.Common.{subst, sym}
use Rattle.residue_words.specs.Matrix.{zeros}
use Rattle.sparse_rows.specs.Stored.{IsSparse, spread}
use Rattle.lead_rows.specs.Accumulator.{IsClear}
use Rattle.lead_rows.specs.Led.{Drains, IsKept, spread_row}
use Rattle.lead_rows.specs.Leads.{KeptRows, IsRest}
use Rattle.lead_rows.proofs.Reducing.{at_clear, made_of, rest_of_drained, zeros_ready}
use Rattle.lead_rows.proofs.leads.Leads.rest_with.Goals as goal

pub reduce-requires-clause-kept : goal.reduce-requires-clause-kept
reduce-requires-clause-kept c =
    let clear : IsClear c.self.inside.modulus c.self.inside.width c.args.accumulator.now = subst (λ (K : KeptRows). IsClear K.modulus K.matrix.width c.args.accumulator.now) (sym c.self.view_is) c.requires.clear in
    rw (c.deref.ensures.value, c.deref-2.ensures.value) (at_clear (λ p n. IsKept p n c.self.inside.rows.items c.self.inside.row_at.items) c.self.inside.modulus c.self.inside.width clear c.self.invariant.0)

pub reduce-requires-clause-clear : goal.reduce-requires-clause-clear
reduce-requires-clause-clear c =
    at_clear (λ p n. IsClear p n c.args.accumulator.now) c.args.self.now.modulus c.args.self.now.matrix.width c.requires.clear c.requires.clear

pub reduce-requires-clause-sparse : goal.reduce-requires-clause-sparse
reduce-requires-clause-sparse c =
    at_clear (λ p n. IsSparse p n c.args.cols.now c.args.vals.now) c.args.self.now.modulus c.args.self.now.matrix.width c.requires.clear c.requires.sparse

pub reduce-requires-clause-rest : goal.reduce-requires-clause-rest
reduce-requires-clause-rest c =
    let clear : IsClear c.self.inside.modulus c.self.inside.width c.args.accumulator.now = subst (λ (K : KeptRows). IsClear K.modulus K.matrix.width c.args.accumulator.now) (sym c.self.view_is) c.requires.clear in
    zeros_ready c.self.inside.modulus c.self.inside.width c.args.cols.now c.args.vals.now c.self.invariant.0.two_or_more clear
    (made_of c.self.inside.modulus (zeros c.self.inside.width) c.new-rest.ensures.modulus c.new-rest.ensures.row)

pub returns-clause-rest : goal.returns-clause-rest
returns-clause-rest c =
    let clear : IsClear c.self.inside.modulus c.self.inside.width c.args.accumulator.now = subst (λ (K : KeptRows). IsClear K.modulus K.matrix.width c.args.accumulator.now) (sym c.self.view_is) c.requires.clear in
    let sparse : IsSparse c.self.inside.modulus c.self.inside.width c.args.cols.now c.args.vals.now =
    subst (λ (K : KeptRows). IsSparse K.modulus K.matrix.width c.args.cols.now c.args.vals.now) (sym c.self.view_is) c.requires.sparse in
    subst (λ (K : KeptRows). IsRest K (spread K.matrix.width c.args.cols.now c.args.vals.now) c.reduce.new.rest.row) c.self.view_is
    (rest_of_drained c.self.invariant.0 clear sparse c.new-rest.ensures.row
    (subst (λ rows. Drains rows (spread_row c.args.accumulator.now c.args.cols.now c.args.vals.now) c.new-rest.result.row c.reduce.new.rest.row) c.deref.ensures.value c.in_ok-reduce.ensures.ok))
