use Rattle.std.proofs.Common.{IfOk, subst, sym, arith}
use Rattle.std.proofs.lemmas.Result.{IfOk-weaker}
use Rattle.residue_words.specs.Matrix.{zeros}
use Rattle.sparse_rows.specs.Stored.{IsSparse, spread}
use Rattle.sparse_rows.proofs.Spread.{spread_vector}
use Rattle.lead_rows.specs.Accumulator.{IsClear}
use Rattle.lead_rows.specs.Led.{Drains, IsKept, kept_rows, spread_row}
use Rattle.lead_rows.specs.Leads.{Inserts, IsRest, KeptRows}
use Rattle.lead_rows.proofs.Appending.{inserts_of_rest}
use Rattle.lead_rows.proofs.LedRows.{kept_sound}
use Rattle.lead_rows.proofs.Reducing.{at_clear, made_of, rest_of_drained, zeros_ready}
use Rattle.lead_rows.proofs.leads.Leads.insert.Goals as goal

pub reduce-requires-clause-kept : goal.reduce-requires-clause-kept
reduce-requires-clause-kept c =
    rw (c.deref.ensures.value, c.deref-2.ensures.value)
    (at_clear (λ p n. IsKept p n c.self.inside.rows.items c.self.inside.row_at.items) c.self.inside.modulus c.self.inside.width c.self.invariant.1 c.self.invariant.0)

pub reduce-requires-clause-sparse : goal.reduce-requires-clause-sparse
reduce-requires-clause-sparse c =
    let sparse : IsSparse c.self.inside.modulus c.self.inside.width c.args.cols.now c.args.vals.now =
    subst (λ (K : KeptRows). IsSparse K.modulus K.matrix.width c.args.cols.now c.args.vals.now) (sym c.self.view_is) c.requires in
    at_clear (λ p n. IsSparse p n c.args.cols.now c.args.vals.now) c.self.inside.modulus c.self.inside.width c.self.invariant.1 sparse

pub reduce-requires-clause-clear : goal.reduce-requires-clause-clear
reduce-requires-clause-clear c =
    at_clear (λ p n. IsClear p n c.self.inside.accumulator) c.self.inside.modulus c.self.inside.width c.self.invariant.1 c.self.invariant.1

pub reduce-requires-clause-rest : goal.reduce-requires-clause-rest
reduce-requires-clause-rest c =
    zeros_ready c.self.inside.modulus c.self.inside.width c.args.cols.now c.args.vals.now c.self.invariant.0.two_or_more c.self.invariant.1
    (made_of c.self.inside.modulus (zeros c.self.inside.width) c.new-rest.ensures.modulus c.new-rest.ensures.row)

pub append-requires-clause-residues : goal.append-requires-clause-residues
append-requires-clause-residues c =
    let sparse : IsSparse c.self.inside.modulus c.self.inside.width c.args.cols.now c.args.vals.now =
    subst (λ (K : KeptRows). IsSparse K.modulus K.matrix.width c.args.cols.now c.args.vals.now) (sym c.self.view_is) c.requires in
    let rest : IsRest (kept_rows c.self.inside.modulus c.self.inside.width c.self.inside.rows.items) (spread c.self.inside.width c.args.cols.now c.args.vals.now) c.reduce.new.rest.row =
    rest_of_drained c.self.invariant.0 c.self.invariant.1 sparse c.new-rest.ensures.row
    (subst (λ rows. Drains rows (spread_row c.self.inside.accumulator c.args.cols.now c.args.vals.now) c.new-rest.result.row c.reduce.new.rest.row) c.deref.ensures.value c.in_ok-reduce.ensures.ok) in
    rest.vector

pub append-requires-clause-zero_at_leads : goal.append-requires-clause-zero_at_leads
append-requires-clause-zero_at_leads c =
    let sparse : IsSparse c.self.inside.modulus c.self.inside.width c.args.cols.now c.args.vals.now =
    subst (λ (K : KeptRows). IsSparse K.modulus K.matrix.width c.args.cols.now c.args.vals.now) (sym c.self.view_is) c.requires in
    let rest : IsRest (kept_rows c.self.inside.modulus c.self.inside.width c.self.inside.rows.items) (spread c.self.inside.width c.args.cols.now c.args.vals.now) c.reduce.new.rest.row =
    rest_of_drained c.self.invariant.0 c.self.invariant.1 sparse c.new-rest.ensures.row
    (subst (λ rows. Drains rows (spread_row c.self.inside.accumulator c.args.cols.now c.args.vals.now) c.new-rest.result.row c.reduce.new.rest.row) c.deref.ensures.value c.in_ok-reduce.ensures.ok) in
    rest.zero_at_leads

pub returns-clause-inserted : goal.returns-clause-inserted
returns-clause-inserted c =
    let sparse : IsSparse c.self.inside.modulus c.self.inside.width c.args.cols.now c.args.vals.now =
    subst (λ (K : KeptRows). IsSparse K.modulus K.matrix.width c.args.cols.now c.args.vals.now) (sym c.self.view_is) c.requires in
    let rest : IsRest (kept_rows c.self.inside.modulus c.self.inside.width c.self.inside.rows.items) (spread c.self.inside.width c.args.cols.now c.args.vals.now) c.reduce.new.rest.row =
    rest_of_drained c.self.invariant.0 c.self.invariant.1 sparse c.new-rest.ensures.row
    (subst (λ rows. Drains rows (spread_row c.self.inside.accumulator c.args.cols.now c.args.vals.now) c.new-rest.result.row c.reduce.new.rest.row) c.deref.ensures.value c.in_ok-reduce.ensures.ok) in
    subst (λ (K : KeptRows). IfOk c.append.result (Inserts K c.append.new.self (spread K.matrix.width c.args.cols.now c.args.vals.now))) c.self.view_is
    (IfOk-weaker c.append.result _ _ (λ lead e.
    inserts_of_rest c.append.new.self (kept_sound c.self.invariant.0) (spread_vector (omega (arith, c.self.invariant.0.two_or_more)) sparse) rest lead e) c.append.ensures.extends)
