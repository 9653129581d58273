use Rattle.std.proofs.Common.{ℕ, ◌%◌, ◌∙◌, List, slice_set, ap, arith, subst}
use Rattle.std.proofs.lemmas.List.{get_or_default}
use Rattle.sparse_rows.specs.ColumnSet.{AllZero, TakesFirst}
use Rattle.sparse_rows.specs.Rows.{ResidueRow}
use Rattle.lead_rows.specs.Accumulator.{residues_of}
use Rattle.lead_rows.proofs.Accumulating.{accumulator_zero, as_row, first_taken, residues_none, skipped}
use Rattle.lead_rows.proofs.Touched.{IsTop, taken_falls, touched_pop, untouched}
use Rattle.lead_rows.proofs.accumulator.Accumulator.pop.Goals as goal

pub returns-then-value-ne0-clause-some : goal.returns-then-value-ne0-clause-some
returns-then-value-ne0-clause-some c =
    let p : ℕ = c.loop-column.self-inside.modulus in
    let sums : List ℕ = c.loop-column.self-inside.sums.items in
    let top : IsTop sums c.pop.new.self c.in-Some.column = touched_pop c.loop-column.invariant.sound.touched c.in-Some.ensures.some in
    subst (λ r. TakesFirst r (residues_of p (slice_set sums c.in-Some.column 0)) c.in-Some.column c.residue_of-value.result) (ap (λ (r : ResidueRow). r.row) c.loop-column.invariant.same)
    (first_taken p _ (omega (arith, c.loop-column.invariant.sound.limited.two_or_more)) top (c.residue_of-value.ensures.value ∙ ap (λ x. x % p) (c.index.ensures ∙ get_or_default sums _ _ 0 top.inside)) c.if-value-ne0.true)

pub loop-column-smaller : goal.loop-column-smaller
loop-column-smaller c = taken_falls c.in-Some.ensures.some

pub loop-column-preserved : goal.loop-column-preserved
loop-column-preserved c =
    let p : ℕ = c.loop-column.self-inside.modulus in
    let sums : List ℕ = c.loop-column.self-inside.sums.items in
    let top : IsTop sums c.pop.new.self c.in-Some.column = touched_pop c.loop-column.invariant.sound.touched c.in-Some.ensures.some in
    record {
      same = ap (as_row p) (skipped sums _ p _ (omega (arith, c.loop-column.invariant.sound.limited.two_or_more))
          (c.residue_of-value.ensures.value ∙ ap (λ x. x % p) (c.index.ensures ∙ get_or_default sums _ _ 0 top.inside)) c.if-value-ne0.false) ∙ c.loop-column.invariant.same;
      sound = accumulator_zero c.loop-column.invariant.sound c.in-Some.column top.taken;
    }

pub returns-clause-none : goal.returns-clause-none
returns-clause-none c = (
  c.loop-column.invariant.same,
  subst (λ (r : ResidueRow). AllZero r.row) c.loop-column.invariant.same (residues_none c.loop-column.invariant.sound.limited (untouched c.loop-column.invariant.sound.touched c.in_default.ensures.none.1)),
)

pub index-requires : goal.index-requires
index-requires c = omega (arith, (touched_pop c.loop-column.invariant.sound.touched c.in-Some.ensures.some).inside, c.loop-column.self-inside.sums.ok.0)

pub index_mut-requires : goal.index_mut-requires
index_mut-requires c = omega (arith, (touched_pop c.loop-column.invariant.sound.touched c.in-Some.ensures.some).inside, c.loop-column.self-inside.sums.ok.0)

pub residue_of-value-requires : goal.residue_of-value-requires
residue_of-value-requires c =
    let inside = (touched_pop c.loop-column.invariant.sound.touched c.in-Some.ensures.some).inside in
    omega (arith, c.index.ensures ∙ get_or_default c.loop-column.self-inside.sums.items c.in-Some.column _ 0 inside, c.loop-column.invariant.sound.limited.below c.in-Some.column inside)

pub invariant_of-self : goal.invariant_of-self
invariant_of-self c = accumulator_zero c.loop-column.invariant.sound c.in-Some.column (touched_pop c.loop-column.invariant.sound.touched c.in-Some.ensures.some).taken

pub loop-column-init : goal.loop-column-init
loop-column-init c = record { same = c.self.view_is; sound = c.self.invariant }

pub returns-then-value-ne0-clause-modulus : goal.returns-then-value-ne0-clause-modulus
returns-then-value-ne0-clause-modulus c = ap (λ (r : ResidueRow). r.modulus) c.loop-column.invariant.same

pub returns-clause-modulus : goal.returns-clause-modulus
returns-clause-modulus c = ap (λ (r : ResidueRow). r.modulus) c.loop-column.invariant.same
