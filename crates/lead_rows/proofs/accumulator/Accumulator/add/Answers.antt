use Rattle.std.proofs.Common.{◌∙◌, slice_index, inl, inr, refl, sym, ap}
use Rattle.std.proofs.lemmas.Bool.{false≢true}
use Rattle.lead_rows.proofs.Accumulating.{accumulator_added, added, added_in, column_inside}
use Rattle.lead_rows.proofs.accumulator.Accumulator.add.Goals as goal

pub invariant_of-self : goal.invariant_of-self
invariant_of-self c = accumulator_added c.self.invariant (column_inside c.self.inside.sums.items c.args.j c.self.view_is c.requires.column)
    (added_in c.self.inside.sums c.deref_mut.ensures.value c.add_below.ensures.sums) (inl c.mark.ensures)

pub invariant_of-self-else-add_below : goal.invariant_of-self-else-add_below
invariant_of-self-else-add_below c = accumulator_added c.self.invariant (column_inside c.self.inside.sums.items c.args.j c.self.view_is c.requires.column)
    (added_in c.self.inside.sums c.deref_mut.ensures.value c.add_below.ensures.sums)
    (inr (λ z. false≢true (sym c.if-add_below.false ∙ c.add_below.ensures.zero.1 (ap (λ xs. slice_index xs c.args.j) c.deref_mut.ensures.value ∙ z)), refl))

pub returns-then-add_below : goal.returns-then-add_below
returns-then-add_below c = added c.self.view_is c.self.invariant.limited (column_inside c.self.inside.sums.items c.args.j c.self.view_is c.requires.column) (added_in c.self.inside.sums c.deref_mut.ensures.value c.add_below.ensures.sums)

pub returns-else-add_below : goal.returns-else-add_below
returns-else-add_below c = added c.self.view_is c.self.invariant.limited (column_inside c.self.inside.sums.items c.args.j c.self.view_is c.requires.column) (added_in c.self.inside.sums c.deref_mut.ensures.value c.add_below.ensures.sums)
