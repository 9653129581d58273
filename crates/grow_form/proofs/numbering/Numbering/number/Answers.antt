use Rattle.std.proofs.Common.{◌≡◌, ◌-◌, ◌<◌, ◌∙◌, Some, arith, length, subst, sym}
use Rattle.grow_form.specs.Numbering.{NumberedColumns, number_of}
use Rattle.grow_form.proofs.Numbers.{arrival_found, at_arrival, long_arrivals}
use Rattle.grow_form.proofs.numbering.Numbering.number.Goals as goal

pub returns-in-Some : goal.returns-in-Some
returns-in-Some c =
    let below : c.args.c < c.self.inside.width =
    omega (arith, subst (λ (N : NumberedColumns). c.args.c < length N.arrivals) (sym c.self.view_is) c.requires.below, long_arrivals c.self.inside.width c.self.inside.columns.keys) in
    let at = at_arrival c.self.inside.width c.self.inside.columns.keys c.args.c below ∙ arrival_found c.self.inside.columns.keys c.args.c (Some c.in-Some.place) c.in-Some.ensures.index in
    subst (λ (N : NumberedColumns). c.self.inside.room - 1 - c.in-Some.place ≡ number_of N c.args.c) c.self.view_is (omega (arith, at))
