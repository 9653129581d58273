use Rattle.std.proofs.Common.{◌∙◌, arith, ap, sym}
use Rattle.echelon_form.specs.Form.{Form}
use Rattle.echelon_form.proofs.Widening.{echelon_widened}
use Rattle.echelon_form.proofs.echelon.Echelon.widened.Goals as goal

pub invariant_of-result : goal.invariant_of-result
invariant_of-result c =
    let f : Form = record { modulus = c.self.inside.rows.modulus; matrix = c.self.inside.rows.matrix; leads = c.self.inside.leads.items } in
    rw (c.in_ok-widened.ensures.modulus, c.in_ok-widened.ensures.matrix, c.in_ok-named.ensures, c.deref.ensures.value)
    (echelon_widened c.args.width c.args.columns.now c.requires.rising c.requires.below f (omega (arith, c.is_sound.ensures.two_or_more)) c.self.invariant
    (ap (λ (f : Form). f.matrix.width) c.self.view_is ∙ sym c.requires.many))
