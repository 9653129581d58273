use Rattle.std.proofs.Common.{subst, sym}
use Rattle.grow_form.specs.Numbering.{IsNumbering, numbered}
use Rattle.grow_form.proofs.Numbers.{none_come}
use Rattle.grow_form.proofs.numbering.Numbering.new.Goals as goal

pub invariant_of-result : goal.invariant_of-result
invariant_of-result c = subst (λ ks. IsNumbering (numbered c.args.n c.args.room ks)) (sym c.new.ensures.empty) (none_come c.args.n c.args.room c.requires.small c.requires.room)
