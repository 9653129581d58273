use Rattle.std.proofs.lemmas.Bool.Decides.{Decides-eqb}
use Rattle.std.proofs.lemmas.Slice.Eq.{slice_eq-Decides}
use Rattle.weight_order.proofs.Dropping.{multiple_read}
use Rattle.weight_order.proofs.multiples.is_multiple.Goals as goal

pub returns-then-eq : goal.returns-then-eq
returns-then-eq c t =
    multiple_read c.modulus.ensures.sound c.requires.row c.requires.other c.cols.ensures.support c.cols-2.ensures.support c.vals.ensures.values c.vals-then-eq.ensures.values c.modulus.ensures.value
    ((slice_eq-Decides Decides-eqb _ _ _ c.eq.ensures).0 c.if-eq.true) (c.are_proportional.ensures t)
