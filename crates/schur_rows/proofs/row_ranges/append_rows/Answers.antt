use Rattle.std.proofs.Common.{◌∙◌, refl, arith}
use Rattle.schur_rows.proofs.Parting.{part_end, part_step, part_takes}
use Rattle.schur_rows.proofs.row_ranges.append_rows.Goals as goal

pub loop-i-init : goal.loop-i-init
loop-i-init c = record {
  low = c.requires.order;
  work = refl;
  sizes = c.room-left.ensures;
  part = c.requires.part;
}

pub append_reduced-requires-clause-part : goal.append_reduced-requires-clause-part
append_reduced-requires-clause-part c = part_takes c.rows-rows.ensures refl c.is_sound.ensures.height (omega (arith, c.requires.inside, c.in-Some.ensures.1)) c.loop-i.invariant.part c.in-Some.ensures.0.low c.in_ok-append_zeros.ensures

pub loop-i-preserved : goal.loop-i-preserved
loop-i-preserved c = record {
  low = omega (arith, c.in-Some.ensures.1);
  work = c.append_reduced.ensures.work ∙ c.loop-i.invariant.work;
  sizes = c.in_ok-append_reduced.ensures.sizes;
  part = part_step c.rows-rows.ensures refl c.is_sound.ensures.two_or_more c.is_sound.ensures.entries c.is_sound-2.ensures (omega (arith, c.requires.inside, c.in-Some.ensures.1)) c.loop-i.invariant.part c.in-Some.ensures.0 c.in_ok-append_zeros.ensures c.in_ok-append_reduced.ensures.added;
}

pub returns-clause-part : goal.returns-clause-part
returns-clause-part c = part_end c.rows-rows.ensures refl c.is_sound.ensures.two_or_more c.is_sound.ensures.entries c.is_sound-2.ensures c.requires.inside c.loop-i.invariant.low c.loop-i.invariant.part c.in_default.ensures c.in_ok-append_zeros-2.ensures
