use Rattle.std.proofs.Common.{◌-◌, ◌+◌, ◌<◌, ◌∙◌, ap₂, arith}
use Rattle.lead_rows.specs.Leads.{no_rows}
use Rattle.lead_rows.proofs.Draining.{sparse_of}
use Rattle.echelon_form.proofs.Keeping.{keeping_all, keeping_more, keeping_none}
use Rattle.echelon_form.proofs.sparse_elimination.eliminated.Goals as goal

pub loop-i-init : goal.loop-i-init
loop-i-init c = keeping_none c.args.rows.now.modulus c.args.rows.now.matrix c.in_ok-kept.kept (c.in_ok-kept.ensures ∙ ap₂ no_rows c.modulus.ensures.value c.width.ensures.value)

pub insert-requires : goal.insert-requires
insert-requires c =
    sparse_of (c.is_sound.ensures.entries.each c.in-Some.i c.in-Some.ensures.below) c.loop-i.invariant.modulus c.loop-i.invariant.width c.cols.ensures.support c.vals.ensures.values

pub loop-i-preserved : goal.loop-i-preserved
loop-i-preserved c =
    keeping_more c.is_sound.ensures.entries c.is_sound-in-Some.ensures.rows c.loop-i.invariant c.in-Some.ensures c.cols.ensures.support c.vals.ensures.values c.in_ok-insert.field-0 c.in_ok-insert.ensures.inserted

pub loop-i-smaller : goal.loop-i-smaller
loop-i-smaller c =
    let less : c.args.rows.now.matrix.height - (c.in-Some.i + 1) < c.args.rows.now.matrix.height - c.loop-i.from = omega (arith, c.in-Some.ensures.low, c.in-Some.ensures.below) in less

pub returns-clause-few : goal.returns-clause-few
returns-clause-few c = (keeping_all c.is_sound.ensures.entries c.loop-i.invariant c.in_default.ensures).0

pub returns-clause-span : goal.returns-clause-span
returns-clause-span c = (keeping_all c.is_sound.ensures.entries c.loop-i.invariant c.in_default.ensures).1
