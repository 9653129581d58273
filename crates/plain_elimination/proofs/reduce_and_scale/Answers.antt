use Rattle.std.proofs.Common.{length, subst, arith}
use Rattle.residue_words.specs.Matrix.{IsVector}
use Rattle.plain_elimination.specs.Plain.{lists}
use Rattle.plain_elimination.proofs.Elimination.{reduced_more, reduced_same}
use Rattle.plain_elimination.proofs.reduce_and_scale.Goals as goal

pub returns-in_err-lead-clause-reduced : goal.returns-in_err-lead-clause-reduced
returns-in_err-lead-clause-reduced c = let none = c.from_residual.ensures in rw none (λ prime rows m h.
    reduced_same c.args.p.now (length c.args.row.now) rows (lists c.args.kept.now) c.args.leads.now c.args.row.now c.reduce.new.row prime m c.requires.kept h c.requires.row
    (c.reduce.ensures.value prime) (λ j l. c.in_err-lead.ensures j (omega (arith, c.reduce.ensures.vector.len))))

pub returns-clause-reduced : goal.returns-clause-reduced
returns-clause-reduced c = λ prime rows m h.
    reduced_more c.args.p.now (length c.args.row.now) rows (lists c.args.kept.now) c.args.leads.now c.args.row.now c.reduce.new.row c.scale.new.row c.in_ok-lead.lead c.inv-a.result
    prime m c.requires.kept h c.requires.row (subst (λ n. IsVector c.args.p.now n c.scale.new.row) c.reduce.auto.row c.scale.ensures.vector) (c.reduce.ensures.value prime) (c.reduce.ensures.cleared prime h.steps) (omega (arith, c.in_ok-lead.ensures.inside, c.reduce.auto.row)) (c.inv-a.ensures.inverse prime)
    (λ i l. c.scale.ensures.value i (omega (arith, c.reduce.auto.row)))
