-- The form of what was generated.
use Rattle.spasm_run.proofs.Summaries.{summary_answers}
use Rattle.spasm_run.proofs.commands.find_summary.Goals as goal

pub returns : goal.returns
returns g c =
    let a = c.in_ok-a in
    let form = c.in_ok-form in
    summary_answers c.args.command c.args.generator.now c.args.p.now a.a form.form c.of.result a.ensures.modulus a.ensures.matrix
    form.ensures.modulus form.ensures.sound form.ensures.width form.ensures.short form.ensures.rref c.of.ensures.rank c.of.ensures.entries c.of.ensures.sum
