use Rattle.std.proofs.Common.{arith}
use Rattle.grow_form.proofs.ScriptTerms.{no_words}
use Rattle.grow_form.proofs.script.script_line.Goals as goal

pub returns-then-count-eq0-clause-ok : goal.returns-then-count-eq0-clause-ok
returns-then-count-eq0-clause-ok c = no_words c.args.p.now c.args.width c.args.line.now.words (omega (arith, c.if-count-eq0.true, c.count.ensures))
