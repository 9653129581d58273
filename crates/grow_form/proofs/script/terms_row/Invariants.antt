use Rattle.std.proofs.Common.{◌-◌, length}
use Rattle.grow_form.proofs.ScriptTerms.{TermsRead}
use Rattle.grow_form.proofs.script.terms_row.Given as goal

abbrev pub invariant-loop-k : goal.invariant-loop-k
invariant-loop-k l = TermsRead l.fn.p l.fn.width l.fn.line.words l.k l.builder

abbrev pub decreases-loop-k : goal.decreases-loop-k
decreases-loop-k l = length l.fn.line.words - l.k
