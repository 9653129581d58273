use Rattle.std.proofs.Common.{◌≡◌, ◌-◌, drop, length}
use Rattle.sms_text.specs.OuterLines.{are_terms}
use Rattle.grow_form.specs.Script.{terms_of}
use Rattle.grow_form.proofs.script.has_terms.Given as goal

abbrev pub invariant-loop-k : goal.invariant-loop-k
invariant-loop-k l = are_terms l.p l.width (drop l.k l.line.words) ≡ are_terms l.p l.width (terms_of l.line.words)

abbrev pub decreases-loop-k : goal.decreases-loop-k
decreases-loop-k l = length l.line.words - l.k
