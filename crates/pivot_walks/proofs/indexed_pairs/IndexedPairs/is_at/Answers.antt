use Rattle.std.proofs.Common.{sym, ◌∙◌, eq-eqb}
use Rattle.std.proofs.lemmas.Bool.{false≢true}
use Rattle.pivot_walks.proofs.indexed_pairs.IndexedPairs.is_at.Goals as goal

pub returns-in-Some-clause-no : goal.returns-in-Some-clause-no
returns-in-Some-clause-no c = λ e here. false≢true (sym e ∙ eq-eqb c.in-Some.s c.args.row (sym (c.in-Some.ensures.2 c.args.row here)))
