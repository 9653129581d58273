use Rattle.std.proofs.Common.{◌∙◌}
use Rattle.dense_panels.proofs.share.Share.several.Goals as goal

pub returns-in_err-of-clause-same : goal.returns-in_err-of-clause-same
returns-in_err-of-clause-same g c = c.of.ensures.same ∙ c.loop.invariant.same
