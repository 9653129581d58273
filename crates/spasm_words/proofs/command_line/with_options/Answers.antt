use Rattle.std.proofs.Common.{refl}
use Rattle.spasm_words.proofs.Building.{all_options, option_added}
use Rattle.spasm_words.proofs.command_line.with_options.Goals as goal

pub loop-name-init : goal.loop-name-init
loop-name-init c = (refl, c.requires)

pub loop-name-preserved : goal.loop-name-preserved
loop-name-preserved c =
    option_added _ _ _ _ c.loop-name.command c.in_ok-command.command c.one_option.result c.loop-name-test.true c.loop-name.invariant c.one_option.ensures c.in_ok-command.ensures

pub returns : goal.returns
returns c = all_options _ _ _ c.loop-name.command c.loop-name-test.false c.loop-name.invariant
