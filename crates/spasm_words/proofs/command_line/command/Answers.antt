use Rattle.std.proofs.Common.{[], ◌∷◌, codes}
use Rattle.spasm_words.proofs.Building.{all_commands, command_added, last_added, no_commands_yet, one_added}
use Rattle.spasm_words.proofs.command_line.command.Goals as goal

pub loop-name-init : goal.loop-name-init
loop-name-init c =
    no_commands_yet _ _ _ _ _ _ c.new.ensures.app c.no_binary_name.ensures c.subcommand_required.ensures c.disable_help_flag.ensures c.disable_help_subcommand.ensures c.disable_version_flag-line.ensures

pub loop-name-preserved : goal.loop-name-preserved
loop-name-preserved c = command_added _ _ _ _ _ _ c.loop-name-test.true c.loop-name.invariant c.in_ok-named.ensures c.in_ok-line.ensures

pub returns : goal.returns
returns c =
    let tabled = all_commands _ _ c.loop-name.line c.loop-name-test.false c.loop-name.invariant in
    let drilled = one_added _ (codes "drill") (codes "seed" ∷ codes "rows" ∷ codes "cols" ∷ codes "per" ∷ []) c.loop-name.line c.in_ok-drill.drill c.in_ok-line-2.line tabled c.in_ok-drill.ensures c.in_ok-line-2.ensures in
    last_added c.subcommand-3.result _ (codes "certify") (codes "kind" ∷ []) c.in_ok-line-2.line c.in_ok-certify.certify drilled c.in_ok-certify.ensures c.subcommand-3.ensures
