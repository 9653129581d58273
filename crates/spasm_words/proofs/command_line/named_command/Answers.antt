-- The options of all commands, and then its own.
use Rattle.std.proofs.Common.{◌≡◌, ◌∙◌, IfOk, false, map, ap, subst}
use Rattle.clap.specs.Words.{App, app_of, new_app}
use Rattle.clap.specs.declared.builder.command.Command.TheViews.{out-Command as fields_of}
use Rattle.spasm_words.specs.Line.{option_names, with_options}
use Rattle.spasm_words.proofs.command_line.named_command.Goals as goal

pub returns : goal.returns
returns c =
    let own = map (λ o. o.now) c.args.own.now in
    let with_all : app_of c.in_ok-named.named ≡ with_options (new_app c.args.name.now) option_names = c.in_ok-named.ensures.0 ∙ ap (λ (a : App). with_options a option_names) c.new-named.ensures.app in
    subst (λ (a : App). IfOk c.with_options-2.result (λ k. (app_of k ≡ with_options a own) × ((fields_of k).has_globals ≡ false))) with_all c.with_options-2.ensures
