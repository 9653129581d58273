-- The command line is built from its tables, item by item.
use Rattle.std.proofs.Common.{◌≡◌, ◌≢◌, ◌<◌, ◌≤◌, ◌+◌, ◌||◌, ◌∙◌, ℕ, zero, suc, codes, true, false, List, [], ◌∷◌, length, map, take, IfOk, Result, Ok, Err, sym, ap, ap₂, arith, take_all}
use Rattle.std.specs.List.{fold, slice_index_or}
use Rattle.std.specs.Borrow.{Bor}
use Rattle.std.proofs.lemmas.List.Folds.{fold-map}
use Rattle.std.proofs.lemmas.List.Sums.{fold_more}
use Rattle.clap.specs.Words.{AddsArg, AddsSubcommand, App, Shape, Text, app_of, new_app, rule_of, with_rule, with_subcommand}
use Rattle.clap.specs.Simple.{app_of_fields, on_top}
use Rattle.clap.specs.declared.builder.arg.Arg.{Arg}
use Rattle.clap.specs.declared.builder.command.Command.{Command}
use Rattle.clap.specs.declared.builder.command.Command.TheViews.{out-Command as fields_of}
use Rattle.spasm_words.specs.Options.{IsBareTask}
use Rattle.spasm_words.specs.Line.{no_commands, command_named, option_rule, with_options}
use Rattle.spasm_words.specs.declared.command.Task.{Task}
use Rattle.spasm_words.specs.declared.command.Task.TheVariants.{Rank, Rref, Kernel, Solve, LeftKernel, Inverse, Pivots, Check, Trace, Replay, Grow, Drill, Certify}

-- ---- the options of a command

abbrev pub options_so_far : App → List (Bor Text) → App
options_so_far app items = fold (λ a s. with_rule a (option_rule s.now)) app items

pub option_added : (app : App) (items : List (Bor Text)) (i : ℕ) (d : Bor Text) (old new : Command) (a : Arg) → i < length items
    → (app_of old ≡ options_so_far app (take i items)) × ((fields_of old).has_globals ≡ false) → (rule_of a ≡ option_rule (slice_index_or items i d).now) × (a.global ≡ false) → AddsArg old a new
    → (app_of new ≡ options_so_far app (take (i + 1) items)) × ((fields_of new).has_globals ≡ false)
option_added app items i d old new a lt h is adds = (
  adds.shape is.1 ∙ ap₂ with_rule h.0 is.0 ∙ sym (fold_more (λ x s. with_rule x (option_rule s.now)) app items i d lt),
  adds.globals ∙ ap₂ (λ x y. x || y) h.1 is.1,
)

pub all_options : (app : App) (items : List (Bor Text)) (i : ℕ) (c : Command) → length items ≤ i
    → (app_of c ≡ options_so_far app (take i items)) × ((fields_of c).has_globals ≡ false) → (app_of c ≡ with_options app (map (λ s. s.now) items)) × ((fields_of c).has_globals ≡ false)
all_options app items i c le h = (
  h.0 ∙ ap (options_so_far app) (take_all i items le) ∙ sym (fold-map (λ a n. with_rule a (option_rule n)) (λ (s : Bor Text). s.now) app items),
  h.1,
)

-- ---- the commands

abbrev pub Named : Type 0
Named = Bor Text × Task

abbrev pub commands_so_far : List Named → App
commands_so_far items = fold (λ a p. with_subcommand a (command_named p.0.now []).top) no_commands items

pub no_commands_yet : (a b c d e f : Command) → app_of a ≡ new_app (codes "spasm") → fields_of b ≡ record (fields_of a) { no_binary_name = true }
    → fields_of c ≡ record (fields_of b) { subcommand_required = true } → fields_of d ≡ record (fields_of c) { disable_help_flag = true }
    → fields_of e ≡ record (fields_of d) { disable_help_subcommand = true } → fields_of f ≡ record (fields_of e) { disable_version_flag = true } → app_of f ≡ no_commands
no_commands_yet a b c d e f h1 h2 h3 h4 h5 h6 =
    ap app_of_fields h6
    ∙ ap (on_top (λ (s : Shape). record s { disable_version_flag = true })) (ap app_of_fields h5
    ∙ ap (on_top (λ (s : Shape). record s { disable_help_subcommand = true })) (ap app_of_fields h4
    ∙ ap (on_top (λ (s : Shape). record s { disable_help_flag = true })) (ap app_of_fields h3
    ∙ ap (on_top (λ (s : Shape). record s { subcommand_required = true })) (ap app_of_fields h2
    ∙ ap (on_top (λ (s : Shape). record s { no_binary_name = true })) h1))))

pub command_added : (items : List Named) (i : ℕ) (d : Named) (old named new : Command) → i < length items → app_of old ≡ commands_so_far (take i items)
    → (app_of named ≡ command_named (slice_index_or items i d).0.now []) × ((fields_of named).has_globals ≡ false) → AddsSubcommand old named new
    → app_of new ≡ commands_so_far (take (i + 1) items)
command_added items i d old named new lt h n adds =
    adds.shape n.1 ∙ ap₂ with_subcommand h (ap (λ (a : App). a.top) n.0) ∙ sym (fold_more (λ a p. with_subcommand a (command_named p.0.now []).top) no_commands items i d lt)

pub all_commands : (items : List Named) (i : ℕ) (c : Command) → length items ≤ i → app_of c ≡ commands_so_far (take i items) → app_of c ≡ commands_so_far items
all_commands items i c le h = h ∙ ap commands_so_far (take_all i items le)

-- one more command, behind others
pub one_added : (app : App) (name : Text) (own : List Text) (old named new : Command) → app_of old ≡ app → (app_of named ≡ command_named name own) × ((fields_of named).has_globals ≡ false)
    → AddsSubcommand old named new → app_of new ≡ with_subcommand app (command_named name own).top
one_added app name own old named new h n adds = adds.shape n.1 ∙ ap₂ with_subcommand h (ap (λ (a : App). a.top) n.0)

pub last_added : {E : Type 0} (result : Result Command E) (app : App) (name : Text) (own : List Text) (old named : Command) → app_of old ≡ app
    → (app_of named ≡ command_named name own) × ((fields_of named).has_globals ≡ false) → IfOk result (AddsSubcommand old named)
    → IfOk result (λ c. app_of c ≡ with_subcommand app (command_named name own).top)
last_added (Ok c) app name own old named h n adds = one_added app name own old named c h n adds
last_added (Err e) app name own old named h n adds = tt

-- ---- looking a task up

-- each item has the name of its task, which has no options of its own
abbrev pub IsTable : List Named → Type 0
IsTable [] = Unit {0}
IsTable (p ∷ ps) = IsBareTask p.0.now p.1 × IsTable ps

pub named_at : (items : List Named) (i : ℕ) (d : Named) → i < length items → IsTable items → IsBareTask (slice_index_or items i d).0.now (slice_index_or items i d).1
named_at [] i d lt t = absurd (omega arith)
named_at (p ∷ ps) zero d lt t = t.0
named_at (p ∷ ps) (suc i) d lt t = named_at ps i d (omega arith) t.1

-- the name is none of the first i items' names
abbrev pub IsNoneOf : Text → List Named → ℕ → Type 0
IsNoneOf name items i = (k : ℕ) → k < i → (d : Named) → (slice_index_or items k d).0.now ≢ name

pub no_bare_task : (w : Text) → codes "rank" ≢ w → codes "rref" ≢ w → codes "kernel" ≢ w → codes "solve" ≢ w → codes "leftkernel" ≢ w → codes "inverse" ≢ w → codes "pivots" ≢ w → codes "check" ≢ w → codes "trace" ≢ w → codes "replay" ≢ w → codes "grow" ≢ w
    → (t : Task) → ¬ IsBareTask w t
no_bare_task w h1 h2 h3 h4 h5 h6 h7 h8 h9 h10 h11 Rank (e, own) = h1 (sym e)
no_bare_task w h1 h2 h3 h4 h5 h6 h7 h8 h9 h10 h11 Rref (e, own) = h2 (sym e)
no_bare_task w h1 h2 h3 h4 h5 h6 h7 h8 h9 h10 h11 Kernel (e, own) = h3 (sym e)
no_bare_task w h1 h2 h3 h4 h5 h6 h7 h8 h9 h10 h11 Solve (e, own) = h4 (sym e)
no_bare_task w h1 h2 h3 h4 h5 h6 h7 h8 h9 h10 h11 LeftKernel (e, own) = h5 (sym e)
no_bare_task w h1 h2 h3 h4 h5 h6 h7 h8 h9 h10 h11 Inverse (e, own) = h6 (sym e)
no_bare_task w h1 h2 h3 h4 h5 h6 h7 h8 h9 h10 h11 Pivots (e, own) = h7 (sym e)
no_bare_task w h1 h2 h3 h4 h5 h6 h7 h8 h9 h10 h11 Check (e, own) = h8 (sym e)
no_bare_task w h1 h2 h3 h4 h5 h6 h7 h8 h9 h10 h11 Trace (e, own) = h9 (sym e)
no_bare_task w h1 h2 h3 h4 h5 h6 h7 h8 h9 h10 h11 Replay (e, own) = h10 (sym e)
no_bare_task w h1 h2 h3 h4 h5 h6 h7 h8 h9 h10 h11 Grow (e, own) = h11 (sym e)
no_bare_task w h1 h2 h3 h4 h5 h6 h7 h8 h9 h10 h11 (Drill g) (e, own) = absurd cc
no_bare_task w h1 h2 h3 h4 h5 h6 h7 h8 h9 h10 h11 (Certify k) (e, own) = absurd cc
