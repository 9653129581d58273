-- By the subcommand's rows.
use Rattle.clap.specs.Words.{found_of}
use Rattle.spasm_words.proofs.Matching.{entered_rows, no_modulus, no_rounds, no_task, no_workers, said_by}
use Rattle.spasm_words.proofs.command_words.command_of.Goals as goal

pub returns-in_err-modulus : goal.returns-in_err-modulus
returns-in_err-modulus c =
    let e = entered_rows _ c.in_ok-name.name.now _ c.in_ok-name.ensures.name c.in_ok-name.ensures.rows in
    let none = c.from_residual-in_err-modulus.ensures in
    rw none (no_modulus _ _ (found_of c.in_ok-name.options.now) e c.in_err-modulus.ensures)

pub returns-in_err-workers : goal.returns-in_err-workers
returns-in_err-workers c =
    let e = entered_rows _ c.in_ok-name.name.now _ c.in_ok-name.ensures.name c.in_ok-name.ensures.rows in
    let none = c.from_residual-in_err-workers.ensures in
    rw none (no_workers _ _ (found_of c.in_ok-name.options.now) e c.in_err-workers.ensures)

pub returns-in_err-rounds : goal.returns-in_err-rounds
returns-in_err-rounds c =
    let e = entered_rows _ c.in_ok-name.name.now _ c.in_ok-name.ensures.name c.in_ok-name.ensures.rows in
    let none = c.from_residual-in_err-rounds.ensures in
    rw none (no_rounds _ _ (found_of c.in_ok-name.options.now) e c.in_err-rounds.ensures)

pub returns-in_err-task : goal.returns-in_err-task
returns-in_err-task c =
    let e = entered_rows _ c.in_ok-name.name.now _ c.in_ok-name.ensures.name c.in_ok-name.ensures.rows in
    let none = c.from_residual-in_err-task.ensures in
    rw none (no_task _ _ (found_of c.in_ok-name.options.now) e c.in_err-task.ensures)

pub returns : goal.returns
returns c =
    let e = entered_rows _ c.in_ok-name.name.now _ c.in_ok-name.ensures.name c.in_ok-name.ensures.rows in
    said_by _ _ (found_of c.in_ok-name.options.now) (record { task = _; modulus = _; workers = _; rounds = _ }) e c.in_ok-modulus.ensures c.in_ok-workers.ensures c.in_ok-rounds.ensures c.in_ok-task.ensures
