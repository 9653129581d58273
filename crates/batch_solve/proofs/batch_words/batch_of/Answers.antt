-- By the numbers that are given.
use Rattle.clap.specs.Words.{found_of}
use Rattle.batch_solve.proofs.BatchOptions.{batch_set, no_count, no_modulus, no_workers}
use Rattle.batch_solve.proofs.batch_words.batch_of.Goals as goal

pub returns-in_err-count : goal.returns-in_err-count
returns-in_err-count c =
    let none = c.from_residual.ensures in
    rw none (no_count (found_of c.args.matches.now) c.in_err-count.ensures)

pub returns-in_err-modulus : goal.returns-in_err-modulus
returns-in_err-modulus c =
    let none = c.from_residual-in_err-modulus.ensures in
    rw none (no_modulus (found_of c.args.matches.now) c.in_err-modulus.ensures)

pub returns-in_err-workers : goal.returns-in_err-workers
returns-in_err-workers c =
    let none = c.from_residual-in_err-workers.ensures in
    rw none (no_workers (found_of c.args.matches.now) c.in_err-workers.ensures)

pub returns : goal.returns
returns c = batch_set (found_of c.args.matches.now) (record { count = _; modulus = _; workers = _ }) c.in_ok-count.ensures c.in_ok-modulus.ensures c.in_ok-workers.ensures
