-- By the numbers that are given.
use Rattle.std.proofs.Common.{refl, arith}
use Rattle.clap.specs.Words.{found_of}
use Rattle.spasm_words.specs.Words.{cols_rule, per_rule, rows_rule, seed_rule}
use Rattle.spasm_words.proofs.Matching.{generator_given, no_own}
use Rattle.spasm_words.proofs.command_words.generator_of.Goals as goal

pub returns-in_err-seed : goal.returns-in_err-seed
returns-in_err-seed c =
    let none = c.from_residual.ensures in
    rw none (λ g. no_own seed_rule (found_of c.args.options.now) g 0 g.seed (omega arith) (λ d. refl) c.in_err-seed.ensures)

pub returns-in_err-rows : goal.returns-in_err-rows
returns-in_err-rows c =
    let none = c.from_residual-in_err-rows.ensures in
    rw none (λ g. no_own rows_rule (found_of c.args.options.now) g 1 g.rows (omega arith) (λ d. refl) c.in_err-rows.ensures)

pub returns-in_err-cols : goal.returns-in_err-cols
returns-in_err-cols c =
    let none = c.from_residual-in_err-cols.ensures in
    rw none (λ g. no_own cols_rule (found_of c.args.options.now) g 2 g.cols (omega arith) (λ d. refl) c.in_err-cols.ensures)

pub returns-in_err-per : goal.returns-in_err-per
returns-in_err-per c =
    let none = c.from_residual-in_err-per.ensures in
    rw none (λ g. no_own per_rule (found_of c.args.options.now) g 3 g.per (omega arith) (λ d. refl) c.in_err-per.ensures)

pub returns : goal.returns
returns c =
    generator_given (found_of c.args.options.now) (record { seed = _; rows = _; cols = _; per = _ }) c.in_ok-seed.ensures c.in_ok-rows.ensures c.in_ok-cols.ensures c.in_ok-per.ensures
