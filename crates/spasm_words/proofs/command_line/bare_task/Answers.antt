use Rattle.std.proofs.Common.{arith}
use Rattle.spasm_words.specs.declared.command.Task.TheVariants.{Rank}
use Rattle.spasm_words.proofs.Building.{Named, no_bare_task}
use Rattle.spasm_words.proofs.command_line.bare_task.Goals as goal

pub returns : goal.returns
returns c =
    let before = c.loop-known.invariant.before in
    let d : Named = (c.args.name, Rank) in
    no_bare_task _ (before 0 (omega arith) d) (before 1 (omega arith) d) (before 2 (omega arith) d) (before 3 (omega arith) d) (before 4 (omega arith) d) (before 5 (omega arith) d) (before 6 (omega arith) d) (before 7 (omega arith) d) (before 8 (omega arith) d) (before 9 (omega arith) d) (before 10 (omega arith) d)
