use Rattle.spasm_words.proofs.Building.{IsNoneOf, IsTable}
use Rattle.spasm_words.proofs.command_line.bare_task.Given as goal

abbrev pub invariant-loop-known : goal.invariant-loop-known
invariant-loop-known l = record { table : IsTable l.known-items; before : IsNoneOf l.name l.known-items l.known-index }
