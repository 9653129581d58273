use Rattle.std.proofs.Common.{inr, rules}
use Rattle.spasm_c.specs.Asked.{IsRefutationOf}
use Rattle.spasm_c.proofs.spasm_solve.Goals as goal

pub returns-in-Ok-Some-Refuted-clause-room : goal.returns-in-Ok-Some-Refuted-clause-room
returns-in-Ok-Some-Refuted-clause-room c = λ is.
    let refutes : IsRefutationOf c.args.a.now c.args.b.now c.in-Ok-Some-Refuted.y = search rules in
    (c.in-Ok-Some-Refuted.y, inr refutes, c.fill-in-Ok-Some-Refuted.ensures.room is)
