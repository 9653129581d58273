use Rattle.std.proofs.Common.{inr, rules}
use Rattle.spasm_c.specs.Asked.{IsNullVectorOf}
use Rattle.spasm_c.proofs.spasm_inverse.Goals as goal

pub returns-in-Ok-Some-Singular-clause-room : goal.returns-in-Ok-Some-Singular-clause-room
returns-in-Ok-Some-Singular-clause-room c = λ is.
    let null : IsNullVectorOf c.args.a.now c.in-Ok-Some-Singular.v = search rules in
    (c.in-Ok-Some-Singular.v, inr null, c.fill-in-Ok-Some-Singular.ensures.room is)
