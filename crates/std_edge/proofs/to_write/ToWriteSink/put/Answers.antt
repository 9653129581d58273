-- What the sink tells is what the writer gained.
use Rattle.std.proofs.Common.{◌≡◌, subst, take, arith}
use Rattle.std_edge.specs.Edge.{Holds, still_known}
use Rattle.std_edge.proofs.Telling.{took_gained, took_known}
use Rattle.std_edge.proofs.to_write.ToWriteSink.put.Goals as goal

pub returns-in-Took-clause-did : goal.returns-in-Took-clause-did
returns-in-Took-clause-did g c =
    let contents = g.W.Write.contents in
    let inside = c.self.inside in
    let none : inside.faults ≡ 0 = omega (arith, c.if-self-gt0.false) in
    let first = contents inside.first.value in
    let good = contents inside.good.value in
    let holds : Holds (contents inside.writer) (record { held = still_known first good; faults = 0 }) =
    subst (λ n. Holds (contents inside.writer) (record { held = still_known first good; faults = n })) none c.self.invariant.1 in
    let known = took_known first good (contents inside.writer) (contents c.write_through-put.new.writer) (take c.in-Took.field-0 c.args.piece.now) c.self.invariant.0 holds c.in-Took.ensures.bytes in
    rw c.in-Took.is (c.in-Took.ensures.count.0, c.in-Took.ensures.count.1, rw (← c.self.view_is) (rw c.of.ensures (took_gained (still_known first good) _ inside.faults _ known)))
