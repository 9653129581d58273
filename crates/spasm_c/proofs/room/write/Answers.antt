use Rattle.std.proofs.Common.{arith, length, refl}
use Rattle.spasm_c.proofs.Entries.{first_entries}
use Rattle.spasm_c.proofs.room.write.Goals as goal

pub returns : goal.returns
returns c =
    first_entries (length c.args.triples.now) c.loop-k.rows c.loop-k.columns c.loop-k.values c.args.triples.now refl
    (omega (arith, c.requires.rows, c.loop-k.auto.rows)) (omega (arith, c.requires.columns, c.loop-k.auto.columns))
    (omega (arith, c.requires.values, c.loop-k.auto.values))
    (λ q d below. c.loop-k.invariant q d (omega (arith, below, c.loop-k-test.false, c.loop-k.auto.k-end)))
