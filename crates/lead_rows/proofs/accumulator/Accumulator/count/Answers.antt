use Rattle.std.proofs.Common.{Option, Some, None, true, ◌≡◌, ◌∙◌, IfSome, sym, ap, length}
use Rattle.std.proofs.lemmas.Bool.{false≢true}
use Rattle.std.proofs.lemmas.List.{length-set}
use Rattle.std.specs.Option.{is_some}
use Rattle.lead_rows.proofs.Touched.{taken_falls}
use Rattle.lead_rows.proofs.accumulator.Accumulator.count.Goals as goal

some_of : {X : Type 0} {P : X → Type 0} (o : Option X) → IfSome o P → is_some o ≡ true → (x : X) × P x
some_of (Some x) p e = (x, p)
some_of None p e = absurd (false≢true e)

pub loop-count-smaller : goal.loop-count-smaller
loop-count-smaller c = taken_falls (some_of c.pop.result c.pop.ensures.some (sym c.is_some.ensures ∙ c.loop-count-test.true)).1

pub loop-count-preserved : goal.loop-count-preserved
loop-count-preserved c =
    let t = some_of c.pop.result c.pop.ensures.some (sym c.is_some.ensures ∙ c.loop-count-test.true) in
    (c.pop.ensures.modulus ∙ c.loop-count.invariant.0, ap length t.1.after ∙ length-set _ _ _ ∙ c.loop-count.invariant.1)
