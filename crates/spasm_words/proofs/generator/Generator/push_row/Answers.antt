-- Two numbers for each entry.
use Rattle.std.proofs.Common.{ℕ, ◌≡◌, ◌+◌, ◌-◌, ◌*◌, ◌%◌, ap, ap₂, ◌∙◌, arith}
use Rattle.spasm_words.specs.Generator.{state_after}
use Rattle.spasm_words.specs.declared.generator.Generator.{Generator}
use Rattle.spasm_words.proofs.Generating.{drawn_more, number_at, stepped}
use Rattle.spasm_words.proofs.generator.Generator.push_row.Goals as goal

pub loop-preserved : goal.loop-preserved
loop-preserved c =
    let g : Generator = c.args.self.now in
    let t : ℕ = c.loop.counter in
    let k : ℕ = 2 * (c.args.i * g.per + t) in
    let first = c.next.ensures in
    let second = c.next-in-loop.ensures in
    let between : c.next.new.self.state ≡ state_after g.seed (k + 1) = stepped g.seed k _ _ c.loop.invariant.state first.state in
    let column = number_at g.seed k _ _ _ c.loop.invariant.state first.state first.number in
    let value = number_at g.seed (k + 1) _ _ _ between second.state second.number in
    let two_more : k + 1 + 1 ≡ 2 * (c.args.i * g.per + (t + 1)) = omega arith in
    record {
      state = stepped g.seed (k + 1) _ _ between second.state ∙ ap (state_after g.seed) two_more;
      drawn = drawn_more c.args.p g c.args.i t _ _ _ c.loop.builder _ c.loop.invariant.drawn (ap₂ (λ x y. x % y) column c.from.ensures) (ap (λ x. 1 + x % (c.args.p - 1)) value) c.in_ok-push.ensures.ok;
    }
