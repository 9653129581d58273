-- Row by row.
use Rattle.std.proofs.Common.{◌≡◌, ◌*◌, ◌++◌, [], IfOk, ap, subst, ◌∙◌, arith}
use Rattle.std.specs.List.{flat_map, range_with_len}
use Rattle.sparse_rows.specs.Rows.{Building, built}
use Rattle.spasm_words.specs.Generator.{generated_row, state_after}
use Rattle.spasm_words.specs.declared.generator.Generator.{Generator}
use Rattle.spasm_words.proofs.Generating.{rows_drawn, state_none}
use Rattle.spasm_words.proofs.generator.Generator.matrix.Goals as goal

pub loop-i-init : goal.loop-i-init
loop-i-init c =
    let none : 0 ≡ 2 * (0 * c.args.self.now.per) = omega arith in
    record { state = c.new-numbers.ensures ∙ state_none c.args.self.now.seed ∙ ap (state_after c.args.self.now.seed) none; drawn = c.in_ok-builder.ensures }

pub loop-i-preserved : goal.loop-i-preserved
loop-i-preserved c =
    let g : Generator = c.args.self.now in
    let start : Building = record { modulus = c.args.p.now; height = g.rows; width = g.cols; pushed = [] } in
    let b : Building = c.loop-i.builder in
    let pushed = subst (λ p. c.push_row.new.builder ≡ record b { pushed = b.pushed ++ generated_row p g c.loop-i.i }) c.p.ensures.value c.in_ok-push_row.ensures.pushed in
    record { state = c.in_ok-push_row.ensures.state; drawn = rows_drawn c.args.p.now g c.loop-i.i start b _ c.loop-i.invariant.drawn pushed }

pub returns-clause-matrix : goal.returns-clause-matrix
returns-clause-matrix c =
    let g : Generator = c.args.self.now in
    let all : c.loop-i.i ≡ g.rows = omega (arith, c.loop-i-test.false, c.loop-i.auto.i-end) in
    let whole = c.loop-i.invariant.drawn
    ∙ ap (λ n. record { modulus = c.args.p.now; height = g.rows; width = g.cols; pushed = flat_map (generated_row c.args.p.now g) (range_with_len 0 n) }) all in
    subst (λ (b : Building). IfOk c.finish.result (λ rows. rows.matrix ≡ built b.modulus b.height b.width b.pushed)) whole c.finish.ensures.matrix
