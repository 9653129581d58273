use Rattle.std.proofs.Common.{ℕ, ◌≡◌, ◌++◌, ◌+◌, ◌≤◌, ◌∙◌, ap, arith, length, rules, sym, take}
use Rattle.std.proofs.lemmas.List.{length-take-le, take_all}
use Rattle.dense_panels.proofs.SharedPieces.{begins, put_left, put_more, puts}
use Rattle.dense_panels.proofs.shared_pieces.queue_of.Goals as goal

pub ruled-requires-clause-rule : goal.ruled-requires-clause-rule
ruled-requires-clause-rule g c = begins

pub try_push_as-requires-clause-rule : goal.try_push_as-requires-clause-rule
try_push_as-requires-clause-rule g c =
    let before = c.loop-at.invariant in
    let put : length (take c.loop-at.at c.args.rows.now) ≡ c.loop-at.at = length-take-le c.loop-at.at c.args.rows.now before.inside in
    puts _ _ _ c.in_ok-piece.piece before.alone (c.in_ok-piece.ensures.start ∙ sym put ∙ ap length (sym before.put))

pub loop-at-preserved : goal.loop-at-preserved
loop-at-preserved g c =
    let olds = c.args.rows.now in
    let rows = c.loop-at.rows in
    let before = c.loop-at.invariant in
    let a : ℕ = c.loop-at.at in
    let z : ℕ = a + c.rows_of_next.result in
    let order : a ≤ z = omega arith in
    let inside : z ≤ length rows = omega (arith, c.rows_of_next.ensures.inside, before.inside, c.loop-at.auto.rows) in
    let known : c.try_push_as.new.pass.me.0.client ≡ record { alone = c.loop-at.pass.me.0.client.alone; rows = c.loop-at.pass.me.0.client.rows ++ c.in_ok-piece.piece.rows } = search rules in
    record {
      inside = omega (arith, inside, c.loop-at.auto.rows);
      pass = search rules;
      alone = ap (λ v. v.alone) known ∙ before.alone;
      put = ap (λ v. v.rows) known ∙ put_more olds rows a z before.left order inside _ _ before.put c.in_ok-piece.ensures.rows;
      left = put_left olds rows a z before.left order inside c.moved_piece.new.rows c.moved_piece.auto.rows;
    }

pub returns-clause-pass : goal.returns-clause-pass
returns-clause-pass g c = c.loop-at.invariant.pass

pub returns-clause-rows : goal.returns-clause-rows
returns-clause-rows g c = c.loop-at.invariant.put ∙ take_all c.loop-at.at c.args.rows.now (omega (arith, c.loop-at.auto.rows, c.loop-at-test.false))

pub returns-clause-long : goal.returns-clause-long
returns-clause-long g c = c.loop-at.auto.rows

pub count_of_pieces-requires : goal.count_of_pieces-requires
count_of_pieces-requires g c = c.requires.some
