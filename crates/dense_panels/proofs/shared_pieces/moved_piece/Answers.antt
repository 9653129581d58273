use Rattle.std.proofs.Common.{◌≡◌, ◌++◌, ◌∷◌, [], ◌<◌, ◌∙◌, arith, length, refl, rules}
use Rattle.std.proofs.lemmas.List.{take_all}
use Rattle.dense_panels.proofs.SharedPieces.{moved_left, moved_more}
use Rattle.dense_panels.proofs.shared_pieces.moved_piece.Goals as goal

pub loop-t-preserved : goal.loop-t-preserved
loop-t-preserved g c =
    let olds = c.args.rows.now in
    let rows = c.loop-t.rows in
    let t = c.loop-t.t in
    let before = c.loop-t.invariant in
    let row = c.index-rows-t.result in
    let items : c.push.new.self.items ≡ c.loop-t.moved.items ++ row ∷ [] = search rules in
    let inside : t < length rows = search rules in
    record {
      moved = items ∙ moved_more olds rows t before.left c.loop-t.auto.rows inside c.loop-t.moved.items row c.index-rows-t.is before.moved;
      left = moved_left olds rows t before.left c.loop-t.auto.rows inside c.replace.new.dest;
    }

pub returns-clause-start : goal.returns-clause-start
returns-clause-start g c = refl

pub returns-clause-rows : goal.returns-clause-rows
returns-clause-rows g c = c.loop-t.invariant.moved ∙ take_all c.loop-t.t c.args.rows.now (omega (arith, c.loop-t.auto.rows, c.loop-t-test.false))

pub returns-clause-long : goal.returns-clause-long
returns-clause-long g c = c.loop-t.auto.rows

pub loop-t-init : goal.loop-t-init
loop-t-init g c = record { moved = c.in_ok-moved.ensures.items; left = refl }
