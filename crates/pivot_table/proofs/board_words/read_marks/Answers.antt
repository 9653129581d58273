use Rattle.std.proofs.Common.{◌∙◌, arith}
use Rattle.std.specs.Mem.Slots.{slots_items}
use Rattle.pivot_table.proofs.Readings.{marks_next}
use Rattle.pivot_table.proofs.board_words.read_marks.Goals as goal

pub loop-r-preserved : goal.loop-r-preserved
loop-r-preserved c =
    let more = c.push_reserved.ensures in
    record {
      so_far = λ rows say. more.items ∙ marks_next (slots_items c.args.closed.now.words) c.args.first c.args.height rows say c.loop-r.r c.word-word.result c.loop-r-test.true c.word-word.ensures c.says_done.result c.says_done.ensures c.loop-r.done.items (c.loop-r.invariant.so_far rows say);
      count = let l = c.loop-r.invariant.count in let m = more.len in omega arith;
      room = let r = c.loop-r.invariant.room in let m = more.capacity in omega arith;
    }
