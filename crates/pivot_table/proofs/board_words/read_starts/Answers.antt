use Rattle.std.proofs.Common.{List, get_or, drop, map, ap, ◌∙◌, arith}
use Rattle.std.specs.Mem.Slots.{slots_items}
use Rattle.residue_words.specs.declared.plain.Pair.{Pair}
use Rattle.pivot_table.specs.History.{pair}
use Rattle.pivot_table.specs.Closing.{start_in}
use Rattle.pivot_table.proofs.Listed.{get_contains, take_whole}
use Rattle.pivot_table.proofs.Readings.{starts_next}
use Rattle.pivot_table.proofs.board_words.read_starts.Goals as goal

pub overflow_add-first : goal.overflow_add-first
overflow_add-first c =
    let pairs : List Pair = c.args.pairs.now in
    let low = c.requires.inside (get_or pairs c.loop-k.k (pair 0 0)) (get_contains pairs c.loop-k.k (pair 0 0) c.loop-k-test.true) in
    let small = c.args.closed.now.words.small in
    omega arith

pub word-word-requires : goal.word-word-requires
word-word-requires c =
    let pairs : List Pair = c.args.pairs.now in
    (c.requires.inside (get_or pairs c.loop-k.k (pair 0 0)) (get_contains pairs c.loop-k.k (pair 0 0) c.loop-k-test.true), c.requires.words)

pub loop-k-preserved : goal.loop-k-preserved
loop-k-preserved c =
    let more = c.push_reserved.ensures in
    let pairs : List Pair = c.args.pairs.now in
    let count = c.loop-k.invariant.count in
    record {
      so_far = λ height rows say whole.
          let low = c.requires.inside (get_or pairs c.loop-k.k (pair 0 0)) (get_contains pairs c.loop-k.k (pair 0 0) c.loop-k-test.true) in
          more.items ∙ starts_next (slots_items c.args.closed.now.words) c.args.first height rows say pairs c.args.from c.loop-k.k (pair 0 0) (omega arith) c.loop-k-test.true
          c.word-word.result (omega arith) c.word-word.ensures c.start_said.result c.start_said.ensures c.loop-k.starts.items (c.loop-k.invariant.so_far height rows say whole);
      count = let m = more.len in omega arith;
      room = let r = c.loop-k.invariant.room in let m = more.capacity in omega arith;
    }

pub returns : goal.returns
returns c = record {
  read = λ height rows say whole. c.loop-k.invariant.so_far height rows say whole
      ∙ ap (λ (l : List Pair). map (start_in rows) (drop c.args.from l)) (take_whole c.args.pairs.now c.loop-k.k (let over = c.loop-k-test.false in omega arith));
}
