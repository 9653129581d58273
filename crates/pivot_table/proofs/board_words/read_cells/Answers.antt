use Rattle.std.proofs.Common.{◌++◌, ◌∷◌, [], List, ap, sym, ◌∙◌, arith}
use Rattle.std.specs.Mem.Slots.{slots_items}
use Rattle.residue_words.specs.declared.plain.Pair.{Pair}
use Rattle.pivot_table.specs.Rule.{pair_of}
use Rattle.pivot_table.proofs.Readings.{full_at, read_next, read_end}
use Rattle.pivot_table.proofs.board_words.read_cells.Goals as goal

pub pair_at-requires : goal.pair_at-requires
pair_at-requires c =
    let t = full_at (slots_items c.args.closed.now.words) c.args.cells c.requires.some.0 c.requires.some.1 c.loop-k.k c.word-found.result c.loop-k-test.true c.word-found.ensures c.if-found-eq0.false in
    let w = t.2 in omega arith

pub loop-k-preserved : goal.loop-k-preserved
loop-k-preserved c =
    let more = c.push_reserved.ensures in
    record {
      so_far = λ h say. let n = read_next (slots_items c.args.closed.now.words) c.args.cells h say c.loop-k.k c.word-found.result c.loop-k-test.true c.word-found.ensures c.if-found-eq0.false in
          (more.items ∙ (ap (λ (q : Pair). c.loop-k.pairs.items ++ q ∷ []) c.pair_at.ensures ∙ (ap (λ (l : List Pair). l ++ pair_of c.word-found.result ∷ []) (c.loop-k.invariant.so_far h say).0 ∙ sym n.0)), n.1);
      count = let l = c.loop-k.invariant.count in let m = more.len in omega arith;
      room = let r = c.loop-k.invariant.room in let m = more.capacity in omega arith;
    }

pub returns-then-found-eq0-clause-read : goal.returns-then-found-eq0-clause-read
returns-then-found-eq0-clause-read c = λ h say.
    (c.loop-k.invariant.so_far h say).0 ∙ read_end (slots_items c.args.closed.now.words) c.args.cells h say c.loop-k.k c.word-found.result c.loop-k-test.true c.word-found.ensures c.if-found-eq0.true
