use Rattle.std.proofs.Common.{◌≡◌, ◌+◌, ◌-◌, ◌<◌, ◌∷◌, ◌++◌, length, get_or, drop, sym, ap, ◌∙◌, drop-drop, arith}
use Rattle.std.proofs.lemmas.List.{drop_all, drop-set}
use Rattle.sms_text.specs.Written.{entry_line, entry_lines}
use Rattle.sms_text.proofs.PutLines.{line_put}
use Rattle.sms_text.proofs.WrittenRows.{entry_lines_end, entry_lines_from}
use Rattle.sms_text.proofs.row_lines.RowLines.fill.Goals as goal

pub loop-k-init : goal.loop-k-init
loop-k-init c =
    let bytes = c.self.inside.bytes in
    let none = entry_lines_end c.args.i (length c.args.cols.now) c.args.cols.now c.args.vals.now (omega arith) in record {
      within = omega arith;
      room = omega arith;
      written = drop-set bytes 4095 10 (omega arith) ∙ ap (λ l. 10 ∷ l) (drop_all 4096 bytes (omega arith) ∙ sym none);
    }

pub loop-k-preserved : goal.loop-k-preserved
loop-k-preserved c =
    let k = c.loop-k.k in
    let cols = c.args.cols.now in
    let vals = c.args.vals.now in
    let some : 0 < k = c.loop-k-test.true in
    let next : k - 1 + 1 ≡ k = omega arith in
    let less : k - 1 < length cols = omega arith in
    let lines = entry_lines_from c.args.i (k - 1) cols vals less c.requires.same_length
    ∙ ap (λ n. entry_line (c.args.i + 1) (get_or cols (k - 1) 0 + 1) (get_or vals (k - 1) 0) ++ entry_lines c.args.i (drop n cols) (drop n vals)) next in record {
      within = omega (arith, c.put_line-at.ensures.within.0, c.loop-k.invariant.within);
      room = omega (arith, c.put_line-at.ensures.within.1, c.loop-k.invariant.room);
      written = c.put_line-at.ensures.written
          ∙ line_put (c.args.i + 1) (get_or cols (k - 1) 0 + 1) (get_or vals (k - 1) 0) _ _ _ c.of-start.ensures c.loop-k.invariant.written
          ∙ ap (λ l. 10 ∷ l) (sym lines);
    }

pub returns : goal.returns
returns c =
    let l = c.loop-k in
    let none : l.k ≡ 0 = omega (arith, c.loop-k-test.false) in
    sym (drop-drop 1 l.at l.self-inside.bytes) ∙ ap (drop 1) l.invariant.written
    ∙ ap (λ n. entry_lines c.args.i (drop n c.args.cols.now) (drop n c.args.vals.now)) none
