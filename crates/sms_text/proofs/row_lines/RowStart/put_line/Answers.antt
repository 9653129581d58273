use Rattle.std.proofs.Common.{◌≡◌, ◌+◌, ◌-◌, ◌≤◌, ◌∷◌, ◌++◌, length, set, drop, ap, ◌∙◌, length-set, arith}
use Rattle.std.specs.Fmt.{decimal}
use Rattle.std.proofs.lemmas.List.{drop-set}
use Rattle.sms_text.proofs.SixDigits.{at_most_twenty}
use Rattle.sms_text.proofs.PutLines.{at_most_ten, words_grouped}
use Rattle.sms_text.proofs.row_lines.RowStart.put_line.Goals as goal

pub overflow_sub-bytes : goal.overflow_sub-bytes
overflow_sub-bytes c = omega (arith, at_most_twenty c.args.v c.ranges.v.fits, c.put_number-at.ensures.start)

pub overflow_sub-at : goal.overflow_sub-at
overflow_sub-at c = omega (arith, at_most_twenty c.args.v c.ranges.v.fits, c.put_number-at.ensures.start)

pub put_number-at-requires-2 : goal.put_number-at-requires-2
put_number-at-requires-2 c =
    let at = c.put_number-at.result in
    let bytes = c.put_number-at.new.bytes in
    let long = at_most_twenty c.args.v c.ranges.v.fits in
    (omega (arith, long, c.put_number-at.ensures.start), omega (arith, c.put_number-at.ensures.start, length-set bytes (at - 1) 32))

pub put-requires : goal.put-requires
put-requires c =
    let long = at_most_twenty c.args.v c.ranges.v.fits in
    let wide : length (decimal c.from.result) ≤ 10 = rw c.from.ensures (at_most_ten c.args.j c.ranges.j.fits) in (
      omega (arith, long, wide, c.put_number-at.ensures.start, c.put_number-at-2.ensures.start),
      omega (arith, c.put_number-at.ensures.start, c.put_number-at-2.ensures.start, length-set c.put_number-at.new.bytes (c.put_number-at.result - 1) 32),
    )

pub returns-clause-within : goal.returns-clause-within
returns-clause-within c =
    let long = at_most_twenty c.args.v c.ranges.v.fits in
    let wide : length (decimal c.from.result) ≤ 10 = rw c.from.ensures (at_most_ten c.args.j c.ranges.j.fits) in (
      omega (arith, long, c.put_number-at.ensures.start, c.put_number-at-2.ensures.start, c.put.ensures.start),
      omega (arith, long, wide, c.put_number-at.ensures.start, c.put_number-at-2.ensures.start, c.put.ensures.start, c.put.ensures.short),
    )

pub returns-clause-written : goal.returns-clause-written
returns-clause-written c =
    let at = c.put_number-at.result in
    let bytes = c.put_number-at.new.bytes in
    let long = at_most_twenty c.args.v c.ranges.v.fits in
    let next : at - 1 + 1 ≡ at = omega (arith, long, c.put_number-at.ensures.start) in
    let gap : drop (at - 1) (set bytes (at - 1) 32) ≡ 32 ∷ drop at bytes =
    drop-set bytes (at - 1) 32 (omega (arith, long, c.put_number-at.ensures.start)) ∙ ap (λ k. 32 ∷ drop k bytes) next in
    c.put.ensures.written
    ∙ ap (λ l. c.args.self.now ++ l) (c.put_number-at-2.ensures.written ∙ ap (λ n. decimal n ++ drop (at - 1) (set bytes (at - 1) 32)) c.from.ensures
    ∙ ap (λ l. decimal c.args.j ++ l) (gap ∙ ap (λ l. 32 ∷ l) c.put_number-at.ensures.written))
    ∙ words_grouped _ _ _ _
