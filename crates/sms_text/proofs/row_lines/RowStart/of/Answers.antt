use Rattle.std.proofs.Common.{◌≡◌, ◌+◌, ◌-◌, ◌≤◌, [], ◌∷◌, ◌++◌, length, set, drop, ap, ◌∙◌, arith}
use Rattle.std.specs.Fmt.{decimal}
use Rattle.std.proofs.lemmas.List.{drop-set}
use Rattle.sms_text.proofs.PutLines.{at_most_ten}
use Rattle.sms_text.proofs.row_lines.RowStart.of.Goals as goal

pub overflow_sub-from : goal.overflow_sub-from
overflow_sub-from c =
    let wide : length (decimal c.from.result) ≤ 10 = rw c.from.ensures (at_most_ten c.args.i c.ranges.i.fits) in
    omega (arith, wide, c.put_number-from.ensures.start)

pub invariant_of-result : goal.invariant_of-result
invariant_of-result c =
    let wide : length (decimal c.from.result) ≤ 10 = rw c.from.ensures (at_most_ten c.args.i c.ranges.i.fits) in
    (omega (arith, wide, c.put_number-from.ensures.start), omega (arith, c.put_number-from.ensures.start))

pub returns : goal.returns
returns c =
    let at = c.put_number-from.result in
    let bytes = c.put_number-from.new.bytes in
    let wide : length (decimal c.from.result) ≤ 10 = rw c.from.ensures (at_most_ten c.args.i c.ranges.i.fits) in
    let next : at - 1 + 1 ≡ at = omega (arith, wide, c.put_number-from.ensures.start) in
    let back : drop (at - 1) (set bytes (at - 1) 10) ≡ 10 ∷ drop at bytes =
    drop-set bytes (at - 1) 10 (omega (arith, wide, c.put_number-from.ensures.start)) ∙ ap (λ k. 10 ∷ drop k bytes) next in
    back ∙ ap (λ l. 10 ∷ l) (c.put_number-from.ensures.written ∙ ap (λ n. decimal n ++ 32 ∷ []) c.from.ensures)
