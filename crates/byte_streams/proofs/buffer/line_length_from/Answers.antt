use Rattle.std.proofs.Common.{◌+◌, ◌-◌, ◌<◌, ◌≤◌, ◌≡◌, not, eqb, length, length-drop, slice_index, take, drop, sym, ap, ◌∙◌, arith}
use Rattle.std.proofs.lemmas.List.{get_or-drop, take_all}
use Rattle.std.proofs.lemmas.List.Sums.{prefix_len-le-length}
use Rattle.byte_streams.specs.Buffered.{line_length}
use Rattle.byte_streams.proofs.LineEnds.{line_goes}
use Rattle.byte_streams.proofs.Fronts.{front_ends}
use Rattle.byte_streams.proofs.buffer.line_length_from.Goals as goal

pub slice_bounds-memchr-count : goal.slice_bounds-memchr-count
slice_bounds-memchr-count c = omega (arith, c.requires, prefix_len-le-length (λ b. not (eqb b 10)) c.args.bytes.now)

pub slice_bounds-memchr-start : goal.slice_bounds-memchr-start
slice_bounds-memchr-start c = omega (arith, c.requires, prefix_len-le-length (λ b. not (eqb b 10)) c.args.bytes.now)

pub returns-in-Some : goal.returns-in-Some
returns-in-Some c =
    let xs = c.args.bytes.now in
    let from = c.args.from in
    let more = c.in-Some.more in
    let long : length (drop from xs) ≡ length xs - from = length-drop from xs in
    let same : take (length xs - from) (drop from xs) ≡ drop from xs = take_all (length xs - from) (drop from xs) (omega arith) in
    let inside : more < length (take (length xs - from) (drop from xs)) = c.in-Some.ensures.0.high in
    let within : from + more ≤ line_length xs = line_goes xs (take (length xs - from) (drop from xs)) from more same c.requires (omega (arith, ap length same)) c.in-Some.ensures.0.before in
    let here : slice_index (take (length xs - from) (drop from xs)) more ≡ slice_index xs (from + more) = ap (λ h. slice_index h more) same ∙ get_or-drop from xs more 0 in
    sym (front_ends (λ b. not (eqb b 10)) xs (from + more) within (λ _. ap not (ap (λ b. eqb b 10) (sym here) ∙ c.in-Some.ensures.1)))

pub returns-in-None : goal.returns-in-None
returns-in-None c =
    let xs = c.args.bytes.now in
    let from = c.args.from in
    let long : length (drop from xs) ≡ length xs - from = length-drop from xs in
    let same : take (length xs - from) (drop from xs) ≡ drop from xs = take_all (length xs - from) (drop from xs) (omega arith) in
    let low : from ≤ length xs = omega (arith, c.requires, prefix_len-le-length (λ b. not (eqb b 10)) xs) in
    let within : from + (length xs - from) ≤ line_length xs = line_goes xs (take (length xs - from) (drop from xs)) from (length xs - from) same c.requires (omega arith) (λ k l h. c.in-None.ensures k l (omega (arith, ap length same))) in
    sym (front_ends (λ b. not (eqb b 10)) xs (length xs) (omega arith) (λ h. absurd (omega arith)))
