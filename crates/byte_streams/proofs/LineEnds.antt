-- Where a line ends that is looked for from some place on.
use Rattle.std.proofs.Common.{ℕ, zero, suc, ◌+◌, ◌≤◌, ◌≡◌, true, not, eqb, List, length, drop, slice_index, inl, inr, ap, ◌∙◌, arith}
use Rattle.std.proofs.lemmas.Bool.{cases_Bool}
use Rattle.std.proofs.lemmas.List.{get_or-drop}
use Rattle.memchr.specs.Find.{Nowhere, Passes, is_byte}
use Rattle.byte_streams.specs.Buffered.{line_length}
use Rattle.byte_streams.proofs.Fronts.{front_goes}

-- where none of the first n bytes from some place on ends the line, it goes on behind them
pub line_goes : (xs hay : List ℕ) (from n : ℕ) → hay ≡ drop from xs → from ≤ line_length xs → from + n ≤ length xs → Nowhere (Passes (is_byte 10) hay) 0 n → from + n ≤ line_length xs
line_goes xs hay from zero same within inside none = omega arith
line_goes xs hay from (suc n) same within inside none =
    let before : from + n ≤ line_length xs = line_goes xs hay from n same within (omega arith) (λ k low high. none k low (omega arith)) in
    let here : slice_index hay n ≡ slice_index xs (from + n) = ap (λ h. slice_index h n) same ∙ get_or-drop from xs n 0 in
    let passes : not (eqb (slice_index xs (from + n)) 10) ≡ true = elim (cases_Bool (eqb (slice_index xs (from + n)) 10)) [
      | inl ends ↦ absurd (none n (omega arith) (omega arith) (ap (λ b. eqb b 10) here ∙ ends))
      | inr goes ↦ ap not goes
    ] in
    omega (arith, front_goes (λ b. not (eqb b 10)) xs (from + n) before (omega arith) passes)
