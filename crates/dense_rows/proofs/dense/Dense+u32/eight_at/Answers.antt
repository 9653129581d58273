use Rattle.std.proofs.Common.{ℕ, List, ◌≡◌, ◌∙◌, ◌-◌, ◌+◌, ap, arith, drop, length, slice_index, sym, take}
use Rattle.std.proofs.lemmas.List.{get_or-drop, map-id, take_rest}
use Rattle.std.proofs.lemmas.Simd.{get_or-chunk}
use Rattle.dense_rows.proofs.dense.Dense+u32.eight_at.Goals as goal

pub returns : goal.returns
returns c = λ k l.
    let at = c.args.at in
    let xs = c.deref.result.now in
    let same : xs ≡ c.args.self.now = c.deref.ensures.value ∙ sym (map-id c.self.inside.places.items) ∙ c.self.view_is in
    let rest = take (length xs - at) (drop at xs) in
    let whole : rest ≡ drop at xs = take_rest xs at in
    let plain : 0 + k ≡ k = omega arith in
    get_or-chunk 0 8 rest k 0 l ∙ ap (λ i. slice_index rest i) plain
    ∙ ap (λ (v : List ℕ). slice_index v k) whole ∙ get_or-drop at xs k 0 ∙ ap (λ (v : List ℕ). slice_index v (at + k)) same
