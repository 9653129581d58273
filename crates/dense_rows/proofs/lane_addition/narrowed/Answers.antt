use Rattle.std.proofs.Common.{ℕ, ◌+◌, ◌<◌, ◌∙◌, Fits, w32, get_or, sym, subst, arith}
use Rattle.std.specs.Simd.Lanes.{chunk}
use Rattle.std.proofs.lemmas.List.{get_or-map}
use Rattle.std.proofs.lemmas.Simd.{length-chunk, get_or-chunk, Each1-from_get_or}
use Rattle.dense_rows.proofs.lane_addition.narrowed.Goals as goal

pub overflow_cast-result : goal.overflow_cast-result
overflow_cast-result c =
    let at = c.args.at in
    let xs = c.args.xs.now in
    Each1-from_get_or (Fits w32) (chunk at 8 xs) 0 (λ k l.
    let inside : k < 8 = omega (arith, length-chunk at 8 xs c.requires.room) in
    let fits : Fits w32 (get_or xs (at + k) 0) = record { fits = c.requires.small (at + k) (omega (arith, c.requires.room)) } in
    subst (Fits w32) (sym (get_or-chunk at 8 xs k 0 inside)) fits)

pub returns : goal.returns
returns c = λ k l.
    let at = c.args.at in
    let xs = c.args.xs.now in
    get_or-map (λ (x : ℕ). x) (chunk at 8 xs) k 0 0 (omega (arith, length-chunk at 8 xs c.requires.room)) ∙ get_or-chunk at 8 xs k 0 l
