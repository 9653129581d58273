use Rattle.std.proofs.Common.{ℕ, ◌≡◌, ◌+◌, ◌-◌, ◌≤◌, ◌++◌, ◌∙◌, List, ap, ap₂, arith, length, replicate}
use Rattle.std.proofs.lemmas.List.{take_all}
use Rattle.matrix_cells.specs.declared.values_at_places.Cell.{Cell}
use Rattle.matrix_cells.proofs.Cuts.{cuts_all, cuts_more, cuts_none}
use Rattle.matrix_cells.proofs.values_at_places.row_starts.Goals as goal

-- what stands for a cell that isn't there
abbrev none : Cell
none = record { place = 0; val = 0 }

pub loop-k-init : goal.loop-k-init
loop-k-init c = rw c.in_ok-starts.ensures.items (cuts_none _ _)

pub loop-k-preserved : goal.loop-k-preserved
loop-k-preserved c =
    let starts : List ℕ = c.loop-k.starts.items in
    let row : ℕ = c.row.result in
    let low : length starts ≤ row + 1 = omega (arith, c.loop-k.invariant.ahead c.loop-k.k none (omega arith) c.loop-k-test.true, c.row.ensures) in
    let new : c.resize.new.self.items ≡ starts ++ replicate (row + 1 - length starts) c.loop-k.k =
    c.in_ok-resize.ensures.items ∙ ap₂ (λ xs m. xs ++ replicate m c.loop-k.k) (take_all (row + 1) starts low) (ap (λ t. row + 1 - t) c.loop-k.starts.ok.0) in
    rw new (cuts_more _ _ c.loop-k.k row (row + 1 - length starts) none starts c.loop-k.invariant c.requires.within c.requires.by_rows c.loop-k-test.true c.row.ensures (omega arith))

pub returns : goal.returns
returns c =
    let starts : List ℕ = c.loop-k.starts.items in
    let low : length starts ≤ c.args.height + 1 = omega (arith, c.loop-k.invariant.few) in
    let new : c.resize-2.new.self.items ≡ starts ++ replicate (c.args.height + 1 - length starts) (length c.args.cells.now) =
    c.in_ok-resize-2.ensures.items ∙ ap₂ (λ xs m. xs ++ replicate m (length c.args.cells.now)) (take_all (c.args.height + 1) starts low) (ap (λ t. c.args.height + 1 - t) c.loop-k.starts.ok.0) in
    rw new (cuts_all _ _ c.loop-k.k _ starts c.loop-k.invariant c.loop-k-test.false (omega arith))
