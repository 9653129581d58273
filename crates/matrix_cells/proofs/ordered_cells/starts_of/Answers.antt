use Rattle.std.proofs.Common.{ℕ, ◌≡◌, ◌+◌, ◌-◌, ◌≤◌, ◌++◌, ◌∙◌, List, ap₂, arith, length, replicate, slice_index, sym}
use Rattle.std.proofs.lemmas.List.{take_all}
use Rattle.matrix_cells.specs.declared.values_at_places.Cell.{Cell}
use Rattle.matrix_cells.specs.Cells.{in_rows}
use Rattle.matrix_cells.proofs.Cuts.{cuts_all, cuts_more, cuts_none}
use Rattle.matrix_cells.proofs.InRows.{by_rows, length_rows, row_in, rows_within}
use Rattle.matrix_cells.proofs.ordered_cells.starts_of.Goals as goal

-- what stands for a cell that isn't there
abbrev none : Cell
none = record { place = 0; val = 0 }

pub loop-k-init : goal.loop-k-init
loop-k-init c = rw c.in_ok-starts.ensures.items (cuts_none _ _)

pub begin_rows-requires : goal.begin_rows-requires
begin_rows-requires c =
    let rows : List ℕ = c.args.rows.now in
    omega (arith, c.loop-k.invariant.ahead c.loop-k.k none (omega arith) (omega (arith, c.loop-k-test.true, length_rows rows)), row_in rows c.loop-k.k none c.loop-k-test.true)

pub loop-k-preserved : goal.loop-k-preserved
loop-k-preserved c =
    let rows : List ℕ = c.args.rows.now in
    let starts : List ℕ = c.loop-k.starts.items in
    let row : ℕ = slice_index rows c.loop-k.k in
    let low : length starts ≤ row + 1 = omega (arith, c.loop-k.invariant.ahead c.loop-k.k none (omega arith) (omega (arith, c.loop-k-test.true, length_rows rows)), row_in rows c.loop-k.k none c.loop-k-test.true) in
    rw c.in_ok-begin_rows.ensures.ok (cuts_more _ _ c.loop-k.k row (row + 1 - length starts) none starts c.loop-k.invariant (rows_within rows c.args.height c.requires.below) (by_rows rows c.requires.ascending)
    (omega (arith, c.loop-k-test.true, length_rows rows)) (sym (row_in rows c.loop-k.k none c.loop-k-test.true)) (omega arith))

pub returns : goal.returns
returns c =
    let rows : List ℕ = c.args.rows.now in
    let starts : List ℕ = c.loop-k.starts.items in
    let low : length starts ≤ c.args.height + 1 = omega (arith, c.loop-k.invariant.few) in
    let new : c.resize.new.self.items ≡ starts ++ replicate (c.args.height + 1 - length starts) (length (in_rows rows)) =
    c.in_ok-resize.ensures.items ∙ ap₂ (λ xs m. xs ++ m) (take_all (c.args.height + 1) starts low) (ap₂ (λ t x. replicate (c.args.height + 1 - t) x) c.loop-k.starts.ok.0 (sym (length_rows rows))) in
    rw new (cuts_all _ _ c.loop-k.k _ starts c.loop-k.invariant (omega (arith, c.loop-k-test.false, length_rows rows)) (omega arith))
