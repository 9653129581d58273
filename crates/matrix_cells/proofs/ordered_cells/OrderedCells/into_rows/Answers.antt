use Rattle.std.proofs.Common.{◌≡◌, ◌+◌, ◌-◌, ◌++◌, ◌<◌, ◌≤◌, ◌∙◌, All, ap, ap₂, arith, length, map, replicate, subst, sym}
use Rattle.std.proofs.lemmas.List.{take_all}
use Rattle.matrix_cells.specs.declared.values_at_places.Cell.{Cell}
use Rattle.matrix_cells.specs.Cells.{AreCuts, column_of, ordered_cells, row_of}
use Rattle.matrix_cells.proofs.Ordered.{columns_are, ordered_cuts, values_are}
use Rattle.matrix_cells.proofs.ordered_cells.OrderedCells.into_rows.Goals as goal

pub returns-clause-starts : goal.returns-clause-starts
returns-clause-starts c =
    let o = c.self.inside in
    let m = c.args.height + 1 in
    let within : All (λ t. row_of t < c.args.height) (ordered_cells o.starts.items o.cols.items o.vals.items) = subst (All (λ t. row_of t < c.args.height)) (sym c.self.view_is) c.requires in
    let low : length o.starts.items ≤ c.args.height = c.self.invariant.few c.args.height within in
    let new : c.resize.new.self.items ≡ o.starts.items ++ replicate (m - length o.starts.items) (length o.cols.items) =
    c.in_ok-resize.ensures.items ∙ ap₂ (λ xs n. xs ++ n) (take_all m o.starts.items (omega arith)) (ap₂ (λ n x. replicate (m - n) x) o.starts.ok.0 (c.len.ensures ∙ o.cols.ok.0)) in
    rw new (subst (λ cells. AreCuts c.args.height cells (o.starts.items ++ replicate (m - length o.starts.items) (length o.cols.items))) c.self.view_is
    (ordered_cuts _ _ _ _ _ c.self.invariant c.args.height (m - length o.starts.items) within (omega arith)))

pub returns-clause-cols : goal.returns-clause-cols
returns-clause-cols c = c.shrink_to_fit.ensures.items ∙ columns_are _ _ _ _ _ c.self.invariant ∙ ap (map column_of) c.self.view_is

pub returns-clause-vals : goal.returns-clause-vals
returns-clause-vals c = c.shrink_to_fit-2.ensures.items ∙ values_are _ _ _ _ _ c.self.invariant ∙ ap (map (λ (t : Cell). t.val)) c.self.view_is
