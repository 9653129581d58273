use Rattle.std.proofs.Common.{◌≡◌, ◌+◌, ◌-◌, ◌++◌, ◌∷◌, [], ◌<◌, ◌∙◌, All, ap, arith, length, replicate, subst, sym}
use Rattle.std.proofs.lemmas.Bool.Decides.{nat_tests}
use Rattle.matrix_cells.specs.Cells.{ordered_cells, place_of}
use Rattle.matrix_cells.proofs.Ordered.{cells_push, ordered_push, starts_few, starts_inside}
use Rattle.matrix_cells.proofs.ordered_cells.OrderedCells.push.Goals as goal
use Rattle.matrix_cells.proofs.ordered_cells.OrderedCells.push.Goals.{then-self, else-self}

pub begin_rows-requires : goal.begin_rows-requires
begin_rows-requires c = starts_few _ _ _ _ _ c.self.invariant c.args.i c.args.j (omega (arith, c.ranges.j.fits)) (subst (All (λ t. t.place < place_of c.args.i c.args.j)) (sym c.self.view_is) c.requires.behind)

pub invariant_of-self-2 : goal.invariant_of-self-2
invariant_of-self-2 c =
    let o = c.self.inside in
    let behind : All (λ t. t.place < place_of c.args.i c.args.j) (ordered_cells o.starts.items o.cols.items o.vals.items) = subst (All (λ t. t.place < place_of c.args.i c.args.j)) (sym c.self.view_is) c.requires.behind in
    let columns : c.push.new.self.items ≡ o.cols.items ++ c.args.j ∷ [] = c.in_ok-push.ensures.items ∙ ap (λ xs. xs ++ c.args.j ∷ []) c.make_room.ensures.items in
    let values : c.push-2.new.self.items ≡ o.vals.items ++ c.args.v ∷ [] = c.in_ok-push-2.ensures.items ∙ ap (λ xs. xs ++ c.args.v ∷ []) c.make_room-2.ensures.items in
    let starts : c.begin_rows.new.starts.items ≡ o.starts.items ++ replicate (c.args.i + 1 - length o.starts.items) (length o.cols.items) =
    c.in_ok-begin_rows.ensures.ok ∙ ap (λ n. o.starts.items ++ replicate (c.args.i + 1 - length o.starts.items) n) (c.len.ensures ∙ c.make_room.new.list.ok.0 ∙ ap length c.make_room.ensures.items) in
    rw (starts, columns, values) (ordered_push _ _ _ _ _ c.self.invariant c.args.i c.args.j c.args.v (c.args.i + 1 - length o.starts.items) _ _ (omega (arith, c.requires.row)) (omega (arith, c.ranges.j.fits)) behind
    (omega (arith, starts_few _ _ _ _ _ c.self.invariant c.args.i c.args.j (omega (arith, c.ranges.j.fits)) behind)) (omega (arith, c.place_of-next.ensures)) (λ e. elim c.if-self.branch [
      | then-self w ↦ (w.if-self.true, grind (arith, nat_tests, w.nonzero-is, e))
      | else-self w ↦ absurd (grind (arith, w.nonzero-is, e))
    ]))

pub returns-clause-ok : goal.returns-clause-ok
returns-clause-ok c =
    let o = c.self.inside in
    let behind : All (λ t. t.place < place_of c.args.i c.args.j) (ordered_cells o.starts.items o.cols.items o.vals.items) = subst (All (λ t. t.place < place_of c.args.i c.args.j)) (sym c.self.view_is) c.requires.behind in
    let columns : c.push.new.self.items ≡ o.cols.items ++ c.args.j ∷ [] = c.in_ok-push.ensures.items ∙ ap (λ xs. xs ++ c.args.j ∷ []) c.make_room.ensures.items in
    let values : c.push-2.new.self.items ≡ o.vals.items ++ c.args.v ∷ [] = c.in_ok-push-2.ensures.items ∙ ap (λ xs. xs ++ c.args.v ∷ []) c.make_room-2.ensures.items in
    let starts : c.begin_rows.new.starts.items ≡ o.starts.items ++ replicate (c.args.i + 1 - length o.starts.items) (length o.cols.items) =
    c.in_ok-begin_rows.ensures.ok ∙ ap (λ n. o.starts.items ++ replicate (c.args.i + 1 - length o.starts.items) n) (c.len.ensures ∙ c.make_room.new.list.ok.0 ∙ ap length c.make_room.ensures.items) in
    rw (starts, columns, values) (cells_push _ _ _ (c.args.i + 1 - length o.starts.items) c.args.i c.args.j c.args.v c.self.invariant.long (starts_inside _ _ _ _ _ c.self.invariant)
    (omega (arith, starts_few _ _ _ _ _ c.self.invariant c.args.i c.args.j (omega (arith, c.ranges.j.fits)) behind))
    ∙ ap (λ cells. cells ++ record { place = place_of c.args.i c.args.j; val = c.args.v } ∷ []) c.self.view_is)
