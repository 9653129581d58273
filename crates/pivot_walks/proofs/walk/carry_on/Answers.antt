use Rattle.std.proofs.Common.{◌≡◌, ◌<◌, ◌≤◌, ◌+◌, ◌++◌, ◌∷◌, [], length, take, subst, sym, ap, ◌∙◌, arith}
use Rattle.residue_words.specs.Matrix.{row}
use Rattle.sparse_rows.specs.Rows.{ResidueMatrix, support}
use Rattle.pivot_table.specs.History.{HasRow, row_weight}
use Rattle.pivot_walks.specs.Indexed.{Indexed}
use Rattle.pivot_walks.specs.Reached.{ArePassed, HasWalked, IsUnderWay}
use Rattle.pivot_walks.specs.Spent.{TakesForColumns, spent_for}
use Rattle.pivot_walks.proofs.Costing.{cost_rises, carried}
use Rattle.pivot_walks.proofs.Walking.{all_marked, still_fresh}
use Rattle.pivot_walks.proofs.walk.carry_on.Goals as goal

pub returns-then-passed-cols-clause-settled : goal.returns-then-passed-cols-clause-settled
returns-then-passed-cols-clause-settled g c =
    let cols_are = c.cols.ensures.support ∙ ap (λ (m : ResidueMatrix). support (row m.matrix c.args.row)) c.rows.ensures.value in
    let same : c.push.new.self ≡ record { rows = c.args.pivots.now.rows; pairs = c.args.pivots.now.pairs ++ c.args.pair ∷ [] } = λ i. record { rows = c.push.ensures.rows i; pairs = c.push.ensures.pairs i } in
    subst (λ (w : Indexed). HasWalked w.rows.matrix w.pairs c.args.row c.args.marks.now.list c.args.passed) (sym same)
    (all_marked c.args.pair c.requires.other c.requires.settled (omega (arith, ap length cols_are, c.if-passed-cols.true)))

pub meet-taken-requires-clause-way : goal.meet-taken-requires-clause-way
meet-taken-requires-clause-way g c =
    let cols_are = c.cols.ensures.support ∙ ap (λ (m : ResidueMatrix). support (row m.matrix c.args.row)) c.rows.ensures.value in
    let more : c.args.passed < row_weight c.args.pivots.now.rows.matrix c.args.row = omega (arith, ap length cols_are, c.if-passed-cols.false, c.requires.settled.within) in
    record { reached = c.requires.settled.reached; begun = c.requires.settled.begun more; goes = c.requires.settled.goes more; listed = omega arith }

pub go_on-place-requires-clause-fresh : goal.go_on-place-requires-clause-fresh
go_on-place-requires-clause-fresh g c =
    subst (λ h. ¬ HasRow h c.args.row) (sym c.meet-taken.ensures.pairs) (still_fresh c.args.pivots.now.pairs c.args.pair c.args.row c.requires.other c.requires.settled.fresh)

pub go_on-place-requires-clause-way : goal.go_on-place-requires-clause-way
go_on-place-requires-clause-way g c =
    let same : c.meet-taken.new.pivots ≡ record { rows = c.args.pivots.now.rows; pairs = c.args.pivots.now.pairs ++ c.args.pair ∷ [] } = λ i. record { rows = c.meet-taken.ensures.rows i; pairs = c.meet-taken.ensures.pairs i } in
    subst (λ (w : Indexed). IsUnderWay w.rows.matrix w.pairs c.args.row c.meet-taken.result c.meet-taken.new.marks.list) (sym same) c.meet-taken.ensures.way

pub go_on-place-requires-clause-passes : goal.go_on-place-requires-clause-passes
go_on-place-requires-clause-passes g c =
    subst (λ (m : ResidueMatrix). ArePassed m.matrix c.args.row c.args.passed c.meet-taken.new.marks.list) (sym c.meet-taken.ensures.rows)
    (λ k l. c.meet-taken.ensures.kept _ (c.requires.settled.passes k l))

pub returns-then-passed-cols-clause-cost : goal.returns-then-passed-cols-clause-cost
returns-then-passed-cols-clause-cost g c = λ m n a b.
    let l = cost_rises c.args.pivots.now.rows.matrix c.args.pivots.now.pairs (c.args.pair ∷ []) c.args.row m n a b in omega arith

pub returns-clause-cost : goal.returns-clause-cost
returns-clause-cost g c = λ m n a b.
    let same : c.meet-taken.new.pivots ≡ record { rows = c.args.pivots.now.rows; pairs = c.args.pivots.now.pairs ++ c.args.pair ∷ [] } = λ i. record { rows = c.meet-taken.ensures.rows i; pairs = c.meet-taken.ensures.pairs i } in
    let cols_are = c.cols.ensures.support ∙ ap (λ (m : ResidueMatrix). support (row m.matrix c.args.row)) c.rows.ensures.value in
    let goes = c.requires.settled.goes (omega (arith, ap length cols_are, c.if-passed-cols.false, c.requires.settled.within)) in
    let begun = c.requires.settled.begun (omega (arith, ap length cols_are, c.if-passed-cols.false, c.requires.settled.within)) in
    let front = take c.meet-taken.result c.meet-taken.new.marks.list in
    carried c.args.pivots.now.rows.matrix c.args.pivots.now.pairs c.args.row c.args.pair c.args.marks.now.list front c.go_on-place.new.marks.list
    c.args.steps.now c.meet-taken.new.steps c.go_on-place.new.steps m n goes begun
    (subst (λ (w : Indexed). HasWalked w.rows.matrix w.pairs c.args.row c.go_on-place.new.marks.list c.go_on-place.result) same c.go_on-place.ensures.settled).reached
    c.is_sound.ensures
    (subst (λ (w : Indexed). c.meet-taken.new.steps + spent_for c.args.pivots.now c.args.marks.now.list ≤ c.args.steps.now + spent_for w front) same c.meet-taken.ensures.cost)
    (subst (λ (w : Indexed). TakesForColumns w front c.go_on-place.new.marks.list c.meet-taken.new.steps c.go_on-place.new.steps) same c.go_on-place.ensures.cost)
    a b
