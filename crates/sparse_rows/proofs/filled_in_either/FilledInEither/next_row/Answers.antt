use Rattle.std.proofs.Common.{ℕ, ◌≡◌, ◌+◌, ◌-◌, arith, subst, sym}
use Rattle.sparse_rows.specs.Placed.{IsFirstFilled, IsNextInEither}
use Rattle.sparse_rows.proofs.FilledRows.{first_later}
use Rattle.sparse_rows.proofs.filled_in_either.FilledInEither.next_row.Goals as goal

pub next_from-self-inside-requires : goal.next_from-self-inside-requires
next_from-self-inside-requires c =
    let i : ℕ = c.in-Some.i in
    let A = c.self.inside.left.now.matrix in
    let n : IsNextInEither A c.self.inside.right.now.matrix c.self.inside.from i = subst (λ f. IsNextInEither f.left f.right f.from i) (sym c.self.view_is) c.in-Some.ensures in
    let before : i ≡ i + 1 - 1 = omega arith in
    subst (λ k. IsFirstFilled A k c.self.inside.left_next) before (first_later A c.self.inside.from i c.self.inside.left_next c.self.invariant.left n.low n.left)

pub next_from-self-inside-requires-2 : goal.next_from-self-inside-requires-2
next_from-self-inside-requires-2 c =
    let i : ℕ = c.in-Some.i in
    let B = c.self.inside.right.now.matrix in
    let n : IsNextInEither c.self.inside.left.now.matrix B c.self.inside.from i = subst (λ f. IsNextInEither f.left f.right f.from i) (sym c.self.view_is) c.in-Some.ensures in
    let before : i ≡ i + 1 - 1 = omega arith in
    subst (λ k. IsFirstFilled B k c.self.inside.right_next) before (first_later B c.self.inside.from i c.self.inside.right_next c.self.invariant.right n.low n.right)
