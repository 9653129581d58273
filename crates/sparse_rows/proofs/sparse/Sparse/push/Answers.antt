use Rattle.std.proofs.Common.{◌≡◌, ◌<◌, ◌∙◌, [], ◌∷◌, ◌++◌, ap, ap₂, arith, length, slice_index, slice_set}
use Rattle.sparse_rows.specs.Stored.{IsSparse, spread}
use Rattle.sparse_rows.proofs.Spread.{length_spread, narrow, sparse_push, spread_push, widen}
use Rattle.sparse_rows.proofs.sparse.Sparse.push.Goals as goal
use Rattle.sparse_rows.proofs.sparse.Sparse.push.Goals.{In_ok-push-2}

-- the column is within the row
inside : (c : In_ok-push-2) → c.args.j < c.self.inside.width
inside c = omega (arith, c.requires.column, ap (λ r. length r.row) c.self.view_is, length_spread c.self.inside.width c.self.inside.cols.items c.self.inside.vals.items)

-- the columns so far are below the new one
below : (c : In_ok-push-2) → IsSparse c.self.inside.modulus c.args.j c.self.inside.cols.items c.self.inside.vals.items
below c = narrow c.self.invariant.0 c.args.j (λ k a b.
    let within : k < length c.args.self.now.row =
    omega (arith, ap (λ r. length r.row) c.self.view_is, length_spread c.self.inside.width c.self.inside.cols.items c.self.inside.vals.items) in
    ap (λ r. slice_index r.row k) c.self.view_is ∙ c.requires.behind k a within)

columns : (c : In_ok-push-2) → c.push.new.self.items ≡ c.self.inside.cols.items ++ c.args.j ∷ []
columns c = c.in_ok-push.ensures.items

values : (c : In_ok-push-2) → c.push-2.new.self.items ≡ c.self.inside.vals.items ++ c.args.v ∷ []
values c = c.in_ok-push-2.ensures.items ∙ ap (λ xs. xs ++ c.args.v ∷ []) c.reserve.ensures.items

pub invariant_of-self-2 : goal.invariant_of-self-2
invariant_of-self-2 c = (
  rw (columns c, values c) (widen (sparse_push (below c) c.args.v c.requires.positive (omega (arith, c.requires.residue, ap (λ r. r.modulus) c.self.view_is))) _ (omega (arith, inside c))),
  c.self.invariant.1,
  c.self.invariant.2,
)

pub returns-clause-ok : goal.returns-clause-ok
returns-clause-ok c =
    ap₂ (spread c.self.inside.width) (columns c) (values c) ∙ spread_push (below c) c.self.inside.width c.args.v (inside c)
    ∙ ap (λ r. slice_set r.row c.args.j c.args.v) c.self.view_is
