use Rattle.std.proofs.Common.{◌≡◌, ◌∙◌, [], ◌∷◌, ◌++◌, ap, ap₂, arith, length, subst, sym}
use Rattle.sparse_rows.specs.Rows.{ResidueMatrix}
use Rattle.sparse_rows.specs.Stored.{IsSparse, spread, with_row}
use Rattle.sparse_rows.proofs.Stored.{matrix_push, stored_push}
use Rattle.sparse_rows.proofs.stored_rows.StoredRows.append_slices.Goals as goal
use Rattle.sparse_rows.proofs.stored_rows.StoredRows.append_slices.Goals.{In_ok-push}

columns : (c : In_ok-push) → c.extend_from_slice.new.self.items ≡ c.self.inside.cols.items ++ c.args.cols.now
columns c = c.in_ok-extend_from_slice.ensures.items

values : (c : In_ok-push) → c.extend_from_slice-2.new.self.items ≡ c.self.inside.vals.items ++ c.args.vals.now
values c = c.in_ok-extend_from_slice-2.ensures.items ∙ ap (λ xs. xs ++ c.args.vals.now) c.reserve-2.ensures.items

starts : (c : In_ok-push) → c.push.new.self.items ≡ c.self.inside.starts.items ++ length (c.self.inside.cols.items ++ c.args.cols.now) ∷ []
starts c =
    let total : c.len.result ≡ length (c.self.inside.cols.items ++ c.args.cols.now) = c.len.ensures ∙ c.extend_from_slice.new.self.ok.0 ∙ ap length (columns c) in
    c.in_ok-push.ensures.items ∙ ap₂ (λ xs e. xs ++ e ∷ []) c.reserve.ensures.items total

sparse : (c : In_ok-push) → IsSparse c.self.inside.modulus c.self.inside.width c.args.cols.now c.args.vals.now
sparse c = subst (λ (m : ResidueMatrix). IsSparse m.modulus m.matrix.width c.args.cols.now c.args.vals.now) (sym c.self.view_is) c.requires.sparse

pub invariant_of-self-2 : goal.invariant_of-self-2
invariant_of-self-2 c =
    rw (starts c, columns c, values c) (stored_push _ _ _ _ _ c.self.invariant _ _ (sparse c) (omega (arith, c.requires.height_small, ap (λ m. m.matrix.height) c.self.view_is, c.self.invariant.parts.long)))

pub returns-clause-matrix : goal.returns-clause-matrix
returns-clause-matrix c =
    rw (starts c, columns c, values c) (matrix_push _ _ _ _ _ c.self.invariant _ _ (sparse c)
    ∙ ap (λ m. with_row m.matrix (spread m.matrix.width c.args.cols.now c.args.vals.now)) c.self.view_is)
