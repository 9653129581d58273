use Rattle.std.proofs.Common.{ℕ, ◌≡◌, ◌+◌, ◌-◌, ◌++◌, ◌∙◌, List, ap, ap₂, arith, length, replicate}
use Rattle.std.proofs.lemmas.List.{take_all}
use Rattle.sparse_rows.specs.Rows.{with_zeros}
use Rattle.sparse_rows.specs.Stored.{IsStored, stored_matrix}
use Rattle.sparse_rows.proofs.FilledRows.{stored_zeros}
use Rattle.sparse_rows.proofs.stored_rows.StoredRows.append_zeros.Goals as goal
use Rattle.sparse_rows.proofs.stored_rows.StoredRows.append_zeros.Goals.{In_ok-resize}

starts : (c : In_ok-resize) → c.resize.new.self.items ≡ c.self.inside.starts.items ++ replicate c.args.count (length c.self.inside.cols.items)
starts c =
    let old : List ℕ = c.self.inside.starts.items in
    let total : ℕ = c.len.result + c.args.count in
    let long : c.len.result ≡ length old = c.len.ensures ∙ c.self.inside.starts.ok.0 in
    let many : total - length old ≡ c.args.count = omega (arith, long) in
    c.in_ok-resize.ensures.items ∙ ap₂ (λ xs m. xs ++ m) (take_all total old (omega (arith, long)))
    (ap₂ replicate (ap (λ t. total - t) c.self.inside.starts.ok.0 ∙ many) (c.len-2.ensures ∙ c.self.inside.cols.ok.0))

both : (c : In_ok-resize) →
    IsStored c.self.inside.modulus c.self.inside.width (c.self.inside.starts.items ++ replicate c.args.count (length c.self.inside.cols.items)) c.self.inside.cols.items c.self.inside.vals.items
    × (stored_matrix c.self.inside.width (c.self.inside.starts.items ++ replicate c.args.count (length c.self.inside.cols.items)) c.self.inside.cols.items c.self.inside.vals.items
    ≡ with_zeros (stored_matrix c.self.inside.width c.self.inside.starts.items c.self.inside.cols.items c.self.inside.vals.items) c.args.count)
both c =
    stored_zeros _ _ _ _ c.args.count c.self.inside.starts.items c.self.invariant
    (omega (arith, c.requires.height_small, ap (λ m. m.matrix.height) c.self.view_is, c.self.invariant.parts.long))

pub invariant_of-self-2 : goal.invariant_of-self-2
invariant_of-self-2 c = rw (starts c) (both c).0

pub returns-clause-matrix : goal.returns-clause-matrix
returns-clause-matrix c = rw (starts c) ((both c).1 ∙ ap (λ m. with_zeros m.matrix c.args.count) c.self.view_is)
