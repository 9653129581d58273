use Rattle.std.proofs.Common.{ℕ, ◌≡◌, ◌∙◌, ◌-◌, ◌≤◌, ◌++◌, List, ap, ap₂, arith, length, slice_index, subst, sym}
use Rattle.sparse_rows.specs.Rows.{ResidueMatrix, above}
use Rattle.column_lists.specs.Parts.{AreJoined}
use Rattle.sparse_rows.specs.Stored.{IsStored, stored_matrix}
use Rattle.sparse_rows.proofs.Joining.{joined_matrix, joined_stored}
use Rattle.column_lists.proofs.Parts.{starts_below}
use Rattle.sparse_rows.proofs.stored_rows.StoredRows.append_all.Goals as goal
use Rattle.sparse_rows.proofs.stored_rows.StoredRows.append_all.Goals.{In_ok-extend_from_slice-2}

pub append_starts-requires : goal.append_starts-requires
append_starts-requires c = record {
  fit = λ k l.
      let s = c.from.invariant in
      let from : List ℕ = c.from.inside.starts.items in
      let low : k ≤ length from - 1 = omega (arith, ap length c.deref.ensures.value, s.parts.long) in
      let end : slice_index from k ≤ length c.from.inside.cols.items = starts_below s.parts k low in
      let same : slice_index c.deref.result.now k ≡ slice_index from k = ap (λ xs. slice_index xs k) c.deref.ensures.value in
      let room = c.in_ok-reserve.ensures.ok in
      let small = c.reserve.new.self.small in
      omega (arith, end, same, c.len-3.ensures, c.len.ensures, c.from.inside.cols.ok.0);
}

columns : (c : In_ok-extend_from_slice-2) → c.extend_from_slice.new.self.items ≡ c.self.inside.cols.items ++ c.from.inside.cols.items
columns c = c.in_ok-extend_from_slice.ensures.items ∙ ap₂ ◌++◌ c.reserve.ensures.items c.deref-2.ensures.value

values : (c : In_ok-extend_from_slice-2) → c.extend_from_slice-2.new.self.items ≡ c.self.inside.vals.items ++ c.from.inside.vals.items
values c = c.in_ok-extend_from_slice-2.ensures.items ∙ ap₂ ◌++◌ c.reserve-2.ensures.items c.deref-3.ensures.value

starts : (c : In_ok-extend_from_slice-2) → AreJoined (length c.self.inside.cols.items) c.self.inside.starts.items c.from.inside.starts.items c.append_starts.new.starts.items
starts c =
    let before : c.len-3.result ≡ length c.self.inside.cols.items = c.len-3.ensures ∙ c.reserve.ensures.len ∙ c.self.inside.cols.ok.0 in
    subst (λ n. AreJoined n c.self.inside.starts.items c.from.inside.starts.items c.append_starts.new.starts.items) before
    (subst (λ xs. AreJoined c.len-3.result c.self.inside.starts.items xs c.append_starts.new.starts.items) c.deref.ensures.value c.in_ok-append_starts.ensures.ok)

-- the rows of both have the same modulus and the same width
further : (c : In_ok-extend_from_slice-2) → IsStored c.self.inside.modulus c.self.inside.width c.from.inside.starts.items c.from.inside.cols.items c.from.inside.vals.items
further c =
    let p : c.from.inside.modulus ≡ c.self.inside.modulus = sym (ap (λ (m : ResidueMatrix). m.modulus) c.self.view_is ∙ c.requires.modulus ∙ sym (ap (λ (m : ResidueMatrix). m.modulus) c.from.view_is)) in
    let n : c.from.inside.width ≡ c.self.inside.width = sym (ap (λ (m : ResidueMatrix). m.matrix.width) c.self.view_is ∙ c.requires.width ∙ sym (ap (λ (m : ResidueMatrix). m.matrix.width) c.from.view_is)) in
    rw (sym p, sym n) c.from.invariant

pub invariant_of-self-2 : goal.invariant_of-self-2
invariant_of-self-2 c =
    let high = ap (λ (m : ResidueMatrix). m.matrix.height) c.self.view_is in
    let high' = ap (λ (m : ResidueMatrix). m.matrix.height) c.from.view_is in
    rw (columns c, values c) (joined_stored _ _ _ _ _ c.self.invariant _ _ _ (further c) _ (starts c) (omega (arith, c.requires.height_small, high, high')))

pub returns-clause-matrix : goal.returns-clause-matrix
returns-clause-matrix c =
    let n : c.self.inside.width ≡ c.from.inside.width = ap (λ (m : ResidueMatrix). m.matrix.width) c.self.view_is ∙ c.requires.width ∙ sym (ap (λ (m : ResidueMatrix). m.matrix.width) c.from.view_is) in
    let first = ap (λ (m : ResidueMatrix). m.matrix) c.self.view_is in
    let second = ap (λ w. stored_matrix w c.from.inside.starts.items c.from.inside.cols.items c.from.inside.vals.items) n ∙ ap (λ (m : ResidueMatrix). m.matrix) c.from.view_is in
    rw (columns c, values c) (joined_matrix _ _ _ _ _ c.self.invariant _ _ _ (further c) _ (starts c)) ∙ ap₂ above first second

pub invariant_of-self : goal.invariant_of-self
invariant_of-self c = rw c.reserve.ensures.items c.self.invariant

pub returns-clause-modulus : goal.returns-clause-modulus
returns-clause-modulus c = ap (λ (m : ResidueMatrix). m.modulus) c.self.view_is
