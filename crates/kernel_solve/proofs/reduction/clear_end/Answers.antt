use Rattle.std.proofs.Common.{◌≡◌, ◌≢◌, ◌-◌, ◌*◌, ◌+◌, ◌%◌, ℕ, List, length, slice_index, sym, ap, ap₂, subst, ◌∙◌, arith}
use Rattle.std.proofs.lemmas.Bool.Decides.{nat_tests}
use Rattle.residue_words.specs.Matrix.{IsVector, row}
use Rattle.row_space.specs.Kernel.{EndsAt}
use Rattle.sparse_rows.specs.Rows.{AreBelow, ResidueMatrix}
use Rattle.sparse_rows.specs.Stored.{spread}
use Rattle.sparse_rows.proofs.Spread.{spread_support, support_sparse}
use Rattle.kernel_solve.proofs.AtLeads.{entry_absent, last_stored}
use Rattle.kernel_solve.proofs.RowEnds.{ends_once}
use Rattle.kernel_solve.proofs.reduction.clear_end.Goals as goal

pub bounds-x-end : goal.bounds-x-end
bounds-x-end c =
    let some : length c.cols-cols.result.now ≢ 0 = grind (arith, nat_tests) in
    omega (arith, c.requires.vector.len, c.cols-cols.ensures.below_width (length c.cols-cols.result.now - 1) (omega (arith, some)))

pub neg-factor-requires : goal.neg-factor-requires
neg-factor-requires c =
    let some : length c.cols-cols.result.now ≢ 0 = grind (arith, nat_tests) in
    omega (arith, c.modulus-modulus.ensures.value, c.requires.vector.residues _ (c.cols-cols.ensures.below_width (length c.cols-cols.result.now - 1) (omega (arith, some))))

pub add_multiple-requires-clause-sparse : goal.add_multiple-requires-clause-sparse
add_multiple-requires-clause-sparse c =
    rw (c.modulus-modulus.ensures.value, c.requires.vector.len, c.cols-cols.ensures.support, c.vals.ensures.values) (support_sparse (c.modulus-modulus.ensures.sound.each c.args.k c.requires.row))

pub returns-then-is_empty-clause-adds : goal.returns-then-is_empty-clause-adds
returns-then-is_empty-clause-adds c = λ end e j l.
    let empty : length c.cols-cols.result.now ≡ 0 = grind (arith, nat_tests) in
    absurd (e.nonzero (sym (entry_absent (row c.args.null.now.matrix c.args.k) end (λ t lt. absurd (omega (arith, lt, ap length c.cols-cols.ensures.support, empty))))))

pub returns-clause-adds : goal.returns-clause-adds
returns-clause-adds c = λ end e j l.
    let K : ResidueMatrix = c.args.null.now in
    let p : ℕ = K.modulus in
    let v : List ℕ = row K.matrix c.args.k in
    let x : List ℕ = c.args.x.now in
    let cols : List ℕ = c.cols-cols.result.now in
    let vals : List ℕ = c.vals.result.now in
    let some : length cols ≢ 0 = grind (arith, nat_tests) in
    let is : c.modulus-modulus.result ≡ p = c.modulus-modulus.ensures.value in
    let vector : IsVector p K.matrix.width v = c.modulus-modulus.ensures.sound.each c.args.k c.requires.row in
    let last : EndsAt (length v) v (slice_index cols (length cols - 1)) =
    last_stored v cols vals c.cols-cols.ensures.support c.vals.ensures.values (c.cols-cols.ensures.same_length ∙ ap length (sym c.vals.ensures.values)) c.cols-cols.ensures.ascending c.vals.ensures.positive
    (subst (λ n. AreBelow n cols) (sym vector.len) c.cols-cols.ensures.below_width) (omega (arith, some)) in
    let same : slice_index cols (length cols - 1) ≡ end = ends_once (subst (λ n. EndsAt n v (slice_index cols (length cols - 1))) vector.len last) e in
    let factor : c.neg-factor.result ≡ (p - slice_index x end) % p = c.neg-factor.ensures.value ∙ ap₂ (λ m i. (m - slice_index x i) % m) is same in
    let whole : spread (length x) cols vals ≡ v = rw (c.requires.vector.len, c.cols-cols.ensures.support, c.vals.ensures.values) (spread_support K.matrix.width v vector.len) in
    c.add_multiple.ensures.adds j l ∙ ap₂ (λ f m. (slice_index x j + f * slice_index (spread (length x) cols vals) j) % m) factor is
    ∙ ap (λ u. (slice_index x j + (p - slice_index x end) % p * slice_index u j) % p) whole
