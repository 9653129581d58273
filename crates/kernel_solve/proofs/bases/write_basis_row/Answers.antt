use Rattle.std.proofs.Common.{ℕ, ◌≡◌, ◌+◌, ◌-◌, ◌%◌, ◌∙◌, List, ap₂, arith, length, map, slice_index, slice_set, subst, sym}
use Rattle.std.proofs.lemmas.List.{get_or-map, length-map}
use Rattle.sparse_rows.specs.Stored.{IsSparse, spread}
use Rattle.sparse_rows.proofs.Loops.{IsCopiedSoFar, copied_behind, copied_more}
use Rattle.kernel_solve.specs.ReadOff.{IsBasisRow}
use Rattle.kernel_solve.proofs.AtLeads.{basis_row, moved_at, moved_behind, moved_rising}
use Rattle.kernel_solve.proofs.bases.write_basis_row.Goals as goal

pub push-requires-clause-behind : goal.push-requires-clause-behind
push-requires-clause-behind c = λ j a b.
    let p : ℕ = c.modulus-modulus.result in
    let k : ℕ = c.loop-k.k in
    let leads : List ℕ = c.args.leads.now in
    let rs : List ℕ = c.args.rows.now in
    let vs : List ℕ = c.args.values.now in
    let sparse = c.requires.column in
    copied_behind 0 k (map (slice_index leads) rs) (map (λ v. (p - v) % p) vs) c.args.to.now.row c.loop-k.to.row
    (length-map rs (slice_index leads) ∙ sparse.long ∙ sym (length-map vs (λ v. (p - v) % p)))
    (moved_rising leads rs c.requires.rising sparse.below sparse.rising) (omega (arith, length-map rs (slice_index leads))) c.loop-k.invariant.1
    j (omega (arith, moved_at leads rs c.requires.rising sparse.below k c.loop-k-test.true)) b

pub loop-k-preserved : goal.loop-k-preserved
loop-k-preserved c =
    let p : ℕ = c.modulus-modulus.result in
    let k : ℕ = c.loop-k.k in
    let leads : List ℕ = c.args.leads.now in
    let rs : List ℕ = c.args.rows.now in
    let vs : List ℕ = c.args.values.now in
    let sparse = c.requires.column in
    let at : slice_index leads (slice_index rs k) ≡ 0 + slice_index (map (slice_index leads) rs) k = omega (arith, moved_at leads rs c.requires.rising sparse.below k c.loop-k-test.true) in
    let value : c.neg.result ≡ slice_index (map (λ v. (p - v) % p) vs) k =
    c.neg.ensures.value ∙ sym (get_or-map (λ v. (p - v) % p) vs k 0 0 (omega (arith, c.loop-k-test.true, sparse.long))) in (
      c.push.ensures.modulus ∙ c.loop-k.invariant.0,
      copied_more 0 k (map (slice_index leads) rs) (map (λ v. (p - v) % p) vs) c.args.to.now.row c.loop-k.to.row
          (length-map rs (slice_index leads) ∙ sparse.long ∙ sym (length-map vs (λ v. (p - v) % p)))
          (moved_rising leads rs c.requires.rising sparse.below sparse.rising) (omega (arith, length-map rs (slice_index leads))) c.loop-k.invariant.1
          c.push.new.self.row (omega (arith, at, c.requires.leads (slice_index rs k) (sparse.below k c.loop-k-test.true)))
          (c.in_ok-push.ensures.ok ∙ ap₂ (slice_set c.loop-k.to.row) at value),
    )

pub push-requires-2-clause-behind : goal.push-requires-2-clause-behind
push-requires-2-clause-behind c = λ j a b.
    let p : ℕ = c.modulus-modulus.result in
    moved_behind c.args.leads.now c.args.rows.now c.requires.rising c.requires.column.below c.args.f c.loop-k.k (map (λ v. (p - v) % p) c.args.values.now) c.args.to.now.row c.loop-k.to.row
    c.requires.before (omega arith) c.loop-k.invariant.1 j a b

pub returns-clause-row : goal.returns-clause-row
returns-clause-row c =
    let p : ℕ = c.modulus-modulus.result in
    let leads : List ℕ = c.args.leads.now in
    let rs : List ℕ = c.args.rows.now in
    let vs : List ℕ = c.args.values.now in
    let all : c.loop-k.k ≡ length rs = omega (arith, c.loop-k.auto) in
    subst (λ q. IsBasisRow q leads (spread (length leads) rs vs) c.args.f c.push-2.new.self.row) (sym (c.push-2.ensures.modulus ∙ c.loop-k.invariant.0 ∙ sym c.modulus-modulus.ensures.value))
    (basis_row p c.args.f leads rs vs c.args.to.now.row c.loop-k.to.row c.push-2.new.self.row (omega (arith, c.modulus-modulus.ensures.two_or_more))
    (subst (λ q. IsSparse q (length leads) rs vs) (sym c.modulus-modulus.ensures.value) c.requires.column) c.requires.rising c.requires.leads c.requires.free
    (omega (arith, c.requires.inside, c.loop-k.invariant.1.long))
    (subst (λ n. IsCopiedSoFar 0 n (map (slice_index leads) rs) (map (λ v. (p - v) % p) vs) c.args.to.now.row c.loop-k.to.row) all c.loop-k.invariant.1) c.in_ok-push-2.ensures.ok)
