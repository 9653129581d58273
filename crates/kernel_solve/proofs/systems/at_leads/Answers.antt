use Rattle.std.proofs.Common.{ℕ, ◌≡◌, ◌<◌, ◌∙◌, List, [], ◌∷◌, ◌++◌, ap, arith, length, map, refl, slice_index, subst, sym, ap₂, take}
use Rattle.std.proofs.lemmas.List.{length-map, take_all}
use Rattle.sparse_rows.specs.Rows.{AreBelow, built, nonzeros, sum_at, support}
use Rattle.sparse_rows.specs.Stored.{IsSparse, entry_at}
use Rattle.kernel_solve.specs.Column.{column}
use Rattle.kernel_solve.specs.ReadOff.{IsAtLeads}
use Rattle.kernel_solve.proofs.AtLeads.{built_at_leads, built_matrix, built_same, moved_at, moved_rising, row_vector, stored_below, sums_more}
use Rattle.kernel_solve.proofs.systems.at_leads.Goals as goal

pub bounds-leads-rows : goal.bounds-leads-rows
bounds-leads-rows c =
    stored_below c.args.side.now.row c.cols-rows.result.now c.vals-values.result.now c.cols-rows.ensures.support c.vals-values.ensures.values (c.cols-rows.ensures.same_length ∙ ap length (sym c.vals-values.ensures.values))
    c.cols-rows.ensures.ascending c.vals-values.ensures.positive (length c.args.leads.now) c.cols-rows.ensures.below_width c.requires.behind c.loop-k.k c.loop-k-test.true

pub push-requires-clause-row : goal.push-requires-clause-row
push-requires-clause-row c = omega (
  arith,
  c.requires.inside (slice_index c.cols-rows.result.now c.loop-k.k)
      (stored_below c.args.side.now.row c.cols-rows.result.now c.vals-values.result.now c.cols-rows.ensures.support c.vals-values.ensures.values (c.cols-rows.ensures.same_length ∙ ap length (sym c.vals-values.ensures.values))
      c.cols-rows.ensures.ascending c.vals-values.ensures.positive (length c.args.leads.now) c.cols-rows.ensures.below_width c.requires.behind c.loop-k.k c.loop-k-test.true),
  c.loop-k.invariant.height,
)

pub loop-k-preserved : goal.loop-k-preserved
loop-k-preserved c =
    let k : ℕ = c.loop-k.k in
    let leads : List ℕ = c.args.leads.now in
    let rs : List ℕ = c.cols-rows.result.now in
    let vs : List ℕ = c.vals-values.result.now in
    let made = c.in_ok-push.ensures.ok in
    let inside : AreBelow (length leads) rs = stored_below c.args.side.now.row rs vs c.cols-rows.ensures.support c.vals-values.ensures.values (c.cols-rows.ensures.same_length ∙ ap length (sym c.vals-values.ensures.values)) c.cols-rows.ensures.ascending
    c.vals-values.ensures.positive (length leads) c.cols-rows.ensures.below_width c.requires.behind in
    let long : length (map (slice_index leads) rs) ≡ length vs = length-map rs (slice_index leads) ∙ c.cols-rows.ensures.same_length ∙ ap length (sym c.vals-values.ensures.values) in
    record {
      modulus = ap (λ b. b.modulus) made ∙ c.loop-k.invariant.modulus;
      height = ap (λ b. b.height) made ∙ c.loop-k.invariant.height;
      width = ap (λ b. b.width) made ∙ c.loop-k.invariant.width;
      sums = λ j.
          ap (λ b. sum_at j 0 b.pushed) made
          ∙ ap (λ t. sum_at j 0 (c.loop-k.entries.pushed ++ record { i = t; j = 0; v = slice_index vs k } ∷ [])) (sym (moved_at leads rs c.requires.rising inside k c.loop-k-test.true))
          ∙ sums_more k (map (slice_index leads) rs) vs c.loop-k.entries.pushed long (moved_rising leads rs c.requires.rising inside c.cols-rows.ensures.ascending)
          (omega (arith, length-map rs (slice_index leads))) c.loop-k.invariant.sums j;
    }

pub returns-clause-sound : goal.returns-clause-sound
returns-clause-sound c =
    let p : ℕ = c.args.side.now.modulus in
    let b = c.loop-k.entries in
    let made : c.in_ok-x.x.matrix ≡ built p c.args.n 1 b.pushed =
    built_same p b.modulus b.height b.width c.args.n b.pushed c.in_ok-x.x.matrix c.loop-k.invariant.modulus c.loop-k.invariant.height c.loop-k.invariant.width c.in_ok-x.ensures.matrix in
    let modulus : c.in_ok-x.x.modulus ≡ p = c.in_ok-x.ensures.modulus ∙ c.loop-k.invariant.modulus in
    let pos : 0 < p = omega (arith, c.modulus.ensures.two_or_more, c.modulus.ensures.value) in
    rw (modulus, made) (built_matrix p c.args.n b.pushed pos)

pub returns-clause-entries : goal.returns-clause-entries
returns-clause-entries c =
    let p : ℕ = c.args.side.now.modulus in
    let b = c.loop-k.entries in
    let side : List ℕ = c.args.side.now.row in
    let leads : List ℕ = c.args.leads.now in
    let rs : List ℕ = c.cols-rows.result.now in
    let vs : List ℕ = c.vals-values.result.now in
    let pos : 0 < p = omega (arith, c.modulus.ensures.two_or_more, c.modulus.ensures.value) in
    let made : c.in_ok-x.x.matrix ≡ built p c.args.n 1 b.pushed =
    built_same p b.modulus b.height b.width c.args.n b.pushed c.in_ok-x.x.matrix c.loop-k.invariant.modulus c.loop-k.invariant.height c.loop-k.invariant.width c.in_ok-x.ensures.matrix in
    let long : length rs ≡ length vs = c.cols-rows.ensures.same_length ∙ ap length (sym c.vals-values.ensures.values) in
    let sparse : IsSparse p (length side) rs vs = record {
      long = long;
      rising = c.cols-rows.ensures.ascending;
      below = c.cols-rows.ensures.below_width;
      positive = c.vals-values.ensures.positive;
      residues = c.vals-values.ensures.residues;
    } in
    let inside : AreBelow (length leads) (support side) = subst (AreBelow (length leads)) c.cols-rows.ensures.support
    (stored_below side rs vs c.cols-rows.ensures.support c.vals-values.ensures.values long c.cols-rows.ensures.ascending c.vals-values.ensures.positive (length leads) c.cols-rows.ensures.below_width c.requires.behind) in
    let all_columns : take c.loop-k.k (map (slice_index leads) rs) ≡ map (slice_index leads) (support side) =
    take_all c.loop-k.k (map (slice_index leads) rs) (omega (arith, length-map rs (slice_index leads), c.loop-k-test.false)) ∙ ap (map (slice_index leads)) c.cols-rows.ensures.support in
    let all_values : take c.loop-k.k vs ≡ nonzeros side = take_all c.loop-k.k vs (omega (arith, long, c.loop-k-test.false)) ∙ c.vals-values.ensures.values in
    subst (λ X. IsAtLeads leads side (column X)) (sym made)
    (built_at_leads p c.args.n leads side b.pushed pos (row_vector side pos refl c.cols-rows.ensures.support c.vals-values.ensures.values sparse) c.requires.few inside c.requires.rising c.requires.inside
    (λ j. c.loop-k.invariant.sums j ∙ ap₂ (λ cs ws. entry_at cs ws j) all_columns all_values))
