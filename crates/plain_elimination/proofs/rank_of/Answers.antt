use Rattle.std.proofs.Common.{ℕ, ◌≡◌, List, [], ◌∷◌, ◌++◌, length, ap, subst, sym, refl, ◌∙◌, arith, append_assoc, append-nil}
use Rattle.std.specs.Vec.Iter.{into_iter_items}
use Rattle.residue_words.specs.Matrix.{IsMatrix, IsVector}
use Rattle.row_space.specs.Echelon.{HasRank}
use Rattle.row_space.proofs.Rows.{rank_of_independent, steps_independent}
use Rattle.plain_elimination.specs.Plain.{AreKept, AreReduced, lists, plain_matrix}
use Rattle.plain_elimination.proofs.Elimination.{lists_length, lists_more, passed_matrix, passed_row}
use Rattle.plain_elimination.proofs.rank_of.Goals as goal

nothing_left : {X : Type 0} (l : List X) → length l ≡ 0 → l ≡ []
nothing_left [] h = refl
nothing_left (x ∷ xs) h = absurd (omega arith)

pub keep-requires-clause-row : goal.keep-requires-clause-row
keep-requires-clause-row c =
    let at = c.loop-row in
    let v : List ℕ = c.in-Some.row.items in
    let passed = ap (λ l. at.yielded ++ l) (sym c.in-Some.ensures.steps.0) ∙ at.invariant.items ∙ c.into_iter-row-iterator.ensures.into_iter_gives.0 in
    let vector : IsVector c.args.p.now c.args.width v = passed_row c.args.p.now c.args.width c.args.rows.items at.yielded (into_iter_items c.next.new.self) c.in-Some.row c.requires passed in
    subst (λ m. IsVector c.args.p.now m v) (sym vector.len) vector

pub keep-requires-clause-kept : goal.keep-requires-clause-kept
keep-requires-clause-kept c =
    let at = c.loop-row in
    let passed = ap (λ l. at.yielded ++ l) (sym c.in-Some.ensures.steps.0) ∙ at.invariant.items ∙ c.into_iter-row-iterator.ensures.into_iter_gives.0 in
    let vector : IsVector c.args.p.now c.args.width c.in-Some.row.items = passed_row c.args.p.now c.args.width c.args.rows.items at.yielded (into_iter_items c.next.new.self) c.in-Some.row c.requires passed in
    subst (λ m. AreKept c.args.p.now m (lists at.kept.items) at.leads.items) (sym vector.len) at.invariant.kept

pub loop-row-preserved : goal.loop-row-preserved
loop-row-preserved c =
    let p : ℕ = c.args.p.now in
    let n : ℕ = c.args.width in
    let at = c.loop-row in
    let r = c.in-Some.row in
    let steps = c.in-Some.ensures.steps in
    let left = into_iter_items c.next.new.self in
    let passed = ap (λ l. at.yielded ++ l) (sym steps.0) ∙ at.invariant.items ∙ c.into_iter-row-iterator.ensures.into_iter_gives.0 in
    let vector : IsVector p n r.items = passed_row p n c.args.rows.items at.yielded left r c.requires passed in
    let before = passed_matrix p n c.args.rows.items at.yielded (r ∷ left) c.requires passed in
    let kept' : List (List ℕ) = lists c.keep.new.kept.items in
    let leads' : List ℕ = c.keep.new.leads.items in
    record {
      items = append_assoc at.yielded (r ∷ []) left ∙ ap (λ l. at.yielded ++ l) (sym steps.0) ∙ at.invariant.items;
      left = let short = ap length steps.0 in omega (arith, at.invariant.left, steps.1);
      kept = subst (λ m. AreKept p m kept' leads') vector.len c.in_ok-keep.ensures.kept;
      reduced = λ prime. subst (λ rows. AreReduced p n rows kept' leads') (sym (lists_more at.yielded r))
          (subst (λ m. AreReduced p m (lists at.yielded ++ r.items ∷ []) kept' leads') vector.len
          (c.in_ok-keep.ensures.reduced prime (lists at.yielded) (subst (λ m. IsMatrix p (plain_matrix m at.yielded)) (sym vector.len) before) (subst (λ m. AreReduced p m (lists at.yielded) (lists at.kept.items) at.leads.items) (sym vector.len) (at.invariant.reduced prime))));
    }

pub returns : goal.returns
returns c = λ prime.
    let p : ℕ = c.args.p.now in
    let n : ℕ = c.args.width in
    let at = c.loop-row in
    let empty : into_iter_items at.row-iterator ≡ [] = nothing_left _ (sym at.invariant.left ∙ c.in-None.ensures.steps.0) in
    let all : at.yielded ≡ c.args.rows.items = sym (append-nil at.yielded) ∙ ap (λ l. at.yielded ++ l) (sym empty) ∙ at.invariant.items ∙ c.into_iter-row-iterator.ensures.into_iter_gives.0 in
    let done : AreReduced p n (lists c.args.rows.items) (lists at.kept.items) at.leads.items =
    subst (λ rows. AreReduced p n (lists rows) (lists at.kept.items) at.leads.items) all (at.invariant.reduced prime) in
    let K = plain_matrix n at.kept.items in
    let high : length (lists at.kept.items) ≡ c.len-2.result = omega (arith, lists_length at.kept.items, at.kept.ok.0, c.len-2.ensures) in
    subst (λ r. HasRank p (plain_matrix n c.args.rows.items) r) high
    (rank_of_independent c.rref_exists.ensures c.span_fixes_height.ensures p (plain_matrix n c.args.rows.items) K prime c.requires at.invariant.kept.matrix refl
    (steps_independent p K _ (omega (arith, prime.two_or_more)) done.steps) done.span)
