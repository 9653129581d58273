use Rattle.std.proofs.Common.{ℕ, ◌≡◌, List, [], ◌∷◌, ◌++◌, length, ap, subst, sym, ◌∙◌, arith}
use Rattle.std.specs.Vec.{with_items}
use Rattle.std.proofs.lemmas.List.{with_items_is}
use Rattle.residue_words.specs.Matrix.{IsVector}
use Rattle.plain_elimination.specs.Plain.{AreKept, lists}
use Rattle.plain_elimination.proofs.Elimination.{kept_more, lists_more}
use Rattle.plain_elimination.proofs.keep.Goals as goal

pub returns-in_ok-push-2-clause-kept : goal.returns-in_ok-push-2-clause-kept
returns-in_ok-push-2-clause-kept c =
    let p : ℕ = c.args.p.now in
    let n : ℕ = length c.args.row.items in
    let kept : List (List ℕ) = lists c.args.kept.now.items in
    let leads : List ℕ = c.args.leads.now.items in
    let x : List ℕ = c.reduce_and_scale.new.row in
    let j : ℕ = c.in-Some.lead in
    let size : length c.deref_mut.result.now ≡ n = omega (arith, c.deref_mut.ensures.len, c.args.row.ok.0) in
    let long : length x ≡ c.args.row.len = omega (arith, c.reduce_and_scale.ensures.vector.len, c.args.row.ok.0) in
    let same : lists c.push.new.self.items ≡ kept ++ x ∷ [] =
    ap lists c.in_ok-push.ensures.items ∙ lists_more c.args.kept.now.items (with_items c.args.row x) ∙ ap (λ u. kept ++ u ∷ []) (with_items_is c.args.row x long) in
    subst (λ K. AreKept p n K c.push-in-Some.new.self.items) (sym same)
    (subst (λ L. AreKept p n (kept ++ x ∷ []) L) (sym c.in_ok-push-2.ensures.items)
    (kept_more p n kept leads x j c.requires.kept
    (subst (λ m. IsVector p m x) size c.reduce_and_scale.ensures.vector) (omega (arith, c.in-Some.ensures.lead))))
