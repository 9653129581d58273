use Rattle.std.proofs.Common.{ℕ, ◌≡◌, ◌<◌, ◌≤◌, ◌∙◌, Result, Ok, Err, MatchResult, List, length, get_or, IsTrue, ◌↔◌, sym, subst, refl, arith, inl, inr}
use Rattle.std.specs.List.{Contains}
use Rattle.std.specs.Result.{is_ok}
use Rattle.std.proofs.lemmas.Bool.{cases_eq, cases_lt, false≢true}
use Rattle.std.proofs.lemmas.List.Sorted.{searched}
use Rattle.residue_words.proofs.Lists.{contains_at, place_in}
use Rattle.pivot_walks.proofs.walk.is_in.Goals as goal

stands : (xs : List ℕ) (x : ℕ) (r : Result ℕ ℕ) → MatchResult r (λ i. (i < length xs) × (get_or xs i 0 ≡ x)) (λ i. (i ≤ length xs) × ((k : ℕ) → k < i → get_or xs k 0 < x) × ((k : ℕ) → i ≤ k → k < length xs → x < get_or xs k 0)) →
    IsTrue (is_ok r) ↔ Contains xs x
stands xs x (Ok i) t = ((λ e. contains_at xs i x t.0 t.1), (λ c. refl))
stands xs x (Err i) t = ((λ e. absurd (false≢true e)), (λ c. let p = place_in xs x c in elim (cases_lt p.0 i) [ inl lt ↦ absurd (omega (arith, t.1 p.0 lt, p.2)) | inr ge ↦ absurd (omega (arith, t.2 p.0 ge p.1, p.2)) ]))

pub returns : goal.returns
returns c =
    let xs = c.args.cols.now in
    let s = stands xs c.args.j c.binary_search.result (searched xs c.args.j c.binary_search.result c.binary_search.ensures.position
    (λ i j le l. elim (cases_eq i j) [
      | inl e ↦ omega (arith, subst (λ x. get_or xs i 0 ≤ get_or xs x 0) e (omega arith))
      | inr d ↦ omega (arith, c.requires i j (omega arith) l)
    ])) in
    ((λ e. s.0 (sym c.is_ok.ensures.value ∙ e)), (λ m. c.is_ok.ensures.value ∙ s.1 m))
