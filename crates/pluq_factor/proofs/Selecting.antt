-- What leftmost, search and order select, as it is met.
use Rattle.std.proofs.Common.{ℕ, ◌≡◌, ◌∙◌, List, subst}
use Rattle.residue_words.specs.declared.plain.Pair.{Pair}
use Rattle.sparse_rows.specs.Rows.{ResidueMatrix}
use Rattle.pivot_table.specs.Greedy.{IsGreedy}
use Rattle.pivot_table.specs.History.{Maximal, StartsWith}
use Rattle.pivot_table.specs.Leftmost.{IsLeftmost}
use Rattle.pivot_table.specs.Order.{IsTriangularOrder}
use Rattle.pivot_table.specs.Selected.{Selected}
use Rattle.pivot_table.proofs.Selecting.{selected}

pub selected_at : {R S T : ResidueMatrix} {first all qs : List Pair} {workers : ℕ} → S ≡ R → T ≡ S → IsLeftmost R.matrix first → StartsWith all first → Maximal S.matrix all → (workers ≡ 1 → IsGreedy S.matrix first all) →
    IsTriangularOrder T.matrix all qs → Selected R.matrix workers qs
selected_at {R} {S} {T} {first} {all} {qs} {workers} s t leftmost begins maximal greedy order =
    selected R.matrix workers first all qs leftmost begins (subst (λ (M : ResidueMatrix). Maximal M.matrix all) s maximal) (subst (λ (M : ResidueMatrix). IsTriangularOrder M.matrix all qs) (t ∙ s) order)
    (λ one. subst (λ (M : ResidueMatrix). IsGreedy M.matrix first all) s (greedy one))
