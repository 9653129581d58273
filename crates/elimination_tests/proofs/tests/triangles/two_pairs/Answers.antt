use Rattle.std.proofs.Common.{◌≡◌, ◌∙◌, List, [], ◌∷◌, ◌++◌, ap, subst, sym}
use Rattle.residue_words.specs.Matrix.{Matrix}
use Rattle.residue_words.specs.declared.plain.Pair.{Pair}
use Rattle.sparse_rows.specs.Rows.{ResidueMatrix}
use Rattle.pivot_table.specs.History.{Alive, pair}
use Rattle.pivot_table.specs.Example.{pivot_example}
use Rattle.pivot_table.proofs.Example.{next_alive}
use Rattle.elimination_tests.proofs.tests.triangles.two_pairs.Goals as goal

pub push-requires-2-clause-alive : goal.push-requires-2-clause-alive
push-requires-2-clause-alive c =
    let rows : c.push.new.self.rows.matrix ≡ pivot_example =
    ap (λ (m : ResidueMatrix). m.matrix) (c.push.ensures.rows ∙ c.reserve.ensures.rows ∙ c.in_ok-book.ensures.rows) ∙ c.requires in
    let pairs : c.push.new.self.pairs ≡ pair 0 0 ∷ [] =
    c.push.ensures.pairs ∙ ap (λ (qs : List Pair). qs ++ pair 0 0 ∷ []) (c.reserve.ensures.pairs ∙ c.in_ok-book.ensures.pairs) in
    subst (λ (A : Matrix). Alive A c.push.new.self.pairs 1 1) (sym rows) (subst (λ (qs : List Pair). Alive pivot_example qs 1 1) (sym pairs) next_alive)
