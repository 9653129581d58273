use Rattle.std.proofs.Common.{List, ◌≤◌, length, min, subst, sym}
use Rattle.residue_words.specs.declared.plain.Pair.{Pair}
use Rattle.pivot_table.specs.Book.{BookState}
use Rattle.pivot_table.proofs.Short.{grown_short}
use Rattle.pivot_table.proofs.book.Book.pairs.Goals as goal

pub returns-clause-few : goal.returns-clause-few
returns-clause-few c =
    let b = c.self.inside in
    subst (λ (qs : List Pair). length qs ≤ min c.args.self.now.rows.matrix.height c.args.self.now.rows.matrix.width) (sym c.as_slice.ensures.value)
    (subst (λ (s : BookState). length b.pairs.items ≤ min s.rows.matrix.height s.rows.matrix.width) c.self.view_is (grown_short b.rows.now.matrix b.pairs.items c.self.invariant))
