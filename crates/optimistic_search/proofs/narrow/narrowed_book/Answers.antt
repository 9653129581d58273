use Rattle.std.proofs.Common.{subst, sym}
use Rattle.sparse_rows.specs.Rows.{ResidueMatrix}
use Rattle.optimistic_search.specs.Renamed.{AreInside}
use Rattle.optimistic_search.proofs.narrow.narrowed_book.Goals as goal

pub returns-clause-inside : goal.returns-clause-inside
returns-clause-inside c =
    subst (λ (m : ResidueMatrix). AreInside m.matrix.width c.push_narrowed.new.narrow.pairs) (sym c.push_narrowed.ensures.rows) c.push_narrowed.ensures.inside
