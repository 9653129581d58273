use Rattle.sparse_rows.proofs.FilledRows.{listed_all, listed_more}
use Rattle.sparse_rows.proofs.rows.Rows.triples.Goals as goal

pub loop-i-preserved : goal.loop-i-preserved
loop-i-preserved c = listed_more _ _ _ _ _ c.loop-i.invariant c.in-Some.ensures c.in_ok-list_row.ensures

pub returns : goal.returns
returns c = listed_all _ _ _ c.loop-i.invariant c.in_default.ensures
