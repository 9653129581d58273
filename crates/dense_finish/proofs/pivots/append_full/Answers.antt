use Rattle.std.proofs.Common.{◌∙◌}
use Rattle.std.proofs.lemmas.Result.{on_ok_weaker}
use Rattle.dense_finish.proofs.FullRows.{full_appended, full_sparse}
use Rattle.dense_finish.proofs.pivots.append_full.Goals as goal

pub append_entries-requires-clause-sparse : goal.append_entries-requires-clause-sparse
append_entries-requires-clause-sparse g c =
    full_sparse c.requires.row c.requires.behind (c.deref.ensures.value ∙ c.in_ok-entries.ensures)

pub returns : goal.returns
returns g c =
    on_ok_weaker c.append_entries.result
    (full_appended c.requires.row c.requires.behind (c.deref.ensures.value ∙ c.in_ok-entries.ensures) c.append_entries.ensures.modulus) c.append_entries.ensures.matrix
