use Rattle.schur_rows.proofs.row_ranges.part_of.Goals as goal

pub append_rows-requires-clause-part : goal.append_rows-requires-clause-part
append_rows-requires-clause-part c = c.in_ok-part.ensures c.args.from
