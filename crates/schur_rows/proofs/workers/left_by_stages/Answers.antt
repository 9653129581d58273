use Rattle.schur_rows.proofs.workers.left_by_stages.Goals as goal

pub append_stages-requires-clause-made : goal.append_stages-requires-clause-made
append_stages-requires-clause-made g c = λ lifetimes outlives. c.in_ok-made.ensures c.args.deal.from
