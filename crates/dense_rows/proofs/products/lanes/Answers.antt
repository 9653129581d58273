use Rattle.std.proofs.Common.{ℕ, arith}
use Rattle.std.proofs.lemmas.List.{get_or-map}
use Rattle.dense_rows.proofs.products.lanes.Goals as goal

pub returns : goal.returns
returns c = λ k l. get_or-map (λ (x : ℕ). x) c.args.row.now k 0 0 (omega (arith, c.told-row))
