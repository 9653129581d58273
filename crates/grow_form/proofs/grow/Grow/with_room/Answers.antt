use Rattle.std.proofs.Common.{ℕ, [], ◌∙◌, ap, ap₂}
use Rattle.sparse_rows.specs.Rows.{ResidueMatrix}
use Rattle.grow_form.specs.Numbering.{seen_rows}
use Rattle.grow_form.proofs.Numbers.{long_arrivals}
use Rattle.grow_form.proofs.grow.Grow.with_room.Goals as goal

pub returns : goal.returns
returns c =
    let without : ℕ → ResidueMatrix = λ n. record { modulus = c.args.p.now; matrix = record { height = 0; width = n; rows = [] } } in
    ap₂ seen_rows c.in_ok-new.ensures c.new-2.ensures ∙ ap without (long_arrivals c.args.n [])
