use Rattle.std.proofs.Common.{◌<◌, ◌∙◌, ℕ, ap₂, length, subst, sym}
use Rattle.sparse_rows.specs.Rows.{FitsMatrix, built}
use Rattle.spasm_c.specs.Given.{entry_given}
use Rattle.spasm_c.proofs.InOrder.{each_fits, place_rises, triples_listed}
use Rattle.spasm_c.proofs.given.Given.copied.Goals as goal

pub from_entries_in_order-requires-clause-inside : goal.from_entries_in_order-requires-clause-inside
from_entries_in_order-requires-clause-inside c =
    let a = c.args.self.now in
    subst (λ p. (k : ℕ) → k < length a.rows.now → FitsMatrix a.height a.width p (entry_given a k)) (sym c.new.ensures) (each_fits c.requires.sound)

pub from_entries_in_order-requires-clause-order : goal.from_entries_in_order-requires-clause-order
from_entries_in_order-requires-clause-order c = λ k l. place_rises c.requires.sound k l (c.requires.order.order k l)

pub returns : goal.returns
returns c =
    let a = c.args.self.now in
    ap₂ (λ p A. record { modulus = p; matrix = A }) (c.in_ok-rows.ensures.modulus ∙ c.new.ensures)
    (c.in_ok-rows.ensures.matrix ∙ ap₂ (λ p ts. built p a.height a.width ts) c.new.ensures (sym (triples_listed c.requires.sound)))
