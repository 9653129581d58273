use Rattle.std.proofs.Common.{ℕ, List, sym, ◌∙◌}
use Rattle.std.proofs.lemmas.Bool.{false≢true}
use Rattle.residue_words.specs.Matrix.{Matrix}
use Rattle.sparse_rows.specs.Rows.{AreEnough}
use Rattle.cert_checker.proofs.Narrowing.{occupied_enough, product_narrowed, product_occupied}
use Rattle.cert_checker.proofs.product.is_product.Goals as goal

pub returns-then-not-are_all_in : goal.returns-then-not-are_all_in
returns-then-not-are_all_in c = (
  λ e. absurd (false≢true e),
  λ h. absurd (false≢true (sym c.if-not-are_all_in.true ∙ c.are_all_in.ensures.1 (rw (c.deref.ensures.value, c.deref-2.ensures.value)
      (product_occupied c.args.b.now.modulus c.args.v.now.matrix c.args.y.now.matrix c.args.b.now.matrix c.in_ok-columns.columns.items c.requires.width
      c.in_ok-touched.touched.items c.in_ok-touched.ensures c.in_ok-columns.ensures.enough h)))),
)

pub narrowed-requires : goal.narrowed-requires
narrowed-requires c = rw c.deref-3.ensures.value
    (occupied_enough c.args.b.now.modulus c.args.v.now.matrix c.args.y.now.matrix c.args.b.now.matrix c.in_ok-columns.columns.items c.requires.width
    c.in_ok-touched.touched.items c.in_ok-touched.ensures c.in_ok-columns.ensures.enough (rw (c.deref.ensures.value, c.deref-2.ensures.value) at (c.are_all_in.ensures.0 c.if-not-are_all_in.false)))

pub returns : goal.returns
returns c =
    let V : Matrix = c.args.v.now.matrix in
    let Y : Matrix = c.args.y.now.matrix in
    let B : Matrix = c.args.b.now.matrix in
    let p : ℕ = c.args.b.now.modulus in
    let columns : List ℕ = c.in_ok-columns.columns.items in
    let enough : AreEnough V columns = occupied_enough p V Y B columns c.requires.width
    c.in_ok-touched.touched.items c.in_ok-touched.ensures c.in_ok-columns.ensures.enough (rw (c.deref.ensures.value, c.deref-2.ensures.value) at (c.are_all_in.ensures.0 c.if-not-are_all_in.false)) in
    let both = product_narrowed p V Y B columns c.requires.width enough c.in_ok-columns.ensures.enough in
    let narrow = rw (c.in_ok-narrow_v.ensures.matrix, c.in_ok-narrow_b.ensures.matrix, c.in_ok-narrow_b.ensures.modulus, c.deref-3.ensures.value, c.deref-4.ensures.value) at c.in_ok-product.ensures in
    (λ e. both.0 (narrow.0 e), λ h. narrow.1 (both.1 h))
