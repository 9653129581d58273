use Rattle.std.proofs.Common.{◌<◌, ◌∙◌, ap, arith, length, subst, sym}
use Rattle.std.proofs.lemmas.List.{get_or_default}
use Rattle.sparse_rows.specs.Rows.{IsNextFilled}
use Rattle.sparse_rows.proofs.Expanding.{listed_next, listed_none}
use Rattle.sparse_rows.proofs.rows.Rows.next_filled.Goals as goal

pub returns-then-place-len : goal.returns-then-place-len
returns-then-place-len c =
    let l : c.first_from-place.result < length c.self.inside.rows.items = omega (arith, c.if-place-len.true, c.len.ensures, c.self.inside.rows.ok.0) in
    subst (IsNextFilled c.args.self.now.matrix c.args.from) (sym (c.index.ensures ∙ get_or_default c.self.inside.rows.items _ _ 0 l))
    (listed_next c.self.inside.every_row _ _ _ _ c.if-self.false c.self.invariant (ap (λ m. m.matrix) c.self.view_is) c.args.from c.first_from-place.result l
    (rw c.deref.ensures.value at c.first_from-place.ensures.before) (rw c.deref.ensures.value at c.first_from-place.ensures.behind))

pub returns-else-place-len : goal.returns-else-place-len
returns-else-place-len c =
    listed_none c.self.inside.every_row _ _ _ _ c.if-self.false c.self.invariant (ap (λ m. m.matrix) c.self.view_is) c.args.from c.first_from-place.result
    (omega (arith, c.if-place-len.false, c.len.ensures, c.self.inside.rows.ok.0)) (rw c.deref.ensures.value at c.first_from-place.ensures.before)
