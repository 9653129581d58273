use Rattle.std.proofs.Common.{◌≡◌, ◌∙◌, slice_set, subst, sym, arith}
use Rattle.std.specs.Vec.{with_items}
use Rattle.std.proofs.lemmas.List.{get_or_default, with_items_is}
use Rattle.column_lists.specs.ColumnSet.{AllZero, AreTops, IsFirstWord, IsMarks}
use Rattle.column_lists.proofs.Marking.{first_column, first_taken, marks_taken, none_marked, without_lowest}
use Rattle.column_lists.proofs.column_set.ColumnSet.pop.Goals as goal

pub invariant_of-self-2 : goal.invariant_of-self-2
invariant_of-self-2 c =
    let first = subst (λ ws. IsFirstWord ws c.seek.new.first) c.deref.ensures.value (c.seek.ensures.some c.if-not-seek.false) in
    let tops = subst (λ ws. AreTops ws c.seek.new.tops) c.deref.ensures.value c.seek.ensures.tops in
    let kept : (with_items c.self.inside.tops c.seek.new.tops).items ≡ c.seek.new.tops = with_items_is c.self.inside.tops c.seek.new.tops (omega (arith, c.seek.auto.tops, c.deref_mut.ensures.len)) in
    subst (λ ts. IsMarks c.self.inside.count (slice_set c.self.inside.words.items c.seek.new.first (without_lowest c.index-word.result.now)) ts c.seek.new.first) (sym kept)
    (marks_taken c.self.invariant tops first _ _ (c.index-word.ensures ∙ get_or_default c.self.inside.words.items _ _ 0 first.inside) c.lowest_bit-k.ensures)

pub overflow_mul-result : goal.overflow_mul-result
overflow_mul-result c =
    let first = subst (λ ws. IsFirstWord ws c.seek.new.first) c.deref.ensures.value (c.seek.ensures.some c.if-not-seek.false) in
    let at = first_column first _ _ (c.index-word.ensures ∙ get_or_default c.self.inside.words.items _ _ 0 first.inside) c.lowest_bit-k.ensures in
    record { fits = omega (arith, c.self.invariant.inside _ at.0) }

pub overflow_cast-result : goal.overflow_cast-result
overflow_cast-result c =
    let first = subst (λ ws. IsFirstWord ws c.seek.new.first) c.deref.ensures.value (c.seek.ensures.some c.if-not-seek.false) in
    let at = first_column first _ _ (c.index-word.ensures ∙ get_or_default c.self.inside.words.items _ _ 0 first.inside) c.lowest_bit-k.ensures in
    record { fits = omega (arith, c.self.invariant.inside _ at.0) }

pub overflow_add-result : goal.overflow_add-result
overflow_add-result c =
    let first = subst (λ ws. IsFirstWord ws c.seek.new.first) c.deref.ensures.value (c.seek.ensures.some c.if-not-seek.false) in
    let at = first_column first _ _ (c.index-word.ensures ∙ get_or_default c.self.inside.words.items _ _ 0 first.inside) c.lowest_bit-k.ensures in
    record { fits = omega (arith, c.self.invariant.inside _ at.0) }

pub returns-clause-some : goal.returns-clause-some
returns-clause-some c =
    let first = subst (λ ws. IsFirstWord ws c.seek.new.first) c.deref.ensures.value (c.seek.ensures.some c.if-not-seek.false) in
    first_taken c.self.view_is c.self.invariant.inside first _ _ (c.index-word.ensures ∙ get_or_default c.self.inside.words.items _ _ 0 first.inside) c.lowest_bit-k.ensures

pub returns-then-not-seek-clause-none : goal.returns-then-not-seek-clause-none
returns-then-not-seek-clause-none c = (
  c.self.view_is,
  subst AllZero c.self.view_is (none_marked c.self.inside.count c.self.inside.words.items (subst AllZero c.deref.ensures.value (c.seek.ensures.none c.if-not-seek.true))),
)
