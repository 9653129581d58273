use Rattle.std.proofs.Common.{◌<◌, ◌/◌, length, ap, arith, ◌∙◌}
use Rattle.std.proofs.lemmas.List.{get_or_default}
use Rattle.residue_words.proofs.Vectors.{length_list_of}
use Rattle.column_lists.specs.ColumnSet.{bit}
use Rattle.column_lists.proofs.Marking.{mark_first, mark_more, marked}
use Rattle.column_lists.proofs.column_set.ColumnSet.mark.Goals as goal

pub index-word-requires : goal.index-word-requires
index-word-requires c = omega (arith, ap length c.self.view_is, length_list_of c.self.inside.count (bit c.self.inside.words.items), c.self.invariant.long)

pub index_mut-requires : goal.index_mut-requires
index_mut-requires c = omega (arith, ap length c.self.view_is, length_list_of c.self.inside.count (bit c.self.inside.words.items), c.self.invariant.long)

pub index_mut-requires-then-word-eq0 : goal.index_mut-requires-then-word-eq0
index_mut-requires-then-word-eq0 c = omega (arith, ap length c.self.view_is, length_list_of c.self.inside.count (bit c.self.inside.words.items), c.self.invariant.long, c.self.invariant.covered.long)

pub invariant_of-self : goal.invariant_of-self
invariant_of-self c =
    let column : c.args.j < c.self.inside.count = omega (arith, ap length c.self.view_is, length_list_of c.self.inside.count (bit c.self.inside.words.items)) in
    let inside : c.args.j / 64 < length c.self.inside.words.items = omega (arith, c.self.invariant.long) in
    let top_in : c.args.j / 64 / 64 < length c.self.inside.tops.items = omega (arith, c.self.invariant.long, c.self.invariant.covered.long) in
    mark_first c.self.invariant c.args.j _ _ _ column (c.index-word.ensures ∙ get_or_default c.self.inside.words.items _ _ 0 inside) (c.index_mut-then-word-eq0.ensures.value ∙ get_or_default c.self.inside.tops.items _ _ 0 top_in) (omega arith) (omega arith)

pub invariant_of-self-else-word-eq0 : goal.invariant_of-self-else-word-eq0
invariant_of-self-else-word-eq0 c =
    let column : c.args.j < c.self.inside.count = omega (arith, ap length c.self.view_is, length_list_of c.self.inside.count (bit c.self.inside.words.items)) in
    let inside : c.args.j / 64 < length c.self.inside.words.items = omega (arith, c.self.invariant.long) in
    mark_more c.self.invariant c.args.j _ column (c.index-word.ensures ∙ get_or_default c.self.inside.words.items _ _ 0 inside) c.if-word-eq0.false

pub returns-then-word-eq0 : goal.returns-then-word-eq0
returns-then-word-eq0 c =
    let column : c.args.j < c.self.inside.count = omega (arith, ap length c.self.view_is, length_list_of c.self.inside.count (bit c.self.inside.words.items)) in
    let inside : c.args.j / 64 < length c.self.inside.words.items = omega (arith, c.self.invariant.long) in
    rw (← c.self.view_is) (marked c.self.inside.count c.self.inside.words.items c.args.j _ c.self.invariant.long column (c.index-word.ensures ∙ get_or_default c.self.inside.words.items _ _ 0 inside))

pub returns-else-word-eq0 : goal.returns-else-word-eq0
returns-else-word-eq0 c =
    let column : c.args.j < c.self.inside.count = omega (arith, ap length c.self.view_is, length_list_of c.self.inside.count (bit c.self.inside.words.items)) in
    let inside : c.args.j / 64 < length c.self.inside.words.items = omega (arith, c.self.invariant.long) in
    rw (← c.self.view_is) (marked c.self.inside.count c.self.inside.words.items c.args.j _ c.self.invariant.long column (c.index-word.ensures ∙ get_or_default c.self.inside.words.items _ _ 0 inside))
