use Rattle.column_lists.proofs.Marking.{marks_length, new_marks, no_marks_list}
use Rattle.column_lists.proofs.column_set.ColumnSet.new.Goals as goal

pub returns-clause-length : goal.returns-clause-length
returns-clause-length c = marks_length _ _

pub returns-clause-none : goal.returns-clause-none
returns-clause-none c = no_marks_list _ _ _ (c.in_ok-vec.ensures.items_if_clones_equal (λ y e. e))

pub invariant_of-result : goal.invariant_of-result
invariant_of-result c = new_marks _ _ _ (c.in_ok-vec.ensures.items_if_clones_equal (λ y e. e)) (c.in_ok-vec-2.ensures.items_if_clones_equal (λ y e. e))
