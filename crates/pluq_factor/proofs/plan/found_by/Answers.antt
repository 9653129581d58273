use Rattle.std.proofs.Common.{◌∙◌}
use Rattle.pluq_factor.proofs.Selecting.{selected_at}
use Rattle.pluq_factor.proofs.plan.found_by.Goals as goal

pub returns : goal.returns
returns g c = record {
  rows = c.in_ok-triangle.ensures.rows ∙ c.in_ok-book.ensures.rows ∙ c.in_ok-leftmost.ensures.rows;
  selected = selected_at c.in_ok-leftmost.ensures.rows c.in_ok-book.ensures.rows c.in_ok-leftmost.ensures.pairs c.in_ok-book.ensures.begins c.in_ok-book.ensures.maximal c.in_ok-book.ensures.greedy c.in_ok-triangle.ensures.order;
}
