use Rattle.pivot_table.proofs.Orders.{grown_order}
use Rattle.run_trace.specs.Lawful.{history_of}
use Rattle.run_trace.proofs.laws.lawful_trace_is_triangular.Goals as goal

pub returns : goal.returns
returns c = λ p A t is. grown_order A (history_of t.publications) is.lawful.grown
