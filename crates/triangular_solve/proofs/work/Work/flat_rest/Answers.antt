use Rattle.std.proofs.Common.{◌∙◌, ap, length}
use Rattle.sparse_rows.specs.Rows.{ResidueRow}
use Rattle.sparse_rows.proofs.Loops.{length_zeros}
use Rattle.triangular_solve.proofs.PivotReduction.{room_again}
use Rattle.triangular_solve.proofs.work.Work.flat_rest.Goals as goal

pub invariant_of-self-2 : goal.invariant_of-self-2
invariant_of-self-2 c =
    room_again c.fit.new.sums c.rest_by-done.new.sums c.self.inside.passed c.rest_by-done.new.passed (length c.args.pivots.now.columns) c.in_ok-fit.ensures.few (ap (λ (r : ResidueRow). length r.row) c.in_ok-fit.ensures.ok ∙ length_zeros (length c.args.pivots.now.columns))
    (ap (λ (r : ResidueRow). r.modulus) c.in_ok-fit.ensures.ok ∙ ap (λ (r : ResidueRow). r.modulus) c.self.invariant.clear)
    c.rest_by-done.ensures.sums c.clear.ensures c.rest_by-done.ensures.passed c.clear-2.ensures.modulus c.clear-2.ensures.row
