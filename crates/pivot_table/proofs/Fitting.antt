-- A seat of the board, seen from inside.
use Rattle.std.proofs.Common.{◌≡◌, sym, subst, ap, ◌∙◌}
use Rattle.sparse_rows.specs.Rows.{ResidueMatrix}
use Rattle.pivot_table.specs.Board.{BoardState, SeatState, IsSeatOf}

pub seat_fits : (b b' : BoardState) (s s' : SeatState) → b' ≡ b → s' ≡ s → IsSeatOf b s → IsSeatOf b' s'
seat_fits b b' s s' be se f = (
  ap (λ (x : SeatState). x.table) se ∙ f.0 ∙ sym (ap (λ (x : BoardState). x.table) be),
  ap (λ (x : SeatState). x.matrix) se ∙ f.1 ∙ sym (ap (λ (x : BoardState). x.rows.matrix) be),
)

-- and back
pub fits_seat : (b b' : BoardState) (s : SeatState) → b' ≡ b → IsSeatOf b' s → IsSeatOf b s
fits_seat b b' s be f = subst (λ (x : BoardState). IsSeatOf x s) be f

pub same_matrix : (r k : ResidueMatrix) → r ≡ k → r.matrix ≡ k.matrix
same_matrix r k e = ap (λ (x : ResidueMatrix). x.matrix) e
