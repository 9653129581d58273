-- Factors of the pivots of a round and of what they left, joined.
use Rattle.std.specs.Prelude.{◌≡◌, ◌<◌, ◌≤◌, ◌+◌, ◌++◌, ℕ, length}
use Rattle.sparse_rows.specs.Rows.{above, beside}
use Rattle.dense_finish.specs.declared.factors.Factors.{Factors}
use Rattle.pluq_factor.specs.Rounds.{AreWithoutPivots}
use Rattle.pluq_factor.specs.declared.round_pivots.RoundPivots.{RoundPivots}
use Rattle.pluq_factor.specs.declared.round_pivots.Top.{Top}

-- what a round gives the factors
abbrev pub top_of : RoundPivots → Top
top_of r = record { pivots = r.pivots; rows = r.top; coefficients = r.left.coefficients }

-- how many pivots both have
abbrev pub pivot_count : Top → Factors → ℕ
pivot_count top below = length top.pivots + length below.pivots

-- the moduli and sizes are those of one matrix
pub record FitsRoundAbove (top : Top) (below : Factors) : Type 0 where
  pub left_modulus : top.coefficients.modulus ≡ below.l.modulus
  pub right_modulus : top.rows.modulus ≡ below.u.modulus
  pub height : top.coefficients.matrix.height ≡ below.l.matrix.height
  pub width : top.rows.matrix.width ≡ below.u.matrix.width
  pub left_width : top.coefficients.matrix.width ≡ length top.pivots
  pub right_height : top.rows.matrix.height ≡ length top.pivots
  pub below_width : below.l.matrix.width ≡ length below.pivots
  pub below_height : below.u.matrix.height ≡ length below.pivots

-- the pivots one after another, the left factors beside and the right ones above each other
pub record JoinRound (top : Top) (below f : Factors) : Type 0 where
  pub left_modulus : f.l.modulus ≡ top.coefficients.modulus
  pub right_modulus : f.u.modulus ≡ top.rows.modulus
  pub pivots : f.pivots ≡ top.pivots ++ below.pivots
  pub left : f.l.matrix ≡ beside top.coefficients.matrix below.l.matrix
  pub right : f.u.matrix ≡ above top.rows.matrix below.u.matrix

-- where there are no more pivots than rows, f has both
abbrev pub JoinsWhereFew : Top → Factors → Factors → Type 0
JoinsWhereFew top below f = pivot_count top below ≤ top.coefficients.matrix.height → JoinRound top below f

-- where there are more, f has none
abbrev pub EmptyWhereMany : Top → Factors → Factors → Type 0
EmptyWhereMany top below f = top.coefficients.matrix.height < pivot_count top below →
    AreWithoutPivots top.rows.modulus top.coefficients.matrix.height top.rows.matrix.width f
