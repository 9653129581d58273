use Rattle.std.proofs.Common.{ℕ, ◌≡◌, ◌<◌, [], Option, None, Some, arith, subst, sym}
use Rattle.std.proofs.lemmas.Result.{IfOk-weaker}
use Rattle.std.specs.Option.{MatchOption}
use Rattle.residue_words.specs.Matrix.{IsMatrix}
use Rattle.sparse_rows.specs.Rows.{ResidueMatrix}
use Rattle.pivot_table.specs.Selected.{Selected}
use Rattle.pluq_factor.specs.RoundPivots.{IsRoundTaken}
use Rattle.pluq_factor.specs.Staged.{AreAnyStaged, Staged}
use Rattle.pluq_factor.specs.declared.round_pivots.RoundPivots.{RoundPivots}
use Rattle.pluq_factor.proofs.Factoring.{staged_empty, staged_none}
use Rattle.pluq_factor.proofs.round_pivots.take_round.Goals as goal

pub returns-then-rounds-eq0 : goal.returns-then-rounds-eq0
returns-then-rounds-eq0 g c = λ ps.
    let R = c.args.rows.now in
    subst (λ n. Staged R.modulus R.matrix c.args.workers n ps) (sym c.if-rounds-eq0.true) (staged_none R.modulus R.matrix c.args.workers ps)

-- what one round takes, if there is to be one
one_of : (R T : ResidueMatrix) (workers rounds : ℕ) → T ≡ R → IsMatrix R.modulus R.matrix → 0 < rounds → (o : Option RoundPivots) → MatchOption o (Selected T.matrix workers []) (IsRoundTaken T workers) →
    MatchOption o (AreAnyStaged R workers rounds) (λ round. (0 < rounds) × IsRoundTaken R workers round)
one_of R T workers rounds same m some None none = λ ps. staged_empty m (subst (λ (S : ResidueMatrix). Selected S.matrix workers []) same none) rounds ps
one_of R T workers rounds same m some (Some round) taken = (some, subst (λ (S : ResidueMatrix). IsRoundTaken S workers round) same taken)

pub returns : goal.returns
returns g c = IfOk-weaker c.round_by.result _ _
    (λ o told. one_of c.args.rows.now c.in_ok-triangle.triangle.rows c.args.workers c.args.rounds c.in_ok-triangle.ensures.rows c.is_sound.ensures.entries (omega (arith, c.if-rounds-eq0.false)) o told) c.round_by.ensures
