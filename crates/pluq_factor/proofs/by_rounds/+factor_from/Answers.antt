use Rattle.std.proofs.Common.{◌<◌, ◌-◌, Option, arith, subst}
use Rattle.std.proofs.lemmas.Result.{IfOk-weaker}
use Rattle.std.specs.Option.{MatchOption}
use Rattle.pluq_factor.specs.Staged.{AreAnyStaged}
use Rattle.pluq_factor.specs.RoundPivots.{IsRoundTaken}
use Rattle.pluq_factor.specs.declared.round_pivots.RoundPivots.{RoundPivots}
use Rattle.pluq_factor.proofs.Factoring.{finished, last_round, together, whole_factored, whole_staged}
use Rattle.pluq_factor.proofs.by_rounds.+factor_from.Goals as goal

pub returns-in_default-clause-factors : goal.returns-in_default-clause-factors
returns-in_default-clause-factors g t c = IfOk-weaker c.finish.result _ _ (λ f factored. finished factored) c.finish.ensures

pub returns-in_default-clause-staged : goal.returns-in_default-clause-staged
returns-in_default-clause-staged g t c =
    let R = c.args.rows in
    let any = subst (λ (o : Option RoundPivots). MatchOption o (AreAnyStaged R c.args.workers c.args.rounds) (λ round. (0 < c.args.rounds) × IsRoundTaken R c.args.workers round)) c.in_default.is c.in_ok-round.ensures in
    IfOk-weaker c.finish.result _ _ (λ f factored prime. any f.pivots) c.finish.ensures

pub overflow_sub-rounds : goal.overflow_sub-rounds
overflow_sub-rounds g t c =
    let R = c.args.rows in
    let taken = subst (λ (o : Option RoundPivots). MatchOption o (AreAnyStaged R c.args.workers c.args.rounds) (λ round. (0 < c.args.rounds) × IsRoundTaken R c.args.workers round)) c.in-Some.is c.in_ok-round.ensures in
    omega (arith, taken.0)

pub with_below-requires : goal.with_below-requires
with_below-requires g t c =
    let R = c.args.rows in
    let taken = subst (λ (o : Option RoundPivots). MatchOption o (AreAnyStaged R c.args.workers c.args.rounds) (λ round. (0 < c.args.rounds) × IsRoundTaken R c.args.workers round)) c.in-Some.is c.in_ok-round.ensures in
    together taken.1 c.parted-top.ensures.top c.parted-top.ensures.rest c.in_ok-below.ensures.factors

pub returns-clause-factors : goal.returns-clause-factors
returns-clause-factors g t c =
    let R = c.args.rows in
    let taken = subst (λ (o : Option RoundPivots). MatchOption o (AreAnyStaged R c.args.workers c.args.rounds) (λ round. (0 < c.args.rounds) × IsRoundTaken R c.args.workers round)) c.in-Some.is c.in_ok-round.ensures in
    IfOk-weaker c.with_below.result _ _
    (λ f joined. whole_factored (c.args.rounds - 1) taken.1 c.parted-top.ensures.top c.parted-top.ensures.rest c.in_ok-below.ensures.factors c.in_ok-below.ensures.staged joined.0 joined.1) c.with_below.ensures

pub returns-clause-staged : goal.returns-clause-staged
returns-clause-staged g t c =
    let R = c.args.rows in
    let taken = subst (λ (o : Option RoundPivots). MatchOption o (AreAnyStaged R c.args.workers c.args.rounds) (λ round. (0 < c.args.rounds) × IsRoundTaken R c.args.workers round)) c.in-Some.is c.in_ok-round.ensures in
    IfOk-weaker c.with_below.result _ _
    (λ f joined. whole_staged (c.args.rounds - 1) taken.1 c.parted-top.ensures.top c.parted-top.ensures.rest c.in_ok-below.ensures.factors c.in_ok-below.ensures.staged joined.0 joined.1
    (last_round c.args.rounds (omega (arith, taken.0)))) c.with_below.ensures
