use Rattle.std.proofs.Common.{Option, ◌+◌, arith, subst, sym}
use Rattle.std.specs.Option.{IfSome}
use Rattle.row_space.specs.Echelon.{HasRank}
use Rattle.pluq_factor.specs.Counted.{IsCountedRound}
use Rattle.pluq_factor.specs.declared.counted_round.CountedRound.{CountedRound}
use Rattle.pluq_factor.proofs.Ranking.{bounded_kept, counted_few, rank_kept, ranked_basis, ranked_most, ranked_stored}
use Rattle.pluq_factor.proofs.rank_by_rounds.+rank_from.Goals as goal

pub with_count-requires : goal.with_count-requires
with_count-requires g t c =
    let few = counted_few (subst (λ (o : Option CountedRound). IfSome o (IsCountedRound c.args.matrix.rows)) c.in-Some.is c.in_ok-round.ensures) in
    omega (arith, few.0, few.1, c.min-most.ensures, c.height.ensures.value, c.width.ensures.value)

pub with_count-requires-in-Stored : goal.with_count-requires-in-Stored
with_count-requires-in-Stored g t c =
    let few = counted_few (subst (λ (o : Option CountedRound). IfSome o (IsCountedRound c.args.matrix.rows)) c.in-Some.is c.in_ok-round.ensures) in
    omega (arith, few.0, few.1, c.min-most.ensures, c.height.ensures.value, c.width.ensures.value)

pub returns-in-Basis : goal.returns-in-Basis
returns-in-Basis g t c =
    let R = c.args.matrix.rows in
    let round = subst (λ (o : Option CountedRound). IfSome o (IsCountedRound R)) c.in-Some.is c.in_ok-round.ensures in
    ranked_most {R = R} {most = c.min-most.result} {total = c.with_count.result} c.height-in-Basis.result
    (λ prime. subst (λ r. HasRank R.modulus R.matrix (c.in-Some.round.count + r)) (sym c.height-in-Basis.ensures.value) (ranked_basis round c.in-Basis.is prime)) (counted_few round)
    (omega (arith, c.min-most.ensures, c.height.ensures.value, c.width.ensures.value)) c.with_count.ensures

pub returns-in_ok-below-in-Stored : goal.returns-in_ok-below-in-Stored
returns-in_ok-below-in-Stored g t c =
    let R = c.args.matrix.rows in
    let round = subst (λ (o : Option CountedRound). IfSome o (IsCountedRound R)) c.in-Some.is c.in_ok-round.ensures in
    ranked_most {R = R} {most = c.min-most.result} {total = c.with_count-in-Stored.result} c.in_ok-below-in-Stored.below
    (ranked_stored c.round_rank.ensures round c.in-Stored.is (rank_kept c.in_ok-rest-in-Stored.ensures c.in_ok-below-in-Stored.ensures.rank)) (counted_few round)
    (omega (arith, c.min-most.ensures, c.height.ensures.value, c.width.ensures.value)) c.with_count-in-Stored.ensures

pub returns-then-manner : goal.returns-then-manner
returns-then-manner g t c = bounded_kept c.in_ok-again.ensures c.in_ok-rank.ensures
