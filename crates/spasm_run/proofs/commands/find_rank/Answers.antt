-- The rank is the answer.
use Rattle.std.proofs.Common.{ap, arith, refl}
use Rattle.grow_form.specs.Scripts.{rank_line}
use Rattle.spasm_run.proofs.commands.find_rank.Goals as goal

pub returns : goal.returns
returns g c =
    let rank = c.in_ok-rank in
    let same = c.from.ensures in record {
      small = tt;
      fits = refl;
      ends = refl;
      shape = (c.from.result, omega (arith, same, rank.ensures.at_most_height), omega (arith, same, rank.ensures.at_most_width), refl);
      answers = λ prime. (rank.rank, rank.ensures.rank prime, ap rank_line same);
    }
