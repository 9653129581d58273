-- The kernel basis is the answer.
use Rattle.std.proofs.Common.{arith, refl}
use Rattle.spasm_run.proofs.Shapes.{at_most_square}
use Rattle.spasm_run.proofs.commands.find_kernel.Goals as goal

pub returns : goal.returns
returns g c =
    let A = c.args.a.now in
    let basis = c.in_ok-basis in record {
      small = (omega (arith, basis.ensures.short, c.requires.width), omega (arith, basis.ensures.width, c.requires.width));
      fits = refl;
      ends = refl;
      shape = (basis.basis.matrix, at_most_square A.modulus A.matrix.width basis.basis basis.ensures.modulus basis.ensures.sound basis.ensures.width basis.ensures.short, refl);
      answers = λ prime. (basis.basis.matrix, basis.ensures.kernel prime, refl);
    }
