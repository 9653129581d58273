-- The kernel basis of the transposed matrix is the answer.
use Rattle.std.proofs.Common.{arith, refl}
use Rattle.spasm_run.proofs.Shapes.{at_most_square}
use Rattle.spasm_run.proofs.commands.find_left_kernel.Goals as goal

pub returns : goal.returns
returns g c =
    let A = c.args.a.now in
    let basis = c.in_ok-basis in record {
      small = (omega (arith, basis.ensures.short, c.requires.height), omega (arith, basis.ensures.width, c.requires.height));
      fits = refl;
      ends = refl;
      shape = (basis.basis.matrix, at_most_square A.modulus A.matrix.height basis.basis basis.ensures.modulus basis.ensures.sound basis.ensures.width basis.ensures.short, refl);
      answers = λ prime. (basis.basis.matrix, basis.ensures.kernel prime, refl);
    }
