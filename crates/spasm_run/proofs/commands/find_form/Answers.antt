-- The echelon form is the answer.
use Rattle.std.proofs.Common.{arith, refl}
use Rattle.spasm_run.proofs.Shapes.{at_most_square}
use Rattle.spasm_run.proofs.commands.find_form.Goals as goal

pub returns : goal.returns
returns g c =
    let A = c.args.a.now in
    let form = c.in_ok-form in record {
      small = (omega (arith, form.ensures.short, c.requires.width), omega (arith, form.ensures.width, c.requires.width));
      fits = refl;
      ends = refl;
      shape = (form.form.matrix, at_most_square A.modulus A.matrix.width form.form form.ensures.modulus form.ensures.sound form.ensures.width form.ensures.short, refl);
      answers = λ prime. (form.form.matrix, form.ensures.rref prime, refl);
    }
