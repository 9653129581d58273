use Rattle.std.proofs.Common.{◌≡◌, subst}
use Rattle.residue_words.specs.Residues.{IsPrime}
use Rattle.row_space.specs.Kernel.{IsKernel}
use Rattle.sparse_rows.specs.Rows.{ResidueMatrix, transposed}
use Rattle.spasm_c.proofs.Asking.{given_rows, made_is, made_sizes, made_sound}
use Rattle.spasm_c.proofs.asked.left_kernel_of.Goals as goal

pub returns-clause-some : goal.returns-clause-some
returns-clause-some c =
    let is : c.in-Some.matrix ≡ given_rows c.args.a.now = made_is c.args.a.now c.in-Some.is c.in_ok-matrix.ensures.some in
    let told = c.in_ok-found.ensures in
    record {
      sound = made_sound c.args.a.now c.in-Some.is c.in_ok-matrix.ensures.sound;
      sizes = made_sizes (λ m. m.matrix.height) is told.modulus told.sound told.width told.short;
      kernel = subst (λ (m : ResidueMatrix). IsPrime m.modulus → IsKernel m.modulus (transposed m.matrix) c.in_ok-found.found.matrix) is told.kernel;
    }
