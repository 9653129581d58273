use Rattle.std.proofs.Common.{◌≡◌, IfSome, rules, subst}
use Rattle.residue_words.specs.Residues.{IsPrime}
use Rattle.sparse_rows.specs.Rows.{ResidueMatrix}
use Rattle.kernel_solve.specs.Column.{column}
use Rattle.spasm_lib.specs.Solved.{HasSolutionShape, IsSolved}
use Rattle.spasm_c.specs.Asked.{IsSystem}
use Rattle.spasm_c.specs.Given.{given_matrix}
use Rattle.spasm_c.proofs.asked.solution_of.Goals as goal

pub returns-clause-some : goal.returns-clause-some
returns-clause-some c =
    let made : ResidueMatrix = record { modulus = c.args.a.now.modulus; matrix = given_matrix c.args.a.now } in
    let side : ResidueMatrix = record { modulus = c.args.b.now.modulus; matrix = given_matrix c.args.b.now } in
    let is : c.in-Some.matrix ≡ made = subst (λ o. IfSome o (λ m. m ≡ made)) c.in-Some.is c.in_ok-matrix.ensures.some in
    let side_is : c.in-Some-2.side ≡ side = subst (λ o. IfSome o (λ m. m ≡ side)) c.in-Some-2.is c.in_ok-side.ensures.some in
    let sound : IsSystem c.args.a.now c.args.b.now = search rules in
    let told = c.in_ok-found.ensures in
    record {
      sound = sound;
      shape = subst (λ (m : ResidueMatrix). HasSolutionShape m.modulus m.matrix c.in_ok-found.found) is told.shape;
      solved = subst (λ (m : ResidueMatrix). IsPrime made.modulus → IsSolved made.modulus made.matrix (column m.matrix) c.in_ok-found.found) side_is
          (subst (λ (m : ResidueMatrix). IsPrime m.modulus → IsSolved m.modulus m.matrix (column c.in-Some-2.side.matrix) c.in_ok-found.found) is told.solved);
    }
