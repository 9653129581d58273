use Rattle.std.proofs.Common.{arith, refl, subst, sym}
use Rattle.residue_words.specs.Residues.{IsPrime}
use Rattle.row_space.specs.Echelon.{HasRank}
use Rattle.row_space.proofs.Rows.{rank_of_independent}
use Rattle.sparse_rows.specs.Rows.{ResidueMatrix}
use Rattle.grow_form.specs.Numbering.{number_of, seen_matrix}
use Rattle.grow_form.proofs.Growing.{seen_independent}
use Rattle.grow_form.proofs.Moved.{moved_matrix}
use Rattle.std.proofs.Common.{length}
use Rattle.residue_words.specs.Matrix.{Matrix, IsMatrix}
use Rattle.grow_form.proofs.grow.Grow.rank.Goals as goal

pub returns-clause-rank : goal.returns-clause-rank
returns-clause-rank c =
    subst (λ (g : ResidueMatrix). IsPrime g.modulus → HasRank g.modulus g.matrix c.height.result) c.self.view_is
    (λ prime.
    let A : Matrix = seen_matrix c.self.inside.numbering c.self.inside.kept.matrix in
    let m : IsMatrix c.self.inside.kept.modulus A =
    moved_matrix (length c.self.inside.numbering.arrivals) (number_of c.self.inside.numbering) (omega (arith, c.height.ensures.sound.two_or_more)) c.height.ensures.sound.matrix in
    subst (HasRank c.self.inside.kept.modulus A) (sym c.height.ensures.value)
    (rank_of_independent c.rref_exists.ensures c.span_fixes_height.ensures c.self.inside.kept.modulus A A prime
    m m refl (seen_independent c.height.ensures.sound c.is_sound.ensures c.self.invariant.0) (λ v. ((λ x. x), (λ x. x)))))
