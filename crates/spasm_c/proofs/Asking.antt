-- What a call of the library tells of the matrix that was made of arrays.
use Rattle.std.proofs.Common.{◌≡◌, ◌≤◌, ◌∙◌, ℕ, IfSome, Option, Some, ap, subst}
use Rattle.residue_words.specs.Matrix.{IsMatrix}
use Rattle.sparse_rows.specs.Rows.{ResidueMatrix}
use Rattle.spasm_c.specs.Asked.{HasSizes}
use Rattle.spasm_c.specs.Given.{IsSoundInput, given_matrix}
use Rattle.spasm_c.specs.declared.given.Given.{Given}

-- the arrays' matrix, with the modulus
abbrev pub given_rows : Given → ResidueMatrix
given_rows a = record { modulus = a.modulus; matrix = given_matrix a }

-- it is what was found
pub made_is : (a : Given) {found : Option ResidueMatrix} {made : ResidueMatrix} → found ≡ Some made → IfSome found (λ m. m ≡ given_rows a) → made ≡ given_rows a
made_is a is told = subst (λ o. IfSome o (λ m. m ≡ given_rows a)) is told

pub made_sound : (a : Given) {found : Option ResidueMatrix} {made : ResidueMatrix} → found ≡ Some made → IfSome found (λ _. IsSoundInput a) → IsSoundInput a
made_sound a is told = subst (λ o. IfSome o (λ _. IsSoundInput a)) is told

-- so sizes that are told of it hold of the arrays
pub made_sizes : (size : ResidueMatrix → ℕ) {made from E : ResidueMatrix} → made ≡ from → E.modulus ≡ made.modulus → IsMatrix E.modulus E.matrix →
    E.matrix.width ≡ size made → E.matrix.height ≤ size made → HasSizes from.modulus (size from) E
made_sizes size {made} {from} {E} is modulus sound width short = record {
  residues = subst (λ p. IsMatrix p E.matrix) (modulus ∙ ap (λ (m : ResidueMatrix). m.modulus) is) sound;
  width = width ∙ ap size is;
  height = subst (λ m. E.matrix.height ≤ size m) is short;
}
