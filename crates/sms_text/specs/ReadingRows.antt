-- Texts read as matrices.
use Rattle.std.specs.Prelude.{◌≡◌, ℕ, List, [], ◌∷◌, ◌++◌, Result}
use Rattle.sparse_rows.specs.Rows.{ResidueMatrix}
use Rattle.sms_text.specs.declared.kind.TextError.{TextError}
use Rattle.sms_text.specs.Text.{Due, Header, Item, Sizes, matrices, outer_lines}
use Rattle.sms_text.specs.Parts.{PartDid, wants}
use Rattle.sms_text.specs.Reading.{InputState}

-- a whole text of this one matrix, whatever items follow
pub record SaysRows (p : ℕ) (A : ResidueMatrix) (items : List Item) (due : List Due) : Type 0 where
  pub whole : due ≡ []
  pub sizes : (rest : List Item) × (items ≡ Sizes A.matrix.height A.matrix.width ∷ rest)
  pub matrix : (more : List Item) → matrices p (items ++ more) ≡ A.matrix ∷ matrices p more
  pub inside : (more : List Item) → outer_lines (items ++ more) ≡ outer_lines more
  pub modulus : A.modulus ≡ p

-- of a call that was to read a whole text as a matrix
abbrev pub RowsDid : ℕ → InputState → InputState → Result ResidueMatrix TextError → Type 0
RowsDid p old new result = PartDid (wants p (Header ∷ [])) (SaysRows p) old new result
