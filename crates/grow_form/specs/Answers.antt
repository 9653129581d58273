-- What the lines of a script are answered (this project's format).
use Rattle.std.specs.Prelude.{◌≡◌, ◌↔◌, Bool, true, Option, None, Some}
use Rattle.residue_words.specs.Matrix.{IsCombination, row}
use Rattle.residue_words.specs.Residues.{IsPrime}
use Rattle.row_space.specs.Echelon.{HasRank}
use Rattle.sparse_rows.specs.Rows.{ResidueMatrix}
use Rattle.grow_form.specs.declared.answering.Answer.{Answer}
use Rattle.grow_form.specs.declared.answering.Answer.TheVariants as answer
use Rattle.grow_form.specs.declared.script.ScriptLine.{ScriptLine}
use Rattle.grow_form.specs.declared.script.ScriptLine.TheVariants.{Append, Rank, Form, Contains, End}
use Rattle.grow_form.specs.Growing.{AppendsRow, AreRowsOfForm}

-- one row of the width and the modulus of others
pub record IsRowFor (grow r : ResidueMatrix) : Type 0 where
  pub modulus : r.modulus ≡ grow.modulus
  pub width : r.matrix.width ≡ grow.matrix.width
  pub height : r.matrix.height ≡ 1

-- the row of a line, if it has one, fits the rows
abbrev pub FitsRows : ResidueMatrix → ScriptLine → Type 0
FitsRows grow (Append r) = IsRowFor grow r
FitsRows grow (Contains r) = IsRowFor grow r
FitsRows grow line = Unit {0}

-- the answer to a line behind these rows, and the rows behind it
abbrev pub AnswersOfScript : ResidueMatrix → ResidueMatrix → ScriptLine → Option Answer → Type 0
AnswersOfScript old new (Append r) None = (rose : Bool) × AppendsRow old new (row r.matrix 0) rose
AnswersOfScript old new Rank (Some (answer.Rank r)) =
    (new ≡ old) × (IsPrime old.modulus → HasRank old.modulus old.matrix r)
AnswersOfScript old new Form (Some (answer.Form E)) = (new ≡ old) × AreRowsOfForm old E
AnswersOfScript old new (Contains r) (Some (answer.Contains found)) =
    (new ≡ old) × ((found ≡ true) ↔ IsCombination old.modulus old.matrix (row r.matrix 0))
AnswersOfScript old new End None = new ≡ old
AnswersOfScript old new line said = ⊥
