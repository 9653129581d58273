-- What the lines of a script ask for (this project's format).
use Rattle.std.specs.Prelude.{◌≡◌, ◌+◌, ◌%◌, ◌==◌, true, if◌then◌else◌, ℕ, List, [], ◌∷◌, codes}
use Rattle.std.specs.Str.{bytes_eq}
use Rattle.sms_text.specs.Numbers.{value, value_modulo}
use Rattle.sms_text.specs.OuterLines.{are_terms, is_script}
use Rattle.sparse_rows.specs.Rows.{ResidueMatrix, matrix_by}
use Rattle.grow_form.specs.declared.script.ScriptLine.{ScriptLine}
use Rattle.grow_form.specs.declared.script.ScriptLine.TheVariants.{Append, Rank, Form, Contains, End}

-- the words behind the first
abbrev pub terms_of : List (List ℕ) → List (List ℕ)
terms_of [] = []
terms_of (w ∷ ws) = ws

-- the sum of the values that `c v c v ..` gives for column j; j counts from 0, the words from 1
abbrev pub term_sum : ℕ → ℕ → List (List ℕ) → ℕ
term_sum p j [] = 0
term_sum p j (c ∷ []) = 0
term_sum p j (c ∷ v ∷ ws) = (if value c == j + 1 then value_modulo p v else 0) + term_sum p j ws

-- the row of n entries modulo p that these words give, as a matrix
abbrev pub row_of_terms : ℕ → ℕ → List (List ℕ) → ResidueMatrix
row_of_terms p n ws = record { modulus = p; matrix = matrix_by 1 n (λ i j. term_sum p j ws % p) }

-- the words are columns and values, and this is their row
pub record IsTermsRow (p n : ℕ) (ws : List (List ℕ)) (row : ResidueMatrix) : Type 0 where
  pub test : are_terms p n ws ≡ true
  pub is_row : row ≡ row_of_terms p n ws

-- what a line of these words asks for
abbrev pub script_line_of : ℕ → ℕ → List (List ℕ) → ScriptLine
script_line_of p n [] = End
script_line_of p n (w ∷ ws) =
    if bytes_eq w (codes "row") then Append (row_of_terms p n ws) else
    if bytes_eq w (codes "in") then Contains (row_of_terms p n ws) else
    if bytes_eq w (codes "rank") then Rank else
    if bytes_eq w (codes "rref") then Form else End

-- the words are of a script line's form, and this is what they ask for
pub record IsScriptLine (p n : ℕ) (ws : List (List ℕ)) (line : ScriptLine) : Type 0 where
  pub test : is_script p n ws ≡ true
  pub meaning : line ≡ script_line_of p n ws
