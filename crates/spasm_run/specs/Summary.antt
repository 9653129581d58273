-- What is told of an echelon form (this project's own).
use Rattle.std.specs.Prelude.{◌+◌, ◌*◌, ◌%◌, ℕ, List, [], ◌∷◌, ◌++◌, codes}
use Rattle.std.specs.Fmt.{decimal}
use Rattle.residue_words.specs.Matrix.{Matrix, entry}
use Rattle.residue_words.specs.Residues.{sum_below}
use Rattle.sparse_rows.specs.Rows.{entry_count}

-- the sum of i j v over the entries v of A, their rows i and columns j counted from 1, modulo p
abbrev pub place_sum : ℕ → Matrix → ℕ
place_sum p A = sum_below A.height (λ i. sum_below A.width (λ j. (i + 1) * (j + 1) * entry A i j)) % p

-- a line of a title and a number
abbrev pub numbered_line : List ℕ → ℕ → List ℕ
numbered_line title n = title ++ decimal n ++ 10 ∷ []

-- the lines that tell a rank, a number of entries and a sum
abbrev pub summary_text : ℕ → ℕ → ℕ → List ℕ
summary_text rank entries sum =
    numbered_line (codes "rank ") rank ++ numbered_line (codes "entries ") entries
    ++ numbered_line (codes "sum ") sum

-- what is told of an echelon form
abbrev pub summary_of : ℕ → Matrix → List ℕ
summary_of p E = summary_text E.height (entry_count E) (place_sum p E)
