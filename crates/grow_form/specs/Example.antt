-- A script of four lines modulo 7 in two columns, and its answers.
use Rattle.std.specs.Prelude.{ℕ, List, [], ◌∷◌, ◌++◌, codes}
use Rattle.grow_form.specs.Scripts.{AnswersLines, rank_line}

-- the words of `row 1 3`, `rank`, `in 1 1`, `in 2 1` and `end`
abbrev pub script_example : List (List (List ℕ))
script_example =
    (codes "row" ∷ codes "1" ∷ codes "3" ∷ [])
    ∷ (codes "rank" ∷ [])
    ∷ (codes "in" ∷ codes "1" ∷ codes "1" ∷ [])
    ∷ (codes "in" ∷ codes "2" ∷ codes "1" ∷ [])
    ∷ (codes "end" ∷ [])
    ∷ []

-- behind no row it is answered the rank 1, that (1, 0) is a multiple of (3, 0), and that (0, 1) is none
abbrev pub IsWorkedScript : Type 0
IsWorkedScript = AnswersLines 7 (record { height = 0; width = 2; rows = [] }) script_example
    (rank_line 1 ++ codes "yes\nno\n")
