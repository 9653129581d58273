-- A pair that is tried on the list of a walk.
use Rattle.std.specs.Prelude.{◌≡◌, Bool, true, false, [], ◌∷◌, ◌++◌}
use Rattle.residue_words.specs.declared.plain.Pair.{Pair}
use Rattle.pivot_table.specs.History.{Alive}
use Rattle.pivot_walks.specs.Walked.{Walked}

-- the pair is alive in the list, and was appended; or it isn't, and the walk is as it was
abbrev pub TriesPair : Walked → Pair → Bool → Walked → Type 0
TriesPair old q true new =
    Alive old.rows.matrix old.pairs q.row q.col × (new ≡ record old { pairs = old.pairs ++ q ∷ [] })
TriesPair old q false new = (¬ Alive old.rows.matrix old.pairs q.row q.col) × (new ≡ old)
