-- The words behind a program's name, taken one after another.
use Rattle.std.proofs.Common.{◌≡◌, List, [], ◌∷◌, Option, None, Some, String, Global, drop, length, refl, sym, ap, ◌∙◌, arith}
use Rattle.std.specs.declared.vec.IntoIter.{IntoIter}
use Rattle.std.specs.Vec.Iter.{into_iter_items, into_iter_len, into_iter_steps}
use Rattle.std_edge.specs.Edge.{words_behind}

nothing_left : {X : Type 0} (l : List X) → length l ≡ 0 → l ≡ []
nothing_left [] h = refl
nothing_left (x ∷ xs) h = absurd (omega arith)

pub none_left : (args : IntoIter (String Global) Global) → into_iter_len args ≡ 0 → into_iter_items args ≡ []
none_left args none = nothing_left _ (sym args.rest.ok.0 ∙ none)

-- the name is the first
pub behind_first : (args rest : IntoIter (String Global) Global) (name : Option (String Global)) → into_iter_steps args name rest →
    into_iter_items rest ≡ words_behind args
behind_first args rest None steps = none_left rest steps.1 ∙ sym (ap (drop 1) (none_left args steps.0))
behind_first args rest (Some name) steps = sym (ap (drop 1) steps.0)
