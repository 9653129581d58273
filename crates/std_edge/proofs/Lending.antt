-- Words that are lent one after another.
use Rattle.std.proofs.Common.{ℕ, ◌≡◌, ◌+◌, ◌<◌, ◌≤◌, ◌++◌, List, [], ◌∷◌, String, Global, length, take, get_or, sym, ap, ap₂, ◌∙◌}
use Rattle.std.specs.Prelude.{map, string_bytes}
use Rattle.std.specs.Borrow.{Bor}
use Rattle.std.proofs.lemmas.List.{map-append, take_all, take_more}
use Rattle.std_edge.specs.Edge.{texts_of}

-- the bytes of each lent word
abbrev pub lent_texts : List (Bor (List ℕ)) → List (List ℕ)
lent_texts words = map (λ w. w.now) words

pub lent_more : (owned : List (String Global)) (k : ℕ) (word : String Global) (lent : Bor (List ℕ)) (words : List (Bor (List ℕ))) → k < length owned →
    word ≡ get_or owned k word → lent.now ≡ string_bytes word → lent_texts words ≡ texts_of (take k owned) → lent_texts (words ++ lent ∷ []) ≡ texts_of (take (k + 1) owned)
lent_more owned k word lent words inside is same before =
    map-append (λ w. w.now) words (lent ∷ [])
    ∙ ap₂ (λ a b. a ++ b ∷ []) before (same ∙ ap string_bytes is)
    ∙ sym (map-append string_bytes (take k owned) (get_or owned k word ∷ [])) ∙ ap texts_of (sym (take_more owned k word inside))

pub lent_all : (owned : List (String Global)) (k : ℕ) (words : List (Bor (List ℕ))) → length owned ≤ k → lent_texts words ≡ texts_of (take k owned) →
    lent_texts words ≡ texts_of owned
lent_all owned k words past before = before ∙ ap texts_of (take_all k owned past)
