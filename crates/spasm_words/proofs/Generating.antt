-- Entries that are generated one after the other.
use Rattle.std.proofs.Common.{ℕ, ◌≡◌, ◌+◌, ◌/◌, ◌^◌, List, [], ◌∷◌, ◌++◌, map, refl, sym, ap, ap₂, ◌∙◌, arith, add-one}
use Rattle.std.specs.List.{flat_map, range_with_len}
use Rattle.std.proofs.lemmas.List.{append-nil, append_assoc, map-id}
use Rattle.std.proofs.lemmas.List.FromFn.{map-range_with_len_more}
use Rattle.std.proofs.lemmas.Grind.{flat_map-append}
use Rattle.sparse_rows.specs.Rows.{Building, Triple}
use Rattle.spasm_words.specs.Generator.{AreGeneratedSo, generated_entry, generated_row, next_state, random_number, state_after}
use Rattle.spasm_words.specs.declared.generator.Generator.{Generator}

-- no step
pub state_none : (seed : ℕ) → seed ≡ state_after seed 0
unfolding state_after
state_none seed = refl

-- a step, and the number that it gives
pub stepped : (seed n old new : ℕ) → old ≡ state_after seed n → new ≡ next_state old → new ≡ state_after seed (n + 1)
unfolding state_after
stepped seed n old new is step = step ∙ ap next_state is ∙ rw (add-one n) refl

pub number_at : (seed n old new number : ℕ) → old ≡ state_after seed n → new ≡ next_state old → number ≡ new / 2 ^ 33 → number ≡ random_number seed n
number_at seed n old new number is step gives = gives ∙ ap (λ x. x / 2 ^ 33) (stepped seed n old new is step)

-- the first t entries of row i are pushed behind what was there
abbrev pub AreDrawn : ℕ → Generator → ℕ → ℕ → Building → Building → Type 0
AreDrawn p g i t old new = new ≡ record old { pushed = old.pushed ++ map (generated_entry p g i) (range_with_len 0 t) }

pub drawn_more : (p : ℕ) (g : Generator) (i t j v : ℕ) (old b new : Building) → AreDrawn p g i t old b → j ≡ (generated_entry p g i t).j → v ≡ (generated_entry p g i t).v
    → new ≡ record b { pushed = b.pushed ++ record { i = i; j = j; v = v } ∷ [] } → AreDrawn p g i (t + 1) old new
drawn_more p g i t j v old b new is column value push =
    let entries : ℕ → List Triple = λ n. map (generated_entry p g i) (range_with_len 0 n) in
    let last : Triple = record { i = i; j = j; v = v } in
    let same : last ≡ generated_entry p g i t = ap₂ (λ (x y : ℕ). record { i = i; j = x; v = y }) column value in
    push ∙ ap (λ (c : Building). record c { pushed = c.pushed ++ last ∷ [] }) is
    ∙ ap (λ (l : List Triple). record old { pushed = l }) (append_assoc old.pushed (entries t) (last ∷ []) ∙ ap (λ (e : Triple). old.pushed ++ (entries t ++ e ∷ [])) same
    ∙ ap (λ (l : List Triple). old.pushed ++ l) (sym (map-range_with_len_more (generated_entry p g i) 0 t t (omega arith))))

-- rows before i
range_more : (n : ℕ) → range_with_len 0 (n + 1) ≡ range_with_len 0 n ++ n ∷ []
range_more n = sym (map-id (range_with_len 0 (n + 1))) ∙ map-range_with_len_more (λ i. i) 0 n n (omega arith) ∙ ap (λ xs. xs ++ n ∷ []) (map-id (range_with_len 0 n))

pub rows_drawn : (p : ℕ) (g : Generator) (i : ℕ) (start b new : Building) → b ≡ record start { pushed = flat_map (generated_row p g) (range_with_len 0 i) }
    → new ≡ record b { pushed = b.pushed ++ generated_row p g i } → new ≡ record start { pushed = flat_map (generated_row p g) (range_with_len 0 (i + 1)) }
rows_drawn p g i start b new is push =
    let rows : ℕ → List Triple = λ n. flat_map (generated_row p g) (range_with_len 0 n) in
    let more : rows (i + 1) ≡ rows i ++ generated_row p g i =
    ap (flat_map (generated_row p g)) (range_more i) ∙ flat_map-append (generated_row p g) (range_with_len 0 i) (i ∷ []) ∙ ap (λ l. rows i ++ l) (append-nil (generated_row p g i)) in
    push ∙ ap (λ (c : Building). record c { pushed = c.pushed ++ generated_row p g i }) is ∙ ap (λ (l : List Triple). record start { pushed = l }) (sym more)

-- the definitions, worked
pub generated_so : AreGeneratedSo
unfolding state_after
generated_so = record { first = refl; other = refl; parities = refl; matrix = refl }
