-- A row that is built of values at columns that are renamed.
use Rattle.std.proofs.Common.{ℕ, zero, suc, ◌≡◌, ◌≢◌, ◌+◌, ◌<◌, ◌≤◌, List, [], ◌∷◌, ◌++◌, cond, length, map, take, slice_index, eqb, inl, inr, sym, refl, ap, ap₂, ◌∙◌, arith}
use Rattle.std.specs.List.{All}
use Rattle.std.proofs.lemmas.Bool.{cases_eq, cond-false, cond-true, eq-eqb, ne_eqb}
use Rattle.std.proofs.lemmas.List.{length-map, length-take-le, map_more, take_all, take_more}
use Rattle.sparse_rows.specs.Rows.{FitsMatrix, row_triples, sum_at, triple}
use Rattle.sparse_rows.specs.Stored.{entry_at}
use Rattle.sparse_rows.proofs.FilledRows.{row_triples_more}
use Rattle.sparse_rows.proofs.Spread.{entry_head, entry_tail}

-- the values at the first k columns, renamed
abbrev pub renamed_to : (ℕ → ℕ) → List ℕ → List ℕ → ℕ → List (ℕ × ℕ × ℕ)
renamed_to f cols vals k = row_triples 0 (map f (take k cols)) (take k vals)

pub renamed_more : (f : ℕ → ℕ) (cols vals : List ℕ) (k : ℕ) → length cols ≡ length vals → k < length cols →
    renamed_to f cols vals k ++ (0, f (slice_index cols k), slice_index vals k) ∷ [] ≡ renamed_to f cols vals (k + 1)
renamed_more f cols vals k long l =
    sym (row_triples_more 0 (map f (take k cols)) (take k vals) (f (slice_index cols k)) (slice_index vals k)
    (length-map (take k cols) f ∙ length-take-le k cols (omega arith) ∙ sym (length-take-le k vals (omega (arith, long)))))
    ∙ ap₂ (row_triples 0) (sym (map_more f cols k 0 l)) (sym (take_more vals k 0 (omega (arith, long))))

-- they lie inside a row
pub renamed_fit : (p n : ℕ) (cs vs : List ℕ) → length cs ≡ length vs → ((k : ℕ) → k < length cs → slice_index cs k < n) → ((k : ℕ) → k < length vs → slice_index vs k < p) → All (FitsMatrix 1 n p) (row_triples 0 cs vs)
renamed_fit p n [] vs long low small k d l = absurd (omega arith)
renamed_fit p n (c ∷ cs) [] long low small k d l = absurd (omega arith)
renamed_fit p n (c ∷ cs) (v ∷ vs) long low small zero d l = record { row = omega arith; column = low 0 (omega arith); residue = small 0 (omega arith) }
renamed_fit p n (c ∷ cs) (v ∷ vs) long low small (suc k) d l =
    renamed_fit p n cs vs (omega (arith, long)) (λ k l. low (suc k) (omega arith)) (λ k l. small (suc k) (omega arith)) k d (omega arith)

-- at no other column is a value
pub renamed_away : (f : ℕ → ℕ) (cs vs : List ℕ) (j : ℕ) → ((k : ℕ) → k < length cs → f (slice_index cs k) ≢ j) → sum_at 0 j (map triple (row_triples 0 (map f cs) vs)) ≡ 0
renamed_away f [] vs j none = refl
renamed_away f (c ∷ cs) [] j none = refl
renamed_away f (c ∷ cs) (v ∷ vs) j none =
    let here : cond (eqb (f c) j) v 0 ≡ 0 = cond-false (eqb (f c) j) v 0 (ne_eqb (f c) j (none 0 (omega arith))) in
    let rest = renamed_away f cs vs j (λ k l. none (suc k) (omega arith)) in
    omega (arith, here, rest)

-- at the new name of a column stands what stood there, where names tell the columns apart
pub renamed_here : (f : ℕ → ℕ) (cs vs : List ℕ) (j : ℕ) → ((k t : ℕ) → k < t → t < length cs → slice_index cs k < slice_index cs t) →
    ((k : ℕ) → k < length cs → f (slice_index cs k) ≡ f j → slice_index cs k ≡ j) → sum_at 0 (f j) (map triple (row_triples 0 (map f cs) vs)) ≡ entry_at cs vs j
renamed_here f [] vs j rising apart = refl
renamed_here f (c ∷ cs) [] j rising apart = refl
renamed_here f (c ∷ cs) (v ∷ vs) j rising apart = elim (cases_eq c j) [
  | inl e ↦
      let here : cond (eqb (f c) (f j)) v 0 ≡ v = cond-true (eqb (f c) (f j)) v 0 (eq-eqb (f c) (f j) (ap f e)) in
      let rest = renamed_away f cs vs (f j) (λ k l same.
      let less : c < slice_index cs k = rising 0 (suc k) (omega arith) (omega arith) in
      let equal : slice_index cs k ≡ j = apart (suc k) (omega arith) same in
      omega (arith, e, less, equal)) in
      let last : entry_at (c ∷ cs) (v ∷ vs) j ≡ v = ap (entry_at (c ∷ cs) (v ∷ vs)) (sym e) ∙ entry_head c cs v vs in
      omega (arith, here, rest, last)
  | inr d ↦
      let here : cond (eqb (f c) (f j)) v 0 ≡ 0 = cond-false (eqb (f c) (f j)) v 0 (ne_eqb (f c) (f j) (λ same. d (apart 0 (omega arith) same))) in
      let rest = renamed_here f cs vs j (λ k t m l. rising (suc k) (suc t) (omega arith) (omega arith)) (λ k l same. apart (suc k) (omega arith) same) in
      let tail : entry_at (c ∷ cs) (v ∷ vs) j ≡ entry_at cs vs j = entry_tail c cs v vs j d in
      omega (arith, here, rest, tail)
]

-- all of them
pub renamed_all : (f : ℕ → ℕ) (cols vals : List ℕ) (k : ℕ) → length cols ≡ length vals → length cols ≤ k → renamed_to f cols vals k ≡ row_triples 0 (map f cols) vals
renamed_all f cols vals k long all = ap₂ (λ cs vs. row_triples 0 (map f cs) vs) (take_all k cols all) (take_all k vals (omega (arith, long)))
