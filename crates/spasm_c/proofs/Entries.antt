-- Arrays place by place.
use Rattle.std.proofs.Common.{◌≡◌, ◌<◌, ◌≤◌, ◌∙◌, ℕ, zero, suc, List, [], ◌∷◌, length, take, get_or, slice_index, ap, arith, refl, sym}
use Rattle.std.proofs.lemmas.List.{get_or-take, length-take-le}
use Rattle.spasm_c.specs.Given.{entries}

-- what three arrays have at one place
abbrev pub at : List ℕ → List ℕ → List ℕ → ℕ → ℕ × ℕ × ℕ
at rows columns values k = (slice_index rows k, slice_index columns k, slice_index values k)

pub length_entries : (rows columns values : List ℕ) → length columns ≡ length rows → length values ≡ length rows → length (entries rows columns values) ≡ length rows
length_entries [] columns values c v = refl
length_entries (i ∷ rows) [] values c v = absurd (omega (arith, c))
length_entries (i ∷ rows) (j ∷ columns) [] c v = absurd (omega (arith, v))
length_entries (i ∷ rows) (j ∷ columns) (w ∷ values) c v = omega (arith, length_entries rows columns values (omega (arith, c)) (omega (arith, v)))

pub at_entries : (rows columns values : List ℕ) → length columns ≡ length rows → length values ≡ length rows → (k : ℕ) (d : ℕ × ℕ × ℕ) → k < length rows →
    get_or (entries rows columns values) k d ≡ at rows columns values k
at_entries [] columns values c v k d l = absurd (omega (arith, l))
at_entries (i ∷ rows) [] values c v k d l = absurd (omega (arith, c))
at_entries (i ∷ rows) (j ∷ columns) [] c v k d l = absurd (omega (arith, v))
at_entries (i ∷ rows) (j ∷ columns) (w ∷ values) c v zero d l = refl
at_entries (i ∷ rows) (j ∷ columns) (w ∷ values) c v (suc k) d l = at_entries rows columns values (omega (arith, c)) (omega (arith, v)) k d (omega (arith, l))

pub entries_by : (rows columns values : List ℕ) (ts : List (ℕ × ℕ × ℕ)) → length columns ≡ length rows → length values ≡ length rows → length ts ≡ length rows →
    ((k : ℕ) (d : ℕ × ℕ × ℕ) → k < length rows → get_or ts k d ≡ at rows columns values k) → ts ≡ entries rows columns values
entries_by [] columns values [] c v l each = refl
entries_by [] columns values (t ∷ ts) c v l each = absurd (omega (arith, l))
entries_by (i ∷ rows) [] values ts c v l each = absurd (omega (arith, c))
entries_by (i ∷ rows) (j ∷ columns) [] ts c v l each = absurd (omega (arith, v))
entries_by (i ∷ rows) (j ∷ columns) (w ∷ values) [] c v l each = absurd (omega (arith, l))
entries_by (i ∷ rows) (j ∷ columns) (w ∷ values) (t ∷ ts) c v l each =
    ap (λ x. x ∷ ts) (each 0 t (omega arith)) ∙ ap (λ xs. (i, j, w) ∷ xs)
    (entries_by rows columns values ts (omega (arith, c)) (omega (arith, v)) (omega (arith, l)) (λ k d below. each (suc k) d (omega (arith, below))))

pub first_entries : (n : ℕ) (rows columns values : List ℕ) (ts : List (ℕ × ℕ × ℕ)) → length ts ≡ n → n ≤ length rows → n ≤ length columns → n ≤ length values →
    ((k : ℕ) (d : ℕ × ℕ × ℕ) → k < n → get_or ts k d ≡ at rows columns values k) → entries (take n rows) (take n columns) (take n values) ≡ ts
first_entries n rows columns values ts l r c v each =
    let long : length (take n rows) ≡ n = length-take-le n rows r in
    sym (entries_by (take n rows) (take n columns) (take n values) ts (length-take-le n columns c ∙ sym long) (length-take-le n values v ∙ sym long) (l ∙ sym long)
    (λ k d below.
    let here : k < n = omega (arith, below, long) in
    each k d here ∙ ap (λ x. (x, slice_index columns k, slice_index values k)) (sym (get_or-take n rows k 0 here))
    ∙ ap (λ x. (slice_index (take n rows) k, x, slice_index values k)) (sym (get_or-take n columns k 0 here))
    ∙ ap (λ x. (slice_index (take n rows) k, slice_index (take n columns) k, x)) (sym (get_or-take n values k 0 here))))
