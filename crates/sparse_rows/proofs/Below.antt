-- Rows appended one after another: the first rows of a matrix below another.
use Rattle.std.proofs.Common.{ℕ, suc, zero, ◌≡◌, ◌+◌, ◌-◌, ◌<◌, ◌≤◌, List, [], ◌∷◌, ◌++◌, length, replicate, take, sym, ap, ap₂, ◌∙◌, arith, append_assoc}
use Rattle.std.specs.Prelude.{Result, Ok, Err, OnErr}
use Rattle.std.proofs.lemmas.List.{append-nil, take_all, take_more}
use Rattle.residue_words.specs.Matrix.{Matrix, IsMatrix, row, zeros}
use Rattle.sparse_rows.specs.Rows.{above, first_rows, AreZeroFrom, IsNextFilled, IsZeroRow, with_zeros}
use Rattle.sparse_rows.specs.Stored.{with_row}
use Rattle.sparse_rows.proofs.FilledRows.{zero_row}
use Rattle.sparse_rows.proofs.Loops.{sized}

pub front_none : (T M : Matrix) → T ≡ above T (first_rows 0 M)
front_none T M =
    let plain : T.height ≡ T.height + 0 = omega arith in
    ap₂ (λ h rs. sized h T.width rs) plain (sym (append-nil T.rows))

pub front_more : (T M : Matrix) (i : ℕ) → i < length M.rows → with_row (above T (first_rows i M)) (row M i) ≡ above T (first_rows (i + 1) M)
front_more T M i l =
    let plain : T.height + i + 1 ≡ T.height + (i + 1) = omega arith in
    ap₂ (λ h rs. sized h T.width rs) plain (append_assoc T.rows (take i M.rows) (row M i ∷ []) ∙ ap (λ rs. T.rows ++ rs) (sym (take_more M.rows i [] l)))

pub front_all : (T M : Matrix) (i : ℕ) → i ≡ M.height → length M.rows ≡ M.height → above T (first_rows i M) ≡ above T M
front_all T M i e long = ap₂ (λ h rs. sized (T.height + h) T.width (T.rows ++ rs)) e (take_all i M.rows (omega arith))

-- what an error is to ensure
pub any_err : {T E P : Type 0} (r : Result T E) → P → OnErr r P
any_err (Ok x) h = tt
any_err (Err e) h = h

-- rows of zeros are appended one by one
zeros_none : (X : Matrix) → with_zeros X 0 ≡ X
zeros_none X =
    let plain : X.height + 0 ≡ X.height = omega arith in
    ap₂ (λ h rs. sized h X.width rs) plain (append-nil X.rows)

zeros_more : (X : Matrix) (d : ℕ) → with_zeros X (suc d) ≡ with_zeros (with_row X (zeros X.width)) d
zeros_more X d =
    let plain : X.height + suc d ≡ X.height + 1 + d = omega arith in
    ap₂ (λ h rs. sized h X.width rs) plain (sym (append_assoc X.rows (zeros X.width ∷ []) (replicate d (zeros X.width))))

-- those that are zero are passed over
pub front_zeros : {p : ℕ} (T : Matrix) {M : Matrix} → IsMatrix p M → T.width ≡ M.width → (i d : ℕ) → i + d ≤ M.height →
    ((k : ℕ) → i ≤ k → k < i + d → IsZeroRow M k) → with_zeros (above T (first_rows i M)) d ≡ above T (first_rows (i + d) M)
front_zeros {p} T {M} m wide i zero l none =
    let plain : i ≡ i + 0 = omega arith in
    zeros_none (above T (first_rows i M)) ∙ ap (λ i. above T (first_rows i M)) plain
front_zeros {p} T {M} m wide i (suc d) l none =
    let here : row M i ≡ zeros T.width = zero_row m i (omega arith) (none i (omega arith) (omega arith)) ∙ ap zeros (sym wide) in
    let plain : i + 1 + d ≡ i + suc d = omega arith in
    zeros_more (above T (first_rows i M)) d
    ∙ ap (λ v. with_zeros (with_row (above T (first_rows i M)) v) d) (sym here)
    ∙ ap (λ X. with_zeros X d) (front_more T M i (omega (arith, m.len)))
    ∙ front_zeros T m wide (i + 1) d (omega arith) (λ k a b. none k (omega arith) (omega arith))
    ∙ ap (λ i. above T (first_rows i M)) plain

-- the rows of zeros before the next filled row are appended, and then this row
pub appended_zeros : {p : ℕ} (T : Matrix) {M X Y : Matrix} {next i : ℕ} → IsMatrix p M → T.width ≡ M.width → X ≡ above T (first_rows next M) → Y ≡ with_zeros X (i - next) →
    IsNextFilled M next i → Y ≡ above T (first_rows i M)
appended_zeros {p} T {M} {X} {Y} {next} {i} m wide x y found =
    let e : next + (i - next) ≡ i = let l = found.low in omega arith in
    y ∙ ap (λ X. with_zeros X (i - next)) x
    ∙ front_zeros T m wide next (i - next) (omega (arith, found.below)) (λ k a b. found.between k a (omega arith))
    ∙ ap (λ i. above T (first_rows i M)) e

pub appended_more : {p : ℕ} (T : Matrix) {M X Y Z : Matrix} {v : List ℕ} {next i : ℕ} → IsMatrix p M → T.width ≡ M.width → X ≡ above T (first_rows next M) → Y ≡ with_zeros X (i - next) → v ≡ row M i → Z ≡ with_row Y v →
    IsNextFilled M next i → Z ≡ above T (first_rows (i + 1) M)
appended_more {p} T {M} {X} {Y} {Z} {v} {next} {i} m wide x y r z found =
    z ∙ ap₂ (λ Y v. with_row Y v) (appended_zeros T m wide x y found) r ∙ front_more T M i (omega (arith, found.below, m.len))

pub appended_all : {p : ℕ} (T : Matrix) {M X Y : Matrix} {next h : ℕ} → IsMatrix p M → T.width ≡ M.width → X ≡ above T (first_rows next M) → next ≤ M.height → AreZeroFrom M next → h ≡ M.height →
    Y ≡ with_zeros X (h - next) → Y ≡ above T M
appended_all {p} T {M} {X} {Y} {next} {h} m wide x low none high y =
    let e : next + (h - next) ≡ M.height = omega arith in
    y ∙ ap (λ X. with_zeros X (h - next)) x
    ∙ front_zeros T m wide next (h - next) (omega arith) (λ k a b. none k a (omega arith))
    ∙ front_all T M (next + (h - next)) e m.len
