-- The shapes of a matrix and of the right-hand sides behind it.
use Rattle.std.proofs.Common.{ℕ, zero, suc, Bool, true, false, ◌≡◌, ◌≢◌, ◌+◌, ◌<◌, ◌≤◌, ◌⊎◌, inl, inr, List, [], ◌∷◌, Option, None, Some, length, drop, get_or, refl, sym, ap, subst, ◌∙◌, arith}
use Rattle.std.specs.Prelude.{◌==◌, ◌&&◌, nat_lt, if◌then◌else◌, All}
use Rattle.std.proofs.lemmas.Bool.Decides.{nat_tests}
use Rattle.residue_words.specs.Matrix.{Matrix}
use Rattle.sparse_rows.specs.Rows.{ResidueMatrix, LARGEST_SIZE}
use Rattle.batch_solve.specs.declared.batch_status.BatchStatus.{BatchStatus}
use Rattle.batch_solve.specs.declared.batch_status.BatchStatus.TheVariants.{Shape, Wide}
use Rattle.batch_solve.specs.BatchAnswers.{batch_misfit, first_misshapen}
use Rattle.batch_solve.specs.BatchFound.{matrices_of}
use Rattle.batch_solve.proofs.Slots.{none_isnt, some_is}

-- the items from k on
drop_more : {X : Type 0} (xs : List X) (k : ℕ) (d : X) → k < length xs → drop k xs ≡ get_or xs k d ∷ drop (k + 1) xs
drop_more [] k d less = absurd (omega arith)
drop_more (x ∷ xs) zero d less = refl
drop_more (x ∷ xs) (suc k) d less =
    let e : suc (k + 1) ≡ suc k + 1 = omega arith in
    drop_more xs k d (omega arith) ∙ ap (λ n. get_or xs k d ∷ drop n (x ∷ xs)) e

-- a column of this height fits, and another matrix doesn't
fits : (m number : ℕ) (B : Matrix) (Bs : List Matrix) → B.height ≡ m → B.width ≡ 1 → first_misshapen m number (B ∷ Bs) ≡ first_misshapen m (number + 1) Bs
fits m number B Bs h w = grind (arith, nat_tests)

misfits : (m number : ℕ) (B : Matrix) (Bs : List Matrix) → (B.height ≢ m) ⊎ (B.width ≢ 1) → first_misshapen m number (B ∷ Bs) ≡ Some (Shape number B.height B.width)
misfits m number B Bs (inl h) = grind (arith, nat_tests)
misfits m number B Bs (inr w) = grind (arith, nat_tests)

-- from question k on, where the first k fit
abbrev pub misfit_from : ℕ → List ResidueMatrix → ℕ → Option BatchStatus
misfit_from m questions k = first_misshapen m (k + 1) (matrices_of (drop k questions))

misfit_at : (m : ℕ) (questions : List ResidueMatrix) (k : ℕ) (d : ResidueMatrix) → k < length questions →
    misfit_from m questions k ≡ first_misshapen m (k + 1) ((get_or questions k d).matrix ∷ matrices_of (drop (k + 1) questions))
misfit_at m questions k d less = ap (λ (qs : List ResidueMatrix). first_misshapen m (k + 1) (matrices_of qs)) (drop_more questions k d less)

pub question_fits : (m : ℕ) (questions : List ResidueMatrix) (k : ℕ) (d : ResidueMatrix) → k < length questions → (get_or questions k d).matrix.height ≡ m →
    (get_or questions k d).matrix.width ≡ 1 → misfit_from m questions (k + 1) ≡ misfit_from m questions k
question_fits m questions k d less h w =
    sym (misfit_at m questions k d less ∙ fits m (k + 1) (get_or questions k d).matrix (matrices_of (drop (k + 1) questions)) h w)

pub question_misfits : (m : ℕ) (questions : List ResidueMatrix) (k : ℕ) (d : ResidueMatrix) → k < length questions →
    ((get_or questions k d).matrix.height ≢ m) ⊎ ((get_or questions k d).matrix.width ≢ 1) →
    misfit_from m questions k ≡ Some (Shape (k + 1) (get_or questions k d).matrix.height (get_or questions k d).matrix.width)
question_misfits m questions k d less other =
    misfit_at m questions k d less ∙ misfits m (k + 1) (get_or questions k d).matrix (matrices_of (drop (k + 1) questions)) other

-- behind the last question there is none
none_behind : (m number : ℕ) (questions : List ResidueMatrix) (k : ℕ) → length questions ≤ k → first_misshapen m number (matrices_of (drop k questions)) ≡ None
none_behind m number [] zero le = refl
none_behind m number [] (suc k) le = refl
none_behind m number (q ∷ qs) zero le = absurd (omega arith)
none_behind m number (q ∷ qs) (suc k) le = none_behind m number qs k (omega arith)

pub questions_fit : (m : ℕ) (questions : List ResidueMatrix) (k : ℕ) → length questions ≤ k → misfit_from m questions k ≡ None
questions_fit m questions k le = none_behind m (k + 1) questions k le

-- a matrix that is too wide, and one that isn't
wide_one : (A : Matrix) (Bs : List Matrix) → LARGEST_SIZE < A.height + A.width → batch_misfit (A ∷ Bs) ≡ Some (Wide A.height A.width)
wide_one A Bs wide = grind (arith, nat_tests)

narrow_one : (A : Matrix) (Bs : List Matrix) → A.height + A.width ≤ LARGEST_SIZE → batch_misfit (A ∷ Bs) ≡ first_misshapen A.height 1 Bs
narrow_one A Bs narrow = grind (arith, nat_tests)

pub wide_misfits : (texts : List ResidueMatrix) (d : ResidueMatrix) → 1 ≤ length texts → LARGEST_SIZE < (get_or texts 0 d).matrix.height + (get_or texts 0 d).matrix.width →
    batch_misfit (matrices_of texts) ≡ Some (Wide (get_or texts 0 d).matrix.height (get_or texts 0 d).matrix.width)
wide_misfits [] d some wide = absurd (omega arith)
wide_misfits (A ∷ Bs) d some wide = wide_one A.matrix (matrices_of Bs) wide

pub narrow_misfits : (texts : List ResidueMatrix) (d : ResidueMatrix) → 1 ≤ length texts → (get_or texts 0 d).matrix.height + (get_or texts 0 d).matrix.width ≤ LARGEST_SIZE →
    batch_misfit (matrices_of texts) ≡ first_misshapen (get_or texts 0 d).matrix.height 1 (matrices_of (drop 1 texts))
narrow_misfits [] d some narrow = absurd (omega arith)
narrow_misfits (A ∷ Bs) d some narrow = narrow_one A.matrix (matrices_of Bs) narrow

-- ---- where all fit

not_wide : (A : Matrix) (Bs : List Matrix) → batch_misfit (A ∷ Bs) ≡ None → A.height + A.width ≤ LARGEST_SIZE
not_wide A Bs e = elim (split (A.height + A.width)) [
  | inl wide ↦ let both : None ≡ Some (Wide A.height A.width) = sym e ∙ wide_one A Bs wide in absurd (let never : ⊥ = cc in never)
  | inr narrow ↦ narrow
]
  where
    split : (n : ℕ) → (LARGEST_SIZE < n) ⊎ (n ≤ LARGEST_SIZE)
    split n = grind arith

-- a column as high as the matrix
abbrev pub IsColumnFor : ℕ → ResidueMatrix → Type 0
IsColumnFor m b = (b.matrix.height ≡ m) × (b.matrix.width ≡ 1)

columns : (m number : ℕ) (questions : List ResidueMatrix) → first_misshapen m number (matrices_of questions) ≡ None → All (IsColumnFor m) questions
columns m number [] e k d less = absurd (omega arith)
columns m number (b ∷ bs) e k d less = go k less (columns m (number + 1) bs (test b.matrix (matrices_of bs) e).2)
  where
    test : (B : Matrix) (Bs : List Matrix) → first_misshapen m number (B ∷ Bs) ≡ None → (B.height ≡ m) × (B.width ≡ 1) × (first_misshapen m (number + 1) Bs ≡ None)
    test B Bs f = grind (arith, nat_tests)

    go : (k : ℕ) → k < length (b ∷ bs) → All (IsColumnFor m) bs → IsColumnFor m (get_or (b ∷ bs) k d)
    go zero less later = let t = test b.matrix (matrices_of bs) e in (t.0, t.1)
    go (suc k) less later = later k d (omega arith)

pub fit_columns : (texts : List ResidueMatrix) (d : ResidueMatrix) → 1 ≤ length texts → batch_misfit (matrices_of texts) ≡ None →
    All (IsColumnFor (get_or texts 0 d).matrix.height) (drop 1 texts)
fit_columns [] d some e = absurd (omega arith)
fit_columns (A ∷ Bs) d some e =
    columns A.matrix.height 1 Bs (sym (narrow_one A.matrix (matrices_of Bs) (not_wide A.matrix (matrices_of Bs) e)) ∙ e)

-- ---- what doesn't fit is refused

abbrev pub IsRefusal : BatchStatus → Type 0
IsRefusal (Shape number h w) = Unit {0}
IsRefusal (Wide h w) = Unit {0}
IsRefusal s = ⊥

misshapen_refused : (m number : ℕ) (Bs : List Matrix) (s : BatchStatus) → first_misshapen m number Bs ≡ Some s → IsRefusal s
misshapen_refused m number [] s e = absurd (none_isnt s e)
misshapen_refused m number (B ∷ Bs) s e = go ((B.height == m) && (B.width == 1)) e (misshapen_refused m (number + 1) Bs s)
  where
    go : (b : Bool) → (if b then first_misshapen m (number + 1) Bs else Some (Shape number B.height B.width)) ≡ Some s → (first_misshapen m (number + 1) Bs ≡ Some s → IsRefusal s) → IsRefusal s
    go true f later = later f
    go false f later = subst IsRefusal (some_is (Shape number B.height B.width) s f) tt

pub misfit_refused : (values : List Matrix) (s : BatchStatus) → batch_misfit values ≡ Some s → IsRefusal s
misfit_refused [] s e = absurd (none_isnt s e)
misfit_refused (A ∷ Bs) s e = go (nat_lt LARGEST_SIZE (A.height + A.width)) e
  where
    go : (b : Bool) → (if b then Some (Wide A.height A.width) else first_misshapen A.height 1 Bs) ≡ Some s → IsRefusal s
    go true f = subst IsRefusal (some_is (Wide A.height A.width) s f) tt
    go false f = misshapen_refused A.height 1 Bs s f
