-- A row more, and the form with it.
use Rattle.std.proofs.Common.{ℕ, ◌≡◌, ◌+◌, ◌<◌, ◌≤◌, ◌↔◌, Bool, true, false, cond, Option, None, Some, List, [], length, sym, refl, ap, subst, ◌∙◌, arith}
use Rattle.std.specs.Option.{is_some}
use Rattle.residue_words.specs.Residues.{IsPrime}
use Rattle.residue_words.specs.Matrix.{Matrix, IsMatrix, IsVector, IsCombination, row, zeros}
use Rattle.residue_words.proofs.Vectors.{at_zeros, length_list_of, list_equal}
use Rattle.row_space.specs.Echelon.{IsIndependent, IsRref, SameSpan}
use Rattle.row_space.specs.Rows.{of_rows}
use Rattle.row_space.proofs.Rows as Rows
use Rattle.row_space.proofs.Rows.{combination_last, span_with_new, span_with_old}
use Rattle.row_space.proofs.Spans.{same_span_chained, same_span_turned}
use Rattle.sparse_rows.specs.Rows.{ResidueMatrix, nonzeros, support}
use Rattle.sparse_rows.specs.Stored.{IsSparse, spread, with_row}
use Rattle.sparse_rows.proofs.Loops.{matrix_more}
use Rattle.sparse_rows.proofs.Spread.{sparse_none, spread_none, spread_support, support_spread}
use Rattle.lead_rows.specs.Leads.{Inserts, IsSound, KeptRows}
use Rattle.lead_rows.proofs.Appending.{inserts_same, of_own_rows, with_own_row}
use Rattle.lead_rows.proofs.Dividing.{listed_none}
use Rattle.lead_rows.proofs.Draining.{sparse_of}
use Rattle.lead_rows.proofs.Combining.{leads_independent}
use Rattle.echelon_form.specs.Form.{Form, IsFormOf}
use Rattle.grow_form.specs.Growing.{AppendsRow}
use Rattle.grow_form.specs.Numbering.{AreKeptByNumbers, ComesBehind, IsByNumbers, IsNumbering, IsRowByNumbers, NumberedColumns, at_columns, number_of, seen_matrix, seen_rows}
use Rattle.grow_form.proofs.Moved.{moved_independent, moved_matrix, moved_more, moved_span, moved_vector}
use Rattle.grow_form.proofs.Numbers.{IsUnused, combination_seen, kept_behind, kept_inserted, kept_zero, named, seen_behind}

own_matrix : (p : ℕ) (A : Matrix) → IsMatrix p A → IsMatrix p (of_rows A.width A.rows)
own_matrix p A m = subst (IsMatrix p) (sym (of_own_rows p A m)) m

-- rows of one row space keep it with the same row more
pub same_span_more : (p : ℕ) (A B : Matrix) (v : List ℕ) → 2 ≤ p → IsMatrix p A → IsMatrix p B → B.width ≡ A.width → IsVector p A.width v → SameSpan p A B →
    SameSpan p (with_row A v) (with_row B v)
same_span_more p A B v two ma mb width vector same =
    subst (λ C. SameSpan p C (with_row B v)) (with_own_row p A v ma)
    (subst (SameSpan p (Rows.with_row A.width A.rows v)) (ap (λ n. Rows.with_row n B.rows v) (sym width) ∙ with_own_row p B v mb)
    (span_with_new p A.width A.rows B.rows v v two own_a own_b vector vector own_same
    (combination_last p A.width B.rows v two own_b vector) (combination_last p A.width A.rows v two own_a vector)))
  where
    own_a : IsMatrix p (of_rows A.width A.rows)
    own_a = own_matrix p A ma

    back : of_rows A.width B.rows ≡ B
    back = ap (λ n. of_rows n B.rows) (sym width) ∙ of_own_rows p B mb

    own_b : IsMatrix p (of_rows A.width B.rows)
    own_b = subst (IsMatrix p) (sym back) mb

    own_same : SameSpan p (of_rows A.width A.rows) (of_rows A.width B.rows)
    own_same = subst (λ C. SameSpan p C (of_rows A.width B.rows)) (sym (of_own_rows p A ma)) (subst (SameSpan p A) (sym back) same)

-- and a row of the row space leaves it as it is
pub same_span_old : (p : ℕ) (A : Matrix) (v : List ℕ) → 2 ≤ p → IsMatrix p A → IsVector p A.width v → IsCombination p A v → SameSpan p A (with_row A v)
same_span_old p A v two m vector c =
    same_span_turned p (with_row A v) A
    (subst (λ B. SameSpan p B A) (with_own_row p A v m)
    (subst (SameSpan p (Rows.with_row A.width A.rows v)) (of_own_rows p A m)
    (span_with_old p A.width A.rows A.rows v two (own_matrix p A m) (own_matrix p A m) vector (λ u. ((λ c. c), (λ c. c)))
    (subst (λ B. IsCombination p B v) (sym (of_own_rows p A m)) c))))

-- matrices of one row space and one width have the same form
pub same_form : (p : ℕ) (A B E : Matrix) → A.width ≡ B.width → SameSpan p A B → IsRref p A E → IsRref p B E
same_form p A B E width same h = record {
  matrix = h.matrix;
  width = h.width ∙ width;
  form = h.form;
  span = same_span_chained p B A E (same_span_turned p A B same) h.span;
}

-- and what is the form of one is that of the other, for every modulus
pub form_of_same : {p q : ℕ} {A B : Matrix} {f g : Form} → q ≡ p → A.width ≡ B.width → SameSpan p A B → IsFormOf q B f → g ≡ f → IsFormOf p A g
form_of_same {p} {q} {A} {B} {f} {g} e width same is made =
    let h : IsFormOf p B f = subst (λ q. IsFormOf q B f) e is in
    subst (IsFormOf p A) (sym made) (record {
      modulus = h.modulus;
      matrix = h.matrix;
      width = h.width ∙ sym width;
      short = omega (arith, h.short, width);
      rank = h.rank;
      rref = λ prime. same_form p B A f.matrix (sym width) (same_span_turned p A B same) (h.rref prime);
      leads = h.leads;
    })

-- the form with a row more is that of the form with the row
pub form_more : (p : ℕ) (A B : Matrix) (v : List ℕ) → 2 ≤ p → IsMatrix p A → IsVector p A.width v → B.width ≡ A.width → SameSpan p B (with_row A v) →
    (E F : Matrix) → IsRref p A E → IsRref p B F ↔ IsRref p (with_row E v) F
form_more p A B v two m vector width span E F h =
    let same : SameSpan p B (with_row E v) =
    same_span_chained p B (with_row A v) (with_row E v) span (same_span_more p A E v two m h.matrix h.width vector h.span) in
    let wide : B.width ≡ (with_row E v).width = width ∙ sym h.width in (
      same_form p B (with_row E v) F wide same,
      same_form p (with_row E v) B F (sym wide) (same_span_turned p B (with_row E v) same),
    )

inserted_span : {old : KeptRows} (new : KeptRows) {v : List ℕ} → IsSound old → IsVector old.modulus old.matrix.width v → (lead : Option ℕ) → Inserts old new v lead →
    IsPrime old.modulus → SameSpan old.modulus new.matrix (with_row old.matrix v)
inserted_span new sound vector (Some c) h prime = h.span prime
inserted_span {old} new {v} sound vector None h prime = subst (λ (k : KeptRows). SameSpan old.modulus k.matrix (with_row old.matrix v)) (sym h.0)
    (same_span_old old.modulus old.matrix v sound.two_or_more sound.matrix vector h.1)

inserted_height : (old new : KeptRows) (v : List ℕ) (lead : Option ℕ) → Inserts old new v lead → new.matrix.height ≡ cond (is_some lead) (old.matrix.height + 1) old.matrix.height
inserted_height old new v (Some c) h = ap (λ (A : Matrix). A.height) h.matrix
inserted_height old new v None h = ap (λ (k : KeptRows). k.matrix.height) h.0

abbrev IsFound : Bool → Type 0
IsFound true = Unit {0}
IsFound false = ⊥

inserted_old : (old new : KeptRows) (v : List ℕ) (lead : Option ℕ) → Inserts old new v lead → (is_some lead ≡ false) ↔ IsCombination old.modulus old.matrix v
inserted_old old new v (Some c) h = ((λ e. absurd (subst IsFound e tt)), (λ c. absurd (h.independent c)))
inserted_old old new v None h = ((λ e. h.1), (λ c. refl))

-- a row that was inserted by numbers was appended, as callers are told
pub appends_seen : {old new : KeptRows} {N : NumberedColumns} {v : List ℕ} → IsSound old → IsSound new → IsNumbering N → AreKeptByNumbers old N →
    IsVector old.modulus old.matrix.width v → IsByNumbers N v → (lead : Option ℕ) → Inserts old new v lead → AppendsRow (seen_rows old N) (seen_rows new N) (at_columns N v) (is_some lead)
appends_seen {old} {new} {N} {v} sound after h by vector is lead inserts = record {
  modulus = same.0;
  width = refl;
  matrix = subst (λ q. IsMatrix q (seen_matrix N new.matrix)) same.0 (moved_matrix (length N.arrivals) (number_of N) (omega (arith, after.two_or_more)) after.matrix);
  height = inserted_height old new v lead inserts;
  spanned = ((λ e. there.0 (found.0 e)), (λ c. found.1 (there.1 c)));
  span = span;
  form = λ prime. form_more p A (seen_matrix N new.matrix) (at_columns N v) sound.two_or_more (moved_matrix n number pos sound.matrix) (moved_vector n number pos vector) refl (span prime);
}
  where
    p : ℕ
    p = old.modulus

    n : ℕ
    n = length N.arrivals

    number : ℕ → ℕ
    number = number_of N

    pos : 0 < old.modulus
    pos = omega (arith, sound.two_or_more)

    A : Matrix
    A = seen_matrix N old.matrix

    same : (new.modulus ≡ old.modulus) × (new.matrix.width ≡ old.matrix.width)
    same = inserts_same old new v lead inserts

    found : (is_some lead ≡ false) ↔ IsCombination old.modulus old.matrix v
    found = inserted_old old new v lead inserts

    there : IsCombination old.modulus old.matrix v ↔ IsCombination old.modulus (seen_matrix N old.matrix) (at_columns N v)
    there = combination_seen sound by h vector is

    own : IsMatrix old.modulus new.matrix
    own = subst (λ q. IsMatrix q new.matrix) same.0 after.matrix

    span : IsPrime old.modulus → SameSpan old.modulus (seen_matrix N new.matrix) (with_row (seen_matrix N old.matrix) (at_columns N v))
    span prime =
        (subst (SameSpan old.modulus (seen_matrix N new.matrix)) (moved_more (length N.arrivals) (number_of N) old.matrix v)
        (moved_span (length N.arrivals) (number_of N) pos own (matrix_more sound.matrix vector) (inserted_span new sound vector lead inserts prime)))

-- a row has no support exactly where it is the zero row
pub no_support : (n : ℕ) (w : List ℕ) → length w ≡ n → (length (support w) ≡ 0) ↔ (w ≡ zeros n)
no_support n w long = (
  λ none. list_equal n w (zeros n) long (length_list_of n (λ j. 0)) (λ j l. listed_none w none j ∙ sym (at_zeros n j l)),
  λ e. ap (λ u. length (support u)) (e ∙ sym (spread_none n [])) ∙ ap length (support_spread (sparse_none 2 n)),
)

-- the columns and values of a row that has a matrix to itself
pub spread_alone : {n : ℕ} {r : ResidueMatrix} {cols vals : List ℕ} → IsMatrix r.modulus r.matrix → r.matrix.width ≡ n → r.matrix.height ≡ 1 →
    cols ≡ support (row r.matrix 0) → vals ≡ nonzeros (row r.matrix 0) → spread n cols vals ≡ row r.matrix 0
spread_alone {n} {r} {cols} {vals} m width height ce ve =
    let vector : IsVector r.modulus r.matrix.width (row r.matrix 0) = m.each 0 (omega (arith, height)) in
    ap (λ c. spread n c vals) ce ∙ ap (spread n (support (row r.matrix 0))) ve ∙ spread_support n (row r.matrix 0) (vector.len ∙ width)

-- the kept rows by numbers are independent where they are seen
pub seen_independent : {kept : KeptRows} {N : NumberedColumns} → IsSound kept → IsNumbering N → AreKeptByNumbers kept N → IsIndependent kept.modulus (seen_matrix N kept.matrix)
seen_independent {kept} {N} sound h by =
    moved_independent (length N.arrivals) (number_of N) N.room (IsUnused N) (named h) (omega (arith, sound.two_or_more)) sound.matrix by.width
    (λ i s l off. kept_zero sound by i s l off) (leads_independent kept.modulus kept.matrix kept.leads sound.leads)

-- A row came to kept rows, first its columns and then its entries by their numbers.
module _ {kept : KeptRows} {N now : NumberedColumns} {cols vals row_cols row_vals : List ℕ} {r : ResidueMatrix} (sound : IsSound kept) (by : AreKeptByNumbers kept N) (h : IsNumbering now) (behind : ComesBehind N now)
    (is : IsRowByNumbers now kept.modulus cols vals r) (m : IsMatrix r.modulus r.matrix) (ce : row_cols ≡ support (row r.matrix 0)) (ve : row_vals ≡ nonzeros (row r.matrix 0)) where
  wide : r.matrix.width ≡ kept.matrix.width
  wide = is.width ∙ behind.room ∙ sym by.width

  row_vector : IsVector kept.modulus kept.matrix.width (row r.matrix 0)
  row_vector = subst (λ q. IsVector q kept.matrix.width (row r.matrix 0)) is.modulus (subst (λ n. IsVector r.modulus n (row r.matrix 0)) wide (m.each 0 (omega (arith, is.height))))

  pub row_sparse : IsSparse kept.modulus kept.matrix.width row_cols row_vals
  row_sparse = sparse_of row_vector refl refl ce ve

  is_row : spread kept.matrix.width row_cols row_vals ≡ row r.matrix 0
  is_row = spread_alone m wide is.height ce ve

  by_now : AreKeptByNumbers kept now
  by_now = kept_behind sound by behind

  same_row : at_columns now (row r.matrix 0) ≡ spread (length N.arrivals) cols vals
  same_row = is.same ∙ ap (λ n. spread n cols vals) behind.width

  -- it was appended
  pub row_appended : {new : KeptRows} → IsSound new → (lead : Option ℕ) → Inserts kept new (spread kept.matrix.width row_cols row_vals) lead →
      AppendsRow (seen_rows kept N) (seen_rows new now) (spread (length N.arrivals) cols vals) (is_some lead)
  row_appended {new} after lead inserts =
      subst (λ (g : ResidueMatrix). AppendsRow g (seen_rows new now) (spread (length N.arrivals) cols vals) (is_some lead)) (seen_behind sound by behind)
      (subst (λ v. AppendsRow (seen_rows kept now) (seen_rows new now) v (is_some lead)) same_row
      (appends_seen sound after h by_now row_vector is.by_numbers lead (subst (λ v. Inserts kept new v lead) is_row inserts)))

  -- and the rows stay kept by numbers
  pub row_kept : {new : KeptRows} → (lead : Option ℕ) → Inserts kept new (spread kept.matrix.width row_cols row_vals) lead → AreKeptByNumbers new now
  row_kept {new} lead inserts = kept_inserted sound by_now is.by_numbers lead (subst (λ v. Inserts kept new v lead) is_row inserts)

  -- it is a combination of the kept rows where it is one of those that are seen
  pub row_found : IsCombination kept.modulus kept.matrix (spread kept.matrix.width row_cols row_vals) ↔ IsCombination kept.modulus (seen_matrix N kept.matrix) (spread (length N.arrivals) cols vals)
  row_found =
      let seen = combination_seen sound by_now h row_vector is.by_numbers in
      let same : seen_matrix now kept.matrix ≡ seen_matrix N kept.matrix = ap (λ (g : ResidueMatrix). g.matrix) (seen_behind sound by behind) in (
        λ c. subst (λ A. IsCombination kept.modulus A (spread (length N.arrivals) cols vals)) same (subst (IsCombination kept.modulus (seen_matrix now kept.matrix)) same_row
            (seen.0 (subst (IsCombination kept.modulus kept.matrix) is_row c))),
        λ c. subst (IsCombination kept.modulus kept.matrix) (sym is_row) (seen.1 (subst (IsCombination kept.modulus (seen_matrix now kept.matrix)) (sym same_row)
            (subst (λ A. IsCombination kept.modulus A (spread (length N.arrivals) cols vals)) (sym same) c))),
      )
