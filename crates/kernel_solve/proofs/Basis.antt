-- The rows that are read off an echelon form are the kernel basis.
use Rattle.std.proofs.Common.{ℕ, ◌≡◌, ◌≢◌, ◌+◌, ◌-◌, ◌*◌, ◌%◌, ◌<◌, ◌≤◌, inl, inr, List, [], ◌∷◌, ◌++◌, length, slice_index, cond, eqb, sym, refl, ap, ap₂, subst, ◌∙◌, arith, mod-lt, one-mul, zero-mul, mul-zero}
use native.Mathlib.Nat.{mod-mod}
use Rattle.std.proofs.lemmas.Bool.{cases_eq, cases_lt, cond-true, cond-false, eq-eqb, ne_eqb}
use Rattle.std.proofs.lemmas.List.{get_or_append_left, get_or_push, length_push}
use Rattle.residue_words.specs.Residues.{IsPrime, sum_below}
use Rattle.residue_words.specs.Matrix.{Matrix, IsMatrix, IsVector, IsCombination, apply, combine, dot, entry, list_of, row, zeros}
use Rattle.residue_words.proofs.Residues.{add_same, multiple_zero}
use Rattle.residue_words.proofs.Sums.{sum_add, sum_equal, sum_single}
use Rattle.residue_words.proofs.Vectors.{at_apply, at_list_of, delta, delta_other, delta_same, dot_combine, entry_residue, is_matrix_of, length_list_of, list_equal, list_of_equal, matrix_of, row_matrix_of, sum_delta, vector_of}
use Rattle.sparse_rows.specs.Rows.{ResidueMatrix, ResidueRow, nonzeros, support, transposed}
use Rattle.sparse_rows.specs.Stored.{IsSparse, entry_at, spread, with_row}
use Rattle.sparse_rows.proofs.Loops.{length_zeros, matrix_more, row_before, row_last, sized}
use Rattle.sparse_rows.proofs.Spread.{entry_cover, entry_here, entry_support, spread_support, support_sparse}
use Rattle.row_space.specs.Echelon.{HasLeads, IsRref, SameSpan}
use Rattle.row_space.specs.Kernel.{HasEnds, IsKernel, IsNull}
use Rattle.row_space.proofs.KernelLaws.{dot_turned, kernel_of_rank, null_orthogonal}
use Rattle.echelon_form.specs.Form.{Form, IsEchelon}
use Rattle.kernel_solve.specs.Column.{column_at}
use Rattle.kernel_solve.specs.ReadOff.{IsBasisRow}
use Rattle.kernel_solve.proofs.AtLeads.{basis_vector, lead_or_none, negative_zero}
use Rattle.kernel_solve.proofs.Free.{AreFree, AreFreeSoFar, all_columns, first_of_free, free_found, free_more, is_free, lead_more, none_so_far}

-- a residue and its negative
negative_sum : (p x : ℕ) → x < p → (x + (p - x) % p) % p ≡ 0
negative_sum p x l =
    add_same p x x ((p - x) % p) (p - x) refl (mod-mod _ p)
    ∙ ap (λ t. t % p) (let e : x + (p - x) ≡ 1 * p = omega arith in e) ∙ multiple_zero p 1

-- the column f of a form where no row leads
module _ (p : ℕ) (E : Matrix) (leads : List ℕ) (f : ℕ) (m : IsMatrix p E) (has : HasLeads E leads) (inside : f < E.width) (free : (k : ℕ) → k < length leads → slice_index leads k ≢ f) where
  column_vector : IsVector p (length leads) (column_at E f)
  column_vector = subst (λ n. IsVector p n (column_at E f)) (sym has.0) (vector_of p E.height (λ i. entry E i f) (λ i l. entry_residue p E m i f l inside))

  pub column_sparse : IsSparse p (length leads) (support (column_at E f)) (nonzeros (column_at E f))
  column_sparse = support_sparse column_vector

  pub column_spread : spread (length leads) (support (column_at E f)) (nonzeros (column_at E f)) ≡ column_at E f
  column_spread = spread_support (length leads) (column_at E f) column_vector.len

  -- the rows with an entry in it lead before it
  pub leads_before : (t : ℕ) → t < length (support (column_at E f)) → slice_index leads (slice_index (support (column_at E f)) t) < f
  leads_before t l =
      let rs : List ℕ = support (column_at E f) in
      let k : ℕ = slice_index rs t in
      let below : k < length leads = column_sparse.below t l in
      let some : 0 < slice_index (column_at E f) k =
      omega (arith, column_sparse.positive t (omega (arith, column_sparse.long)), entry_here rs (nonzeros (column_at E f)) column_sparse.long column_sparse.rising t l, entry_support (column_at E f) k) in
      elim (cases_lt (slice_index leads k) f) [
        | inl o ↦ o
        | inr o ↦
            let apart : slice_index leads k ≢ f = free k below in
            absurd (omega (arith, has.1.past k f (omega (arith, has.0)) inside (omega arith), at_list_of E.height (λ i. entry E i f) k (omega (arith, has.0))))
      ]

-- a row of the form turned round is a column of it
pub turned_row : (E F turned : Matrix) (f : ℕ) → F ≡ E → turned ≡ transposed F → f < E.width → row turned f ≡ column_at E f
turned_row E F turned f a b l = ap (λ m. row m f) (b ∙ ap transposed a) ∙ row_matrix_of E.width E.height (λ i j. entry E j i) f l

-- the rows so far are those of a basis: one for each of these free columns of E
pub record AreBasisRows (p : ℕ) (E : Matrix) (leads free : List ℕ) (K : Matrix) : Type 0 where
  pub matrix : IsMatrix p K
  pub width : K.width ≡ E.width
  pub height : K.height ≡ length free
  pub each : (g : ℕ) → g < length free → IsBasisRow p leads (column_at E (slice_index free g)) (slice_index free g) (row K g)

-- one row more
basis_more : {p : ℕ} {E : Matrix} {leads free : List ℕ} {K : Matrix} → 2 ≤ p → AreBasisRows p E leads free K → (f : ℕ) (v : List ℕ) → length v ≡ E.width →
    IsBasisRow p leads (column_at E f) f v → AreBasisRows p E leads (free ++ f ∷ []) (with_row K v)
basis_more {p} {E} {leads} {free} {K} two b f v long made =
    record {
      matrix = matrix_more b.matrix (subst (λ n. IsVector p n v) (long ∙ sym b.width) (basis_vector v two made));
      width = b.width;
      height = ap (λ n. n + 1) b.height ∙ sym (length_push free f);
      each = λ g l. elim (cases_lt g (length free)) [
        | inl o ↦
            subst (λ u. IsBasisRow p leads (column_at E (slice_index (free ++ f ∷ []) g)) (slice_index (free ++ f ∷ []) g) u) (sym (row_before v b.matrix g (omega (arith, b.height))))
            (subst (λ t. IsBasisRow p leads (column_at E t) t (row K g)) (sym (get_or_append_left free (f ∷ []) 0 g o)) (b.each g o))
        | inr o ↦
            let last : g ≡ length free = omega (arith, length_push free f) in
            let end : g ≡ K.height = last ∙ sym b.height in
            subst (λ u. IsBasisRow p leads (column_at E (slice_index (free ++ f ∷ []) g)) (slice_index (free ++ f ∷ []) g) u) (sym (ap (row (with_row K v)) end ∙ row_last v b.matrix))
            (subst (λ t. IsBasisRow p leads (column_at E t) t v) (sym (get_or_push free f 0 g (sym last))) made)
      ];
    }

-- what a loop over the columns of a form keeps: the rows for the free ones among the first j, of which `next` are leads
pub record IsBasisSoFar (form : Form) (j next : ℕ) (made : ResidueMatrix) (to : ResidueRow) : Type 0 where
  pub free : List ℕ
  pub columns : AreFreeSoFar form.leads j next free
  pub modulus : made.modulus ≡ form.modulus
  pub rows : AreBasisRows form.modulus form.matrix form.leads free made.matrix
  pub row_modulus : to.modulus ≡ form.modulus
  pub row_length : length to.row ≡ form.matrix.width

pub basis_none : (form : Form) (made : ResidueMatrix) (to : ResidueRow) (w : ℕ) → made.modulus ≡ form.modulus → made.matrix ≡ sized 0 w [] → w ≡ form.matrix.width →
    to.modulus ≡ form.modulus → to.row ≡ zeros w → IsBasisSoFar form 0 0 made to
basis_none form made to w modulus matrix width row_modulus row_zeros = record {
  free = [];
  columns = none_so_far form.leads;
  modulus = modulus;
  rows = rw matrix (record { matrix = record { len = refl; each = λ i l. absurd (omega arith) }; width = width; height = refl; each = λ g l. absurd (omega arith) });
  row_modulus = row_modulus;
  row_length = ap length row_zeros ∙ length_zeros w ∙ width;
}

module _ (form : Form) (sound : IsEchelon form) (j next : ℕ) (made : ResidueMatrix) (to : ResidueRow) (s : IsBasisSoFar form j next made to) where
  rising : (k t : ℕ) → k < t → t < length form.leads → slice_index form.leads k < slice_index form.leads t
  rising k t a b = sound.leads.1.rising k t a (omega (arith, sound.rank))

  -- a lead has no row
  pub basis_lead : next < length form.leads → slice_index form.leads next ≡ j → IsBasisSoFar form (j + 1) (next + 1) made to
  basis_lead l e = record {
    free = s.free;
    columns = lead_more form.leads j next s.free rising s.columns l e;
    modulus = s.modulus;
    rows = s.rows;
    row_modulus = s.row_modulus;
    row_length = s.row_length;
  }

  -- another column has
  pub column_free : ((next < length form.leads) × (slice_index form.leads next ≡ j) → ⊥) → (k : ℕ) → k < length form.leads → slice_index form.leads k ≢ j
  column_free none = is_free form.leads j next s.free rising s.columns none

  pub basis_free : 2 ≤ form.modulus → ((next < length form.leads) × (slice_index form.leads next ≡ j) → ⊥) → (more : ResidueMatrix) (v : ResidueRow) → more.modulus ≡ form.modulus →
      more.matrix ≡ with_row made.matrix v.row → v.modulus ≡ form.modulus → length v.row ≡ form.matrix.width →
      IsBasisRow form.modulus form.leads (column_at form.matrix j) j v.row → IsBasisSoFar form (j + 1) next more v
  basis_free two none more v modulus matrix row_modulus row_length row = record {
    free = s.free ++ j ∷ [];
    columns = free_more form.leads j next s.free rising s.columns (column_free none);
    modulus = modulus;
    rows = subst (AreBasisRows form.modulus form.matrix form.leads (s.free ++ j ∷ [])) (sym matrix) (basis_more two s.rows j v.row row_length row);
    row_modulus = row_modulus;
    row_length = row_length;
  }

  -- after all columns all the free ones have rows
  pub basis_columns : j ≡ form.matrix.width → AreFree form.matrix.width form.leads s.free
  basis_columns end = subst (λ n. AreFree n form.leads s.free) end
      (all_columns form.leads j next s.free rising s.columns (λ k l. omega (arith, sound.leads.1.inside k (omega (arith, sound.rank)))))

-- a basis row by what is given of its column
pub row_given : (p q : ℕ) (leads told column : List ℕ) (f : ℕ) (rs vs v : List ℕ) → q ≡ p → told ≡ leads → rs ≡ support column → vs ≡ nonzeros column →
    spread (length leads) (support column) (nonzeros column) ≡ column → IsBasisRow q told (spread (length told) rs vs) f v → IsBasisRow p leads column f v
row_given p q leads told column f rs vs v a b c d e h =
    subst (λ t. IsBasisRow p leads t f v) (ap₂ (spread (length leads)) c d ∙ e) (subst (λ t. IsBasisRow p t (spread (length t) rs vs) f v) b (subst (λ t. IsBasisRow t told (spread (length told) rs vs) f v) a h))

module _ (p : ℕ) (E : Matrix) (leads free : List ℕ) (K : Matrix) (two : 2 ≤ p) (m : IsMatrix p E) (long : length leads ≡ E.height) (c : AreFree E.width leads free)
    (b : AreBasisRows p E leads free K) where
  at_lead : (g k : ℕ) → g < length free → k < E.height → entry K g (slice_index leads k) ≡ (p - entry E k (slice_index free g)) % p
  at_lead g k l o = (b.each g l).at_lead k (omega arith) ∙ ap (λ x. (p - x) % p) (at_list_of E.height (λ i. entry E i (slice_index free g)) k o)

  at_own : (g : ℕ) → g < length free → entry K g (slice_index free g) ≡ 1
  at_own g l = (b.each g l).one

  at_other : (g t : ℕ) → g < length free → t < length free → t ≢ g → entry K g (slice_index free t) ≡ 0
  at_other g t l o d =
      (b.each g l).elsewhere (slice_index free t) (omega (arith, (b.matrix.each g (omega (arith, b.height))).len, b.width, c.below t o))
      (λ e. elim (cases_lt t g) [ inl less ↦ omega (arith, c.rising t g less l) | inr more ↦ omega (arith, c.rising g t (omega arith) o) ])
      (λ k a. c.apart k t a o)

  module _ (has : HasLeads E leads) where
    -- the basis is reduced
    basis_ends : HasEnds K free
    basis_ends = (
      sym b.height,
      record {
        inside = λ g l. omega (arith, c.below g (omega (arith, b.height)), b.width);
        one = λ g l. at_own g (omega (arith, b.height));
        past = λ g j l o behind. elim (c.each j (omega (arith, b.width))) [
          | inl w ↦
              let k : ℕ = w.0 in
              let a : g < length free = omega (arith, b.height) in
              let row_in : k < E.height = omega (arith, w.1) in
              let z : entry E k (slice_index free g) ≡ 0 = has.1.past k (slice_index free g) row_in (c.below g a) (omega (arith, w.2)) in
              ap (entry K g) (sym w.2) ∙ at_lead g k a row_in ∙ ap (λ x. (p - x) % p) z ∙ negative_zero p (omega arith)
          | inr w ↦ ap (entry K g) (sym w.2) ∙ at_other g w.0 (omega (arith, b.height)) w.1 (λ e. omega (arith, ap (slice_index free) e, w.2))
        ];
        rising = λ k t a o. c.rising k t a (omega (arith, b.height));
        alone = λ k t a o d. at_other t k (omega (arith, b.height)) (omega (arith, b.height)) (λ e. d (sym e));
      },
    )

    -- the term at column j of the product of row k of E with row g of the basis, but for the free column of g
    other_term : ℕ → ℕ → ℕ → ℕ
    other_term g k j = cond (eqb j (slice_index free g)) 0 (entry E k j * entry K g j)

    other_here : (g k j : ℕ) → j ≡ slice_index free g → other_term g k j ≡ 0
    unfolding other_term
    other_here g k j e = cond-true (eqb j (slice_index free g)) 0 _ (eq-eqb j (slice_index free g) e)

    other_else : (g k j : ℕ) → j ≢ slice_index free g → other_term g k j ≡ entry E k j * entry K g j
    unfolding other_term
    other_else g k j d = cond-false (eqb j (slice_index free g)) 0 _ (ne_eqb j (slice_index free g) d)

    other_zero : (g k j : ℕ) → entry E k j * entry K g j ≡ 0 → other_term g k j ≡ 0
    other_zero g k j z = elim (cases_eq j (slice_index free g)) [ inl e ↦ other_here g k j e | inr d ↦ other_else g k j d ∙ z ]

    split_term : (g k j : ℕ) → g < length free → entry E k j * entry K g j ≡ delta (slice_index free g) j * entry E k j + other_term g k j
    split_term g k j l =
        let f : ℕ = slice_index free g in
        elim (cases_eq j f) [
          | inl e ↦ omega (
            arith,
            ap (λ x. entry E k j * x) (ap (entry K g) e ∙ at_own g l),
            ap (λ x. x * entry E k j) (ap (delta f) e ∙ delta_same f),
            other_here g k j e,
          )
          | inr d ↦ omega (arith, ap (λ x. x * entry E k j) (delta_other f j d), other_else g k j d)
        ]

    others_sum : (g k : ℕ) → g < length free → k < E.height → sum_below E.width (other_term g k) ≡ (p - entry E k (slice_index free g)) % p
    others_sum g k l o =
        let at : ℕ = slice_index leads k in
        let inside : at < E.width = has.1.inside k o in
        sum_single E.width (other_term g k) at inside (λ j a d. elim (c.each j a) [
          | inl w ↦
              let t : ℕ = w.0 in
              let differs : k ≢ t = λ e. d (sym w.2 ∙ ap (slice_index leads) (sym e)) in
              other_zero g k j (ap (λ x. x * entry K g j) (ap (entry E k) (sym w.2) ∙ has.1.alone t k (omega (arith, w.1)) o differs) ∙ zero-mul (entry K g j))
          | inr w ↦ elim (cases_eq g w.0) [
            | inl e ↦ other_here g k j (sym w.2 ∙ ap (slice_index free) (sym e))
            | inr n ↦ other_zero g k j (ap (λ x. entry E k j * x) (ap (entry K g) (sym w.2) ∙ at_other g w.0 l w.1 (λ e. n (sym e))) ∙ mul-zero (entry E k j))
          ]
        ])
        ∙ other_else g k at (c.apart k g (omega arith) l)
        ∙ ap₂ (λ x y. x * y) (has.1.one k o) (at_lead g k l o) ∙ one-mul _

    -- each row is a null vector of the form
    basis_null : (g : ℕ) → g < length free → IsNull p E (row K g)
    basis_null g l = (
      subst (λ n. IsVector p n (row K g)) b.width (b.matrix.each g (omega (arith, b.height))),
      list_of_equal E.height _ (λ k. 0) (λ k o.
          let x : ℕ = entry E k (slice_index free g) in
          ap (λ t. t % p)
          (sum_equal E.width (λ j. entry E k j * entry K g j) (λ j. delta (slice_index free g) j * entry E k j + other_term g k j) (λ j a. split_term g k j l)
          ∙ sum_add E.width (λ j. delta (slice_index free g) j * entry E k j) (other_term g k)
          ∙ ap₂ (λ s t. s + t) (sum_delta E.width (slice_index free g) (entry E k) (c.below g l)) (others_sum g k l o))
          ∙ negative_sum p x (entry_residue p E m k (slice_index free g) o (c.below g l))),
    )

    -- so they are the kernel basis of the form
    form_kernel : IsPrime p → IsKernel p E K
    form_kernel prime =
        let rref : IsRref p E E = record { matrix = m; width = refl; form = (leads, has); span = λ v. (λ x. x, λ x. x) } in
        kernel_of_rank p E E.height K prime m (E, rref, refl) (record {
          matrix = b.matrix;
          height = omega (arith, c.long, b.height);
          width = b.width;
          form = (free, basis_ends);
          null = λ g l. basis_null g (omega (arith, b.height));
        })

-- what is a null vector of one matrix is one of each whose rows, modulo p, lie in its row space
null_through : (p : ℕ) (A E : Matrix) (v : List ℕ) → 2 ≤ p → E.width ≡ A.width → ((w : List ℕ) → IsCombination p A w → IsCombination p E w) → IsNull p E v → IsNull p A v
null_through p A E v two width within null = (
  subst (λ n. IsVector p n v) width null.0,
  list_of_equal A.height _ (λ i. 0) (λ i l.
      let y : List ℕ = list_of A.height (delta i) in
      let vector : IsVector p A.height y = vector_of p A.height (delta i) (λ j o. elim (cases_eq j i) [ inl e ↦ omega (arith, ap (delta i) e, delta_same i) | inr d ↦ omega (arith, delta_other i j d) ]) in
      let zero : dot p E.width v (combine p y A) ≡ 0 = null_orthogonal p E v (combine p y A) null (within (combine p y A) (y, vector, refl)) in
      let value : ℕ = sum_below A.width (λ j. entry A i j * slice_index v j) % p in
      let one : dot p A.height y (apply p A v) ≡ value =
      ap (λ t. t % p) (sum_equal A.height (λ k. slice_index y k * slice_index (apply p A v) k) (λ k. delta i k * slice_index (apply p A v) k) (λ k o. ap (λ t. t * slice_index (apply p A v) k) (at_list_of A.height (delta i) k o))
      ∙ sum_delta A.height i (slice_index (apply p A v)) l ∙ at_apply p A v i l) ∙ mod-mod _ p in
      sym one ∙ sym (dot_combine p y A v) ∙ dot_turned p A.width (combine p y A) v ∙ ap (λ n. dot p n v (combine p y A)) (sym width) ∙ zero),
)

-- matrices of one row space have one kernel basis
kernel_through : (p : ℕ) (A E K : Matrix) → 2 ≤ p → E.width ≡ A.width → SameSpan p A E → IsKernel p E K → IsKernel p A K
kernel_through p A E K two width span k = record {
  matrix = k.matrix;
  width = k.width ∙ width;
  null = λ i l. null_through p A E (row K i) two width (λ w. (span w).0) (k.null i l);
  every = λ v null. k.every v (null_through p E A v two (sym width) (λ w. (span w).1) null);
  form = k.form;
}

-- the basis is that of the matrix whose form it is read off
pub basis_kernel : (p : ℕ) (A E : Matrix) (leads free : List ℕ) (K : Matrix) → IsPrime p → IsRref p A E → HasLeads E leads → AreFree E.width leads free → AreBasisRows p E leads free K → IsKernel p A K
basis_kernel p A E leads free K prime rref has c b =
    kernel_through p A E K prime.two_or_more rref.width rref.span (form_kernel p E leads free K prime.two_or_more rref.matrix has.0 c b has prime)

-- a column, its free column and the form's leads determine the row
basis_row_unique : (p : ℕ) (leads column : List ℕ) (f : ℕ) (u v : List ℕ) → IsBasisRow p leads column f u → IsBasisRow p leads column f v → length u ≡ length v → u ≡ v
basis_row_unique p leads column f u v a b same = list_equal (length v) u v same refl (λ j l. elim (cases_eq j f) [
  | inl e ↦ ap (slice_index u) e ∙ a.one ∙ sym (ap (slice_index v) e ∙ b.one)
  | inr d ↦ elim (lead_or_none leads j) [
    | inl w ↦ ap (slice_index u) (sym w.2) ∙ a.at_lead w.0 w.1 ∙ sym (ap (slice_index v) (sym w.2) ∙ b.at_lead w.0 w.1)
    | inr none ↦ a.elsewhere j (omega arith) d none ∙ sym (b.elsewhere j l d none)
  ]
])

-- each form has a basis
module _ (p : ℕ) (E : Matrix) (leads : List ℕ) (two : 2 ≤ p) (m : IsMatrix p E) (has : HasLeads E leads) where
  leads_rise : (s t : ℕ) → s < t → t < length leads → slice_index leads s < slice_index leads t
  leads_rise s t a b = has.1.rising s t a (omega (arith, has.0))

  -- its entries
  value : ℕ → ℕ → ℕ
  value f j = cond (eqb j f) 1 ((p - entry_at leads (column_at E f) j) % p)

  value_own : (f j : ℕ) → j ≡ f → value f j ≡ 1
  unfolding value
  value_own f j e = cond-true (eqb j f) 1 ((p - entry_at leads (column_at E f) j) % p) (eq-eqb j f e)

  value_other : (f j : ℕ) → j ≢ f → value f j ≡ (p - entry_at leads (column_at E f) j) % p
  unfolding value
  value_other f j d = cond-false (eqb j f) 1 ((p - entry_at leads (column_at E f) j) % p) (ne_eqb j f d)

  value_small : (f j : ℕ) → value f j < p
  value_small f j = elim (cases_eq j f) [
    | inl e ↦ omega (arith, value_own f j e)
    | inr d ↦ let pos : 0 < p = omega arith in omega (arith, value_other f j d, mod-lt (p - entry_at leads (column_at E f) j) pos)
  ]

  value_row : (f : ℕ) → f < E.width → ((k : ℕ) → k < length leads → slice_index leads k ≢ f) → IsBasisRow p leads (column_at E f) f (list_of E.width (value f))
  value_row f inside free = record {
    one = at_list_of E.width (value f) f inside ∙ value_own f f refl;
    at_lead = λ k l.
        at_list_of E.width (value f) (slice_index leads k) (has.1.inside k (omega (arith, has.0))) ∙ value_other f (slice_index leads k) (free k l)
        ∙ ap (λ x. (p - x) % p) (entry_here leads (column_at E f) (has.0 ∙ sym (length_list_of E.height (λ i. entry E i f))) leads_rise k l);
    elsewhere = λ j l d none.
        at_list_of E.width (value f) j (omega (arith, length_list_of E.width (value f))) ∙ value_other f j d
        ∙ ap (λ x. (p - x) % p) (elim (entry_cover leads (column_at E f) j) [ inl z ↦ z | inr w ↦ absurd (none w.0 w.1 w.2) ]) ∙ negative_zero p (omega arith);
  }

  abbrev basis_of : List ℕ → Matrix
  basis_of free = matrix_of (length free) E.width (λ g j. value (slice_index free g) j)

  basis_rows : (free : List ℕ) → AreFree E.width leads free → AreBasisRows p E leads free (basis_of free)
  basis_rows free c = record {
    matrix = is_matrix_of p (length free) E.width (λ g j. value (slice_index free g) j) (λ g j a b. value_small (slice_index free g) j);
    width = refl;
    height = refl;
    each = λ g l.
        subst (IsBasisRow p leads (column_at E (slice_index free g)) (slice_index free g)) (sym (row_matrix_of (length free) E.width (λ g j. value (slice_index free g) j) g l))
        (value_row (slice_index free g) (c.below g l) (λ k a. c.apart k g a l));
  }

  pub basis_exists : (free : List ℕ) × AreFree E.width leads free × ((K : Matrix) × AreBasisRows p E leads free K)
  basis_exists =
      let found = free_found leads leads_rise E.width (λ k l. has.1.inside k (omega (arith, has.0))) in
      (found.0, found.1, (basis_of found.0, basis_rows found.0 found.1))

  -- where f is the first column that is no lead, its row is the first
  pub first_row : (f : ℕ) (v : List ℕ) → f < E.width → f ≤ length leads → ((k : ℕ) → k < f → slice_index leads k ≡ k) → ((k : ℕ) → k < length leads → slice_index leads k ≢ f) →
      length v ≡ E.width → IsBasisRow p leads (column_at E f) f v → v ≡ row basis_exists.2.0 0
  first_row f v inside few before none long made =
      let free : List ℕ = basis_exists.0 in
      let b = basis_exists.2.1 in
      let first = first_of_free E.width f leads free basis_exists.1 inside before few none in
      basis_row_unique p leads (column_at E f) f v (row basis_exists.2.0 0) made (subst (λ t. IsBasisRow p leads (column_at E t) t (row basis_exists.2.0 0)) first.1 (b.each 0 first.0))
      (long ∙ sym ((b.matrix.each 0 (omega (arith, first.0, b.height))).len ∙ b.width))

  -- where all columns are leads, the basis has no row
  pub no_row : (f : ℕ) → E.width ≤ f → f ≤ length leads → ((k : ℕ) → k < f → slice_index leads k ≡ k) → 0 < basis_exists.2.0.height → ⊥
  no_row f all few before some =
      let free : List ℕ = basis_exists.0 in
      let first : 0 < length free = omega (arith, basis_exists.2.1.height) in
      let low : slice_index free 0 < E.width = basis_exists.1.below 0 first in
      basis_exists.1.apart (slice_index free 0) 0 (omega arith) first (before (slice_index free 0) (omega arith))
