-- What is kept of a matrix answers each right-hand side; and vectors beside matrices of one row or column.
use Rattle.std.proofs.Common.{ℕ, ◌≡◌, ◌+◌, ◌*◌, ◌%◌, ◌<◌, ◌≤◌, inl, inr, List, [], ◌∷◌, length, replicate, slice_index, slice_set, sym, refl, ap, subst, ◌∙◌, arith, mul-one, zero-add, mod-eq_of_lt}
use Rattle.std.proofs.lemmas.List.{get_or-replicate, get_or-set_other, get_or-set_same, length-replicate, length-set}
use Rattle.std.proofs.lemmas.Bool.{cases_eq}
use Rattle.residue_words.specs.declared.plain.Pair.{Pair}
use Rattle.residue_words.specs.Residues.{IsPrime, inverse, sum_below}
use Rattle.residue_words.specs.Matrix.{Matrix, IsMatrix, IsVector, apply, dot, entry, row, zeros}
use Rattle.residue_words.proofs.Sums.{sum_single}
use Rattle.residue_words.proofs.Vectors.{at_apply, at_list_of, at_zeros, entry_residue, length_list_of, list_equal, list_of_equal}
use Rattle.sparse_rows.specs.Rows.{ResidueMatrix, transposed}
use Rattle.row_space.specs.Factors.{AreFactors, row_at}
use Rattle.row_space.specs.Kernel.{IsKernel}
use Rattle.row_space.specs.Solution.{IsReducedSolution, IsRefutingCombination, IsSolution}
use Rattle.kernel_solve.specs.declared.prepared.Reply.TheVariants.{Solution, Refuted}
use Rattle.kernel_solve.specs.Column.{column}
use Rattle.kernel_solve.specs.Prepared.{FitTogether, IsPreparedFor, IsReply, Preparation, preparation}
use Rattle.kernel_solve.specs.Refuted.{AreZeroBehind, IsFirstHit, IsFirstNonzero, divided, multiple}
use Rattle.kernel_solve.specs.Substituted.{AddsTimes, InvertEach, IsLower, IsUpper, left_pivot, right_pivot}
use Rattle.kernel_solve.proofs.Matrices.{column_vector, transposed_entry}
use Rattle.kernel_solve.proofs.Refuting.{first_hit_holds, unsolvable_hit_holds}
use Rattle.kernel_solve.proofs.Substituting.{factors_solve, is_lower, is_upper}

-- a matrix of one column times 1
pub times_one : (p : ℕ) (B : Matrix) → IsMatrix p B → B.width ≡ 1 → apply p B (1 ∷ []) ≡ column B
times_one p B m narrow = list_of_equal B.height _ _ (λ i l.
    ap (λ n. sum_below n (λ j. entry B i j * slice_index (1 ∷ []) j) % p) narrow
    ∙ ap (λ s. s % p) (sum_single 1 (λ j. entry B i j * slice_index (1 ∷ []) j) 0 (omega arith) (λ j lj d. absurd (omega arith)) ∙ mul-one (entry B i 0))
    ∙ mod-eq_of_lt (entry_residue p B m i 0 l (omega arith)))

-- the first k values are copied to a row, and behind them it is 0
pub record IsCopiedTo (values : List ℕ) (k : ℕ) (to : List ℕ) : Type 0 where
  pub long : length to ≡ length values
  pub done : (j : ℕ) → j < k → slice_index to j ≡ slice_index values j
  pub behind : (j : ℕ) → k ≤ j → j < length to → slice_index to j ≡ 0

module _ {values to : List ℕ} {k : ℕ} (h : IsCopiedTo values k to) (l : k < length values) where
  pub copied_value : (next : List ℕ) → next ≡ slice_set to k (slice_index values k) → IsCopiedTo values (k + 1) next
  copied_value next e = subst (IsCopiedTo values (k + 1)) (sym e) (record {
    long = length-set to k (slice_index values k) ∙ h.long;
    done = λ j b. elim (cases_eq j k) [
      | inl same ↦ ap (slice_index (slice_set to k (slice_index values k))) same ∙ get_or-set_same to k (slice_index values k) 0 (omega (arith, h.long)) ∙ ap (slice_index values) (sym same)
      | inr d ↦ get_or-set_other to k j (slice_index values k) 0 d ∙ h.done j (omega arith)
    ];
    behind = λ j b lj. get_or-set_other to k j (slice_index values k) 0 (λ q. omega arith) ∙ h.behind j (omega arith) (omega (arith, lj, length-set to k (slice_index values k)));
  })

  pub copied_zero : slice_index values k ≡ 0 → IsCopiedTo values (k + 1) to
  copied_zero z = record {
    long = h.long;
    done = λ j b. elim (cases_eq j k) [
      | inl same ↦ ap (slice_index to) same ∙ h.behind k (omega arith) (omega (arith, h.long)) ∙ sym (ap (slice_index values) same ∙ z)
      | inr d ↦ h.done j (omega arith)
    ];
    behind = λ j b lj. h.behind j (omega arith) lj;
  }

pub copied_all : {values to : List ℕ} {k : ℕ} → IsCopiedTo values k to → k ≡ length values → to ≡ values
copied_all {values} {to} {k} h e = list_equal k to values (h.long ∙ sym e) (sym e) h.done

pub copied_none : (values to : List ℕ) → to ≡ zeros (length values) → IsCopiedTo values 0 to
copied_none values to e = record {
  long = ap length e ∙ length_list_of (length values) _;
  done = λ j l. absurd (omega arith);
  behind = λ j b l. ap (slice_index to) refl ∙ ap (λ xs. slice_index xs j) e ∙ at_zeros (length values) j (omega (arith, ap length e, length_list_of (length values) (λ j. 0)));
}

-- a vector by equal modulus, length and entries
pub vector_moved : {p q n m : ℕ} {u v : List ℕ} → IsVector p n u → p ≡ q → n ≡ m → u ≡ v → IsVector q m v
vector_moved {p} {q} {n} {m} {u} {v} h modulus long same = subst (IsVector q m) same (subst (λ n. IsVector q n u) long (subst (λ p. IsVector p n u) modulus h))

-- a row turned to a column
pub turned_column : (M : Matrix) → M.height ≡ 1 → length (row M 0) ≡ M.width → column (transposed M) ≡ row M 0
turned_column M low long = list_equal M.width _ (row M 0) (length_list_of M.width _) long (λ i l.
    at_list_of M.width (λ i. entry (transposed M) i 0) i l ∙ transposed_entry M i 0 l (omega (arith, low)))

-- a multiple added to zeros is a multiple
pub multiple_added : (p by n : ℕ) (v old new : List ℕ) → length v ≡ n → length new ≡ n → old ≡ replicate n 0 → AddsTimes p by v old new → new ≡ multiple p by v
multiple_added p by n v old new long whole e adds = list_equal n new _ whole (length_list_of (length v) _ ∙ long) (λ j l.
    let zero_there : slice_index old j ≡ 0 = ap (λ u. slice_index u j) e ∙ get_or-replicate {A = ℕ} n j 0 0 l in
    adds j (omega (arith, ap length e, length-replicate {A = ℕ} n 0, l)) ∙ ap (λ x. (x + by * slice_index v j) % p) zero_there ∙ ap (λ x. x % p) (zero-add (by * slice_index v j)) ∙ sym (at_list_of (length v) (λ j. by * slice_index v j % p) j (omega (arith, long))))

-- what the passes find is the reduced solution, if there is one
pub solution_holds : (pivots : List Pair) (L U N R : ResidueMatrix) → FitTogether pivots L U N R → {lefts rights b z x y : List ℕ} →
    InvertEach L.modulus (length pivots) (left_pivot L.matrix pivots) lefts → InvertEach L.modulus (length pivots) (right_pivot U.matrix pivots) rights →
    IsVector L.modulus L.matrix.height b → IsVector L.modulus L.matrix.width z →
    (IsLower L.modulus L.matrix pivots lefts → (k : ℕ) → k < length pivots → dot L.modulus L.matrix.width (row L.matrix (row_at pivots k)) z ≡ slice_index b (row_at pivots k)) → IsVector U.modulus U.matrix.width x →
    (IsUpper U.modulus U.matrix pivots rights → (k : ℕ) → k < length pivots → dot U.modulus U.matrix.width (row U.matrix k) x ≡ slice_index z k) →
    ((A : Matrix) (b : List ℕ) → IsKernel N.modulus A N.matrix → IsSolution N.modulus A b x → IsReducedSolution N.modulus A b y) →
    (p : ℕ) (A : Matrix) → IsPrime p → IsMatrix p A → IsPreparedFor p A (preparation pivots L U N R) → (((v : List ℕ) → ¬ IsSolution p A b v) → ⊥) → IsReducedSolution p A b y
solution_holds pivots L U N R fit {lefts} {rights} {b} {z} {x} {y} inverts_left inverts_right vb vz at vx above reduces p A prime m prepared solvable =
    let is : L.modulus ≡ p = prepared.modulus in
    let is_right : U.modulus ≡ p = fit.right_modulus ∙ is in
    let f : AreFactors p A pivots L.matrix U.matrix = prepared.factors prime in
    let lower : IsLower p L.matrix pivots lefts = is_lower prime f (subst (λ n. InvertEach n (length pivots) (left_pivot L.matrix pivots) lefts) is inverts_left) in
    let upper : IsUpper p U.matrix pivots rights = is_upper prime f (subst (λ n. InvertEach n (length pivots) (right_pivot U.matrix pivots) rights) is inverts_right) in
    let solution : IsSolution p A b x = factors_solve p A pivots L.matrix U.matrix b z x prime m f (vector_moved vb is prepared.height refl) (vector_moved vz is refl refl) (vector_moved vx is_right refl refl)
    (subst (λ n. IsLower n L.matrix pivots lefts → (k : ℕ) → k < length pivots → dot n L.matrix.width (row L.matrix (row_at pivots k)) z ≡ slice_index b (row_at pivots k)) is at lower)
    (subst (λ n. IsUpper n U.matrix pivots rights → (k : ℕ) → k < length pivots → dot n U.matrix.width (row U.matrix k) x ≡ slice_index z k) is_right above upper) solvable in
    subst (λ n. (A : Matrix) (b : List ℕ) → IsKernel n A N.matrix → IsSolution n A b x → IsReducedSolution n A b y) (fit.null_modulus ∙ is) reduces A b (prepared.null prime) solution

-- the replies to a column b of residues as high as what is kept
module _ (pivots : List Pair) (L U N R : ResidueMatrix) (fit : FitTogether pivots L U N R) (B : Matrix) (sound : IsMatrix L.modulus B) (narrow : B.width ≡ 1) (high : B.height ≡ L.matrix.height)
    (products : List ℕ) (are : products ≡ apply R.modulus R.matrix (column B)) where
  abbrev q : Preparation
  q = preparation pivots L U N R

  vector : IsVector L.modulus B.height (column B)
  vector = column_vector sound (omega (arith, narrow))

  product_at : (t : ℕ) → t < R.matrix.height → slice_index products t ≡ dot R.modulus R.matrix.width (row R.matrix t) (column B)
  product_at t l = ap (λ u. slice_index u t) are ∙ at_apply R.modulus R.matrix (column B) t l

  many : length products ≡ R.matrix.height
  many = ap length are ∙ length_list_of R.matrix.height _

  pub refuted_is : (k : ℕ) (y : ResidueMatrix) → IsFirstNonzero products k → y.modulus ≡ R.modulus → IsMatrix y.modulus y.matrix → y.matrix.height ≡ 1 → y.matrix.width ≡ R.matrix.width →
      row y.matrix 0 ≡ multiple R.modulus (inverse R.modulus (slice_index products k)) (row R.matrix k) → IsReply q B (Refuted y)
  refuted_is k y first modulus matrix tall wide is =
      let below : k < R.matrix.height = omega (arith, first.inside, many) in
      let same : y.modulus ≡ L.modulus = modulus ∙ fit.relations_modulus in
      let hit : IsFirstHit R.modulus R.matrix (column B) k = record {
        below = below;
        hit = λ z. first.nonzero (product_at k below ∙ z);
        before = λ t l. sym (product_at t (omega (arith, below))) ∙ first.before t l;
      } in
      let divided_is : row y.matrix 0 ≡ divided R.modulus R.matrix (column B) k = is ∙ ap (λ d. multiple R.modulus (inverse R.modulus d) (row R.matrix k)) (product_at k below) in
      record {
        shape = (same, subst (λ n. IsMatrix n y.matrix) same matrix, tall, wide ∙ fit.relations_width);
        right = λ p A prime m prepared. (
          wide ∙ fit.relations_width ∙ prepared.height,
          subst (IsRefutingCombination p A (column B)) (sym divided_is ∙ refl)
              (subst (λ n. IsRefutingCombination p A (column B) (divided n R.matrix (column B) k)) (sym (fit.relations_modulus ∙ prepared.modulus))
              (first_hit_holds p A (column B) R.matrix k prime m (subst (λ h. IsVector p h (column B)) (high ∙ prepared.height) (subst (λ n. IsVector n B.height (column B)) prepared.modulus vector))
              (prepared.relations prime) (subst (λ n. IsFirstHit n R.matrix (column B) k) (fit.relations_modulus ∙ prepared.modulus) hit))),
        );
      }

  pub solved_is : (x : ResidueMatrix) → AreZeroBehind products 0 → x.modulus ≡ L.modulus → IsMatrix x.modulus x.matrix → x.matrix.height ≡ U.matrix.width → x.matrix.width ≡ 1 →
      ((p : ℕ) (A : Matrix) → IsPrime p → IsMatrix p A → IsPreparedFor p A q → (((v : List ℕ) → ¬ IsSolution p A (column B) v) → ⊥) → IsReducedSolution p A (column B) (column x.matrix)) → IsReply q B (Solution x)
  solved_is x none modulus matrix tall thin solves = record {
    shape = (modulus, subst (λ n. IsMatrix n x.matrix) modulus matrix, tall, thin);
    right = λ p A prime m prepared. (
      tall ∙ prepared.width,
      solves p A prime m prepared (λ unsolvable.
          let vb : IsVector p A.height (column B) = subst (λ h. IsVector p h (column B)) (high ∙ prepared.height) (subst (λ n. IsVector n B.height (column B)) prepared.modulus vector) in
          let w = unsolvable_hit_holds p A (column B) R.matrix prime m vb (prepared.relations prime) unsolvable in
          let hit : IsFirstHit R.modulus R.matrix (column B) w.0 = subst (λ n. IsFirstHit n R.matrix (column B) w.0) (sym (fit.relations_modulus ∙ prepared.modulus)) w.1 in
          hit.hit (sym (product_at w.0 hit.below) ∙ none w.0 (omega arith) (omega (arith, hit.below, many)))),
    );
  }
