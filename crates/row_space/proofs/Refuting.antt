-- The refuting system is the system for a combination y with y A = 0 and y . b = 1.
use Rattle.std.proofs.Common.{ℕ, ◌≡◌, ◌+◌, ◌*◌, ◌%◌, ◌<◌, ◌≤◌, ◌↔◌, inl, inr, List, [], ◌∷◌, ◌++◌, map, slice_index, sym, ap, ap₂, subst, ◌∙◌, arith, mul_comm}
use Rattle.std.specs.List.{range_with_len}
use Rattle.std.proofs.lemmas.Bool.{cases_eq}
use Rattle.std.proofs.lemmas.List.{get_or_append_left, get_or_push, length-append, same_from_push}
use Rattle.std.proofs.lemmas.List.FromFn.{get_or-map-range_with_len, length-map-range_with_len}
use Rattle.residue_words.specs.Residues.{sum_below}
use Rattle.residue_words.specs.Matrix.{Matrix, IsMatrix, IsVector, row, entry, list_of, apply, combine, dot, zeros}
use Rattle.residue_words.proofs.Sums.{sum_equal}
use Rattle.residue_words.proofs.Vectors.{at_list_of, at_zeros, entry_residue, length_list_of, list_of_equal, list_of_more, vector_of}
use Rattle.row_space.specs.Kernel.{IsNull}
use Rattle.row_space.specs.Solution.{Annuls, IsSolution, refuting_rows, refuting_side}
use Rattle.row_space.specs.Laws.{RefutingSystem}

-- its rows: the columns of A, and b
pub refuting_column : (A : Matrix) (b : List ℕ) (j : ℕ) → j < A.width → row (refuting_rows A b) j ≡ list_of A.height (λ i. entry A i j)
refuting_column A b j l =
    get_or_append_left (map (λ j. list_of A.height (λ i. entry A i j)) (range_with_len 0 A.width)) (list_of A.height (slice_index b) ∷ []) [] j
    (omega (arith, length-map-range_with_len (λ j. list_of A.height (λ i. entry A i j)) 0 A.width))
    ∙ get_or-map-range_with_len (λ j. list_of A.height (λ i. entry A i j)) 0 A.width j j [] l (omega arith)

pub refuting_end : (A : Matrix) (b : List ℕ) → row (refuting_rows A b) A.width ≡ list_of A.height (slice_index b)
refuting_end A b =
    get_or_push (map (λ j. list_of A.height (λ i. entry A i j)) (range_with_len 0 A.width)) (list_of A.height (slice_index b)) [] A.width
    (length-map-range_with_len (λ j. list_of A.height (λ i. entry A i j)) 0 A.width)

-- it is a matrix of residues, and its right-hand side a vector
pub refuting_matrix : (p : ℕ) (A : Matrix) (b : List ℕ) → IsMatrix p A → IsVector p A.height b → IsMatrix p (refuting_rows A b)
refuting_matrix p A b m v = record {
  len =
      length-append (map (λ j. list_of A.height (λ i. entry A i j)) (range_with_len 0 A.width)) (list_of A.height (slice_index b) ∷ [])
      ∙ ap (λ n. n + 1) (length-map-range_with_len (λ j. list_of A.height (λ i. entry A i j)) 0 A.width);
  each = λ j l. elim (cases_eq j A.width) [
    | inl e ↦ subst (IsVector p A.height) (sym (ap (row (refuting_rows A b)) e ∙ refuting_end A b)) (vector_of p A.height (slice_index b) v.residues)
    | inr d ↦
        let less : j < A.width = omega arith in
        subst (IsVector p A.height) (sym (refuting_column A b j less)) (vector_of p A.height (λ i. entry A i j) (λ i o. entry_residue p A m i j o less))
  ];
}

pub side_vector : (p n : ℕ) → 2 ≤ p → IsVector p (n + 1) (refuting_side n)
side_vector p n two = record {
  len = length-append (zeros n) (1 ∷ []) ∙ ap (λ k. k + 1) (length_list_of n (λ j. 0));
  residues = λ j l. elim (cases_eq j n) [
    | inl e ↦ subst (λ t. t < p) (sym (ap (slice_index (refuting_side n)) e ∙ get_or_push (zeros n) 1 0 n (length_list_of n (λ j. 0)))) (omega arith)
    | inr d ↦
        let less : j < n = omega arith in
        subst (λ t. t < p) (sym (get_or_append_left (zeros n) (1 ∷ []) 0 j (omega (arith, length_list_of n (λ j. 0))) ∙ at_zeros n j less)) (omega arith)
  ];
}

-- its values at y: y A, and y . b
refuting_values : (p : ℕ) (A : Matrix) (b y : List ℕ) → apply p (refuting_rows A b) y ≡ combine p y A ++ dot p A.height y b ∷ []
refuting_values p A b y =
    list_of_more A.width (λ j. sum_below A.height (λ i. entry (refuting_rows A b) j i * slice_index y i) % p)
    ∙ ap₂ (λ u t. u ++ t ∷ [])
    (list_of_equal A.width _ _ (λ j l. ap (λ t. t % p) (sum_equal A.height (λ i. entry (refuting_rows A b) j i * slice_index y i) (λ i. slice_index y i * entry A i j) (λ i o.
    ap (λ t. t * slice_index y i) (ap (λ u. slice_index u i) (refuting_column A b j l) ∙ at_list_of A.height (λ i. entry A i j) i o) ∙ mul_comm (entry A i j) (slice_index y i)))))
    (ap (λ t. t % p) (sum_equal A.height (λ i. entry (refuting_rows A b) A.width i * slice_index y i) (λ i. slice_index y i * slice_index b i) (λ i o.
    ap (λ t. t * slice_index y i) (ap (λ u. slice_index u i) (refuting_end A b) ∙ at_list_of A.height (slice_index b) i o) ∙ mul_comm (slice_index b i) (slice_index y i))))

-- the y whose values are zeros and c
annuls_iff : (p : ℕ) (A : Matrix) (b : List ℕ) (c : ℕ) (y : List ℕ) → IsSolution p (refuting_rows A b) (zeros A.width ++ c ∷ []) y ↔ Annuls p A b c y
annuls_iff p A b c y = (
  λ s. let parts = same_from_push (combine p y A) (zeros A.width) (dot p A.height y b) c (sym (refuting_values p A b y) ∙ s.1) in (s.0, parts.0, parts.1),
  λ a. (a.0, refuting_values p A b y ∙ ap₂ (λ u t. u ++ t ∷ []) a.1 a.2),
)

null_iff : (p : ℕ) (A : Matrix) (b y : List ℕ) → IsNull p (refuting_rows A b) y ↔ Annuls p A b 0 y
null_iff p A b y =
    let side : zeros (A.width + 1) ≡ zeros A.width ++ 0 ∷ [] = list_of_more A.width (λ j. 0) in
    let same = annuls_iff p A b 0 y in
    (λ s. same.0 (s.0, s.1 ∙ side), λ a. let s = same.1 a in (s.0, s.1 ∙ sym side))

pub refuting : RefutingSystem
refuting p A b y two m v =
    record {
      solution = annuls_iff p A b 1 y;
      reduced = (
        λ s. record { refutes = (annuls_iff p A b 1 y).0 s.solves; reduced = λ z i none end. s.reduced z i ((null_iff p A b z).1 none) end },
        λ r. record { solves = (annuls_iff p A b 1 y).1 r.refutes; reduced = λ z j null end. r.reduced z j ((null_iff p A b z).0 null) end },
      );
    }
