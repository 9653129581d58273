-- Each of these is at most one: the echelon form, the rank, the kernel basis, the reduced solution, the refuting combination.
use Rattle.std.proofs.Common.{ℕ, suc, ◌≡◌, ◌+◌, ◌*◌, ◌-◌, ◌%◌, ◌<◌, List, slice_index, sym, ap, ap₂, ◌∙◌, arith}
use Rattle.residue_words.specs.Matrix.{Matrix, row, zeros}
use Rattle.residue_words.proofs.Residues.{minus_one}
use Rattle.residue_words.proofs.Vectors.{mix, mix_vector, apply_linear, combine_linear, dot_linear, row_combination}
use Rattle.row_space.specs.Kernel.{IsNull}
use Rattle.row_space.specs.Solution.{Annuls, IsSolution}
use Rattle.row_space.specs.Laws.{KernelIsUnique, RankIsUnique, RefutationIsUnique, RrefIsUnique, SolutionIsUnique}
use Rattle.row_space.proofs.Ends.{difference_self, difference_ends}
use Rattle.row_space.proofs.Spans.{places_unique}

pub rref_unique : RrefIsUnique
rref_unique p A E F two a b =
    places_unique p (λ j lead. j < lead) (λ i j m n. omega arith) E F (slice_index a.form.0) (slice_index b.form.0) two a.matrix b.matrix (a.width ∙ sym b.width)
    a.form.1.1 b.form.1.1
    (λ k l. (b.span (row E k)).0 ((a.span (row E k)).1 (row_combination p E k two a.matrix l)))
    (λ k l. (a.span (row F k)).0 ((b.span (row F k)).1 (row_combination p F k two b.matrix l)))

pub rank_unique : RankIsUnique
rank_unique p A r s two a b = sym a.2 ∙ ap (λ E. E.height) (rref_unique p A a.0 b.0 two a.1 b.1) ∙ b.2

pub kernel_unique : KernelIsUnique
kernel_unique p A K L two a b =
    places_unique p (λ j end. end < j) (λ i j m n. omega arith) K L (slice_index a.form.0) (slice_index b.form.0) two a.matrix b.matrix (a.width ∙ sym b.width)
    a.form.1.1 b.form.1.1 (λ k l. b.every (row K k) (a.null k l)) (λ k l. a.every (row L k) (b.null k l))

-- the difference of two solutions is a null vector
pub solutions_differ : (p q : ℕ) (A : Matrix) (b x y : List ℕ) → p ≡ suc q → IsSolution p A b x → IsSolution p A b y → IsNull p A (mix p A.width 1 q x y)
solutions_differ p q A b x y e sx sy =
    (mix_vector p A.width 1 q x y (omega arith), apply_linear p 1 q A x y ∙ ap₂ (mix p A.height 1 q) sx.1 sy.1 ∙ difference_self p q A.height b e)

pub solution_unique : SolutionIsUnique
solution_unique p A b x y two a c =
    let q : ℕ = p - 1 in
    let e : p ≡ suc q = omega arith in
    let null : IsNull p A (mix p A.width 1 q x y) = solutions_differ p q A b x y e a.solves c.solves in
    difference_ends p q A.width x y two e a.solves.0 c.solves.0 (λ j end. a.reduced _ j null end) (λ j end. c.reduced _ j null end)

-- the difference of two refuting combinations annuls A and b
pub refutations_differ : (p q : ℕ) (A : Matrix) (b y z : List ℕ) → p ≡ suc q → Annuls p A b 1 y → Annuls p A b 1 z → Annuls p A b 0 (mix p A.height 1 q y z)
refutations_differ p q A b y z e ay az = (
  mix_vector p A.height 1 q y z (omega arith),
  combine_linear p 1 q y z A ∙ ap₂ (mix p A.width 1 q) ay.1 az.1 ∙ difference_self p q A.width (zeros A.width) e,
  dot_linear p A.height 1 q y z b ∙ ap₂ (λ s t. (1 * s + q * t) % p) ay.2 az.2
      ∙ ap (λ t. t % p) (let turn : 1 * 1 + q * 1 ≡ q * 1 + 1 = omega arith in turn) ∙ minus_one p q 1 e,
)

pub refutation_unique : RefutationIsUnique
refutation_unique p A b y z two a c =
    let q : ℕ = p - 1 in
    let e : p ≡ suc q = omega arith in
    let none : Annuls p A b 0 (mix p A.height 1 q y z) = refutations_differ p q A b y z e a.refutes c.refutes in
    difference_ends p q A.height y z two e a.refutes.0 c.refutes.0 (λ i end. a.reduced _ i none end) (λ i end. c.reduced _ i none end)
