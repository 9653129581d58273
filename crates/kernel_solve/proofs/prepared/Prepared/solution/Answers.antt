use Rattle.std.proofs.Common.{◌≡◌, ◌<◌, ℕ, List, length, slice_index, sym, refl, ap, subst, ◌∙◌, arith}
use Rattle.std.proofs.lemmas.List.{with_items_is}
use Rattle.std.proofs.lemmas.Result.{IfOk-weaker}
use Rattle.residue_words.specs.declared.plain.Pair.{Pair}
use Rattle.residue_words.specs.Matrix.{Matrix, IsVector, dot, row}
use Rattle.row_space.specs.Factors.{col_at, row_at}
use Rattle.row_space.specs.Kernel.{IsKernel}
use Rattle.row_space.specs.Solution.{IsReducedSolution, IsSolution}
use Rattle.sparse_rows.specs.Rows.{ResidueMatrix}
use Rattle.kernel_solve.specs.Prepared.{IsPreparedFor, Preparation}
use Rattle.kernel_solve.specs.Substituted.{IsLower, IsUpper}
use Rattle.kernel_solve.proofs.Preparing.{solution_holds, vector_moved}
use Rattle.kernel_solve.proofs.prepared.Prepared.solution.Goals as goal

pub forward-requires-clause-width : goal.forward-requires-clause-width
forward-requires-clause-width c = c.self.invariant.0.left_width ∙ ap length (sym c.items-pivots.ensures)

pub forward-requires-clause-pivots : goal.forward-requires-clause-pivots
forward-requires-clause-pivots c =
    subst (λ (ps : List Pair). (k : ℕ) → k < length ps → row_at ps k < c.self.inside.left.matrix.height) (sym c.items-pivots.ensures) c.self.invariant.0.rows_below

pub forward-requires-clause-inverses : goal.forward-requires-clause-inverses
forward-requires-clause-inverses c = vector_moved c.self.invariant.1.vector refl (ap length (sym c.items-pivots.ensures)) (sym c.deref.ensures.value)

pub forward-requires-clause-side : goal.forward-requires-clause-side
forward-requires-clause-side c = subst (λ (q : Preparation). IsVector q.modulus q.height c.args.side.now) (sym c.self.view_is) c.requires

pub back-requires-clause-height : goal.back-requires-clause-height
back-requires-clause-height c = c.self.invariant.0.right_height ∙ ap length (sym c.items-pivots.ensures)

pub back-requires-clause-pivots : goal.back-requires-clause-pivots
back-requires-clause-pivots c =
    subst (λ (ps : List Pair). (k : ℕ) → k < length ps → col_at ps k < c.self.inside.right.matrix.width) (sym c.items-pivots.ensures) c.self.invariant.0.columns_below

pub back-requires-clause-inverses : goal.back-requires-clause-inverses
back-requires-clause-inverses c = vector_moved c.self.invariant.2.vector (sym c.self.invariant.0.right_modulus) (ap length (sym c.items-pivots.ensures)) (sym c.deref-2.ensures.value)

pub back-requires-clause-side : goal.back-requires-clause-side
back-requires-clause-side c =
    vector_moved c.in_ok-z.ensures.vector (sym c.self.invariant.0.right_modulus) (c.self.invariant.0.left_width ∙ ap length (sym c.items-pivots.ensures)) (sym c.deref-3.ensures.value)

pub reduce-requires : goal.reduce-requires
reduce-requires c =
    vector_moved c.in_ok-x.ensures.vector (c.self.invariant.0.right_modulus ∙ sym c.self.invariant.0.null_modulus) (sym c.self.invariant.0.null_width) (sym c.as_mut_slice.ensures.value)

pub column_of-requires-clause-small : goal.column_of-requires-clause-small
column_of-requires-clause-small c =
    let fit = c.self.invariant.0 in
    let whole = with_items_is c.in_ok-x.x c.reduce.new.x (c.reduce.ensures.vector.len ∙ fit.null_width ∙ sym c.in_ok-x.ensures.vector.len ∙ sym c.in_ok-x.x.ok.0) in
    omega (arith, ap length (c.deref-4.ensures.value ∙ whole), c.reduce.ensures.vector.len, c.is_sound.ensures.width)

pub column_of-requires-clause-residues : goal.column_of-requires-clause-residues
column_of-requires-clause-residues c =
    let fit = c.self.invariant.0 in
    let whole = with_items_is c.in_ok-x.x c.reduce.new.x (c.reduce.ensures.vector.len ∙ fit.null_width ∙ sym c.in_ok-x.ensures.vector.len ∙ sym c.in_ok-x.x.ok.0) in
    let all : c.deref-4.result.now ≡ c.reduce.new.x = c.deref-4.ensures.value ∙ whole in
    vector_moved c.reduce.ensures.vector (fit.null_modulus ∙ sym fit.right_modulus ∙ sym c.modulus.ensures.value) (sym (ap length all ∙ c.reduce.ensures.vector.len)) (sym all)

pub returns-clause-modulus : goal.returns-clause-modulus
returns-clause-modulus c =
    IfOk-weaker c.column_of.result _ _ (λ column same. same ∙ c.modulus.ensures.value ∙ c.self.invariant.0.right_modulus ∙ ap (λ (q : Preparation). q.modulus) c.self.view_is)
    c.column_of.ensures.modulus

pub returns-clause-height : goal.returns-clause-height
returns-clause-height c =
    let fit = c.self.invariant.0 in
    let whole = with_items_is c.in_ok-x.x c.reduce.new.x (c.reduce.ensures.vector.len ∙ fit.null_width ∙ sym c.in_ok-x.ensures.vector.len ∙ sym c.in_ok-x.x.ok.0) in
    IfOk-weaker c.column_of.result _ _
    (λ column high. high ∙ ap length (c.deref-4.ensures.value ∙ whole) ∙ c.reduce.ensures.vector.len ∙ fit.null_width ∙ ap (λ (q : Preparation). q.width) c.self.view_is)
    c.column_of.ensures.height

pub returns-clause-solution : goal.returns-clause-solution
returns-clause-solution c =
    let s = c.self.inside in
    let L : ResidueMatrix = s.left in
    let U : ResidueMatrix = s.right in
    let N : ResidueMatrix = s.null in
    let b : List ℕ = c.args.side.now in
    let z : List ℕ = c.in_ok-z.z.items in
    let x : List ℕ = c.in_ok-x.x.items in
    let y : List ℕ = c.reduce.new.x in
    let fit = c.self.invariant.0 in
    let whole = with_items_is c.in_ok-x.x y (c.reduce.ensures.vector.len ∙ fit.null_width ∙ sym c.in_ok-x.ensures.vector.len ∙ sym c.in_ok-x.x.ok.0) in
    let all : c.deref-4.result.now ≡ y = c.deref-4.ensures.value ∙ whole in
    let vb : IsVector L.modulus L.matrix.height b = subst (λ (q : Preparation). IsVector q.modulus q.height b) (sym c.self.view_is) c.requires in
    let at = subst (λ (ps : List Pair). IsLower L.modulus L.matrix ps s.left_inverses.items → (k : ℕ) → k < length ps → dot L.modulus L.matrix.width (row L.matrix (row_at ps k)) z ≡ slice_index b (row_at ps k)) c.items-pivots.ensures
    (subst (λ is. IsLower L.modulus L.matrix c.items-pivots.result.now is → (k : ℕ) → k < length c.items-pivots.result.now → dot L.modulus L.matrix.width (row L.matrix (row_at c.items-pivots.result.now k)) z ≡ slice_index b (row_at c.items-pivots.result.now k))
    c.deref.ensures.value c.in_ok-z.ensures.solves) in
    let above = subst (λ (ps : List Pair). IsUpper U.modulus U.matrix ps s.right_inverses.items → (k : ℕ) → k < length ps → dot U.modulus U.matrix.width (row U.matrix k) x ≡ slice_index z k) c.items-pivots.ensures
    (subst (λ is. IsUpper U.modulus U.matrix c.items-pivots.result.now is → (k : ℕ) → k < length c.items-pivots.result.now → dot U.modulus U.matrix.width (row U.matrix k) x ≡ slice_index z k) c.deref-2.ensures.value
    (subst (λ side. IsUpper U.modulus U.matrix c.items-pivots.result.now c.deref-2.result.now → (k : ℕ) → k < length c.items-pivots.result.now → dot U.modulus U.matrix.width (row U.matrix k) x ≡ slice_index side k)
    c.deref-3.ensures.value c.in_ok-x.ensures.solves)) in
    let reduces = subst (λ old. (A : Matrix) (b : List ℕ) → IsKernel N.modulus A N.matrix → IsSolution N.modulus A b old → IsReducedSolution N.modulus A b y) c.as_mut_slice.ensures.value c.reduce.ensures.reduced in
    IfOk-weaker c.column_of.result _ _ (λ column entries p A prime m prepared solvable. subst (IsReducedSolution p A b) (sym (entries ∙ all))
    (solution_holds s.pivots L U N s.relations fit c.self.invariant.1 c.self.invariant.2 vb c.in_ok-z.ensures.vector at c.in_ok-x.ensures.vector above reduces p A prime m
    (subst (IsPreparedFor p A) (sym c.self.view_is) prepared) solvable)) c.column_of.ensures.entries
