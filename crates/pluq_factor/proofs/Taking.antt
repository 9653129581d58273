-- A round as it is met.
use Rattle.std.proofs.Common.{ℕ, ◌≡◌, ◌<◌, ◌≤◌, ◌∙◌, List, length, map, slice_index, slice_index_or, sym, ap, subst, arith}
use Rattle.std.proofs.lemmas.List.{get_or_default, length-map}
use Rattle.residue_words.specs.declared.plain.Pair.{Pair}
use Rattle.residue_words.specs.Residues.{IsPrime}
use Rattle.residue_words.specs.Matrix.{IsMatrix}
use Rattle.row_space.specs.Factors.{row_at}
use Rattle.sparse_rows.specs.Rows.{ResidueMatrix, LARGEST_SIZE}
use Rattle.pivot_table.specs.Order.{Triangular}
use Rattle.pivot_table.specs.Selected.{Selected}
use Rattle.triangular_solve.specs.Triangle.{TriangleState}
use Rattle.schur_rows.specs.Round.{FitsRound, IsRound, pivot_rows}
use Rattle.schur_rows.specs.declared.round.SchurRows.{SchurRows}
use Rattle.schur_rows.proofs.Distinct.{triangular_short}
use Rattle.pluq_factor.specs.RoundPivots.{IsRoundTaken, triangle_on}

-- the rows of the pairs lie in the matrix
pub rows_inside : (R : ResidueMatrix) {qs ps : List Pair} {xs ys : List ℕ} → Triangular R.matrix qs → ps ≡ qs → xs ≡ ys → ys ≡ map (λ (q : Pair). q.row) ps → (k d : ℕ) → k < length xs → slice_index_or xs k d < R.matrix.height
rows_inside R {qs} {ps} {xs} {ys} tri pairs value listed k d l =
    let all : xs ≡ map (λ (q : Pair). q.row) qs = value ∙ listed ∙ ap (map (λ (q : Pair). q.row)) pairs in
    let low : k < length qs = omega (arith, ap length all, length-map qs (λ (q : Pair). q.row)) in
    let is : slice_index_or xs k d ≡ row_at qs k = get_or_default xs k d 0 l ∙ ap (λ xs. slice_index xs k) all in
    subst (λ x. x < R.matrix.height) (sym is) (tri.nonzero k low).0

pub rows_few : (R : ResidueMatrix) {qs ps : List Pair} {xs ys : List ℕ} {h : ℕ} → Triangular R.matrix qs → ps ≡ qs → xs ≡ ys → ys ≡ map (λ (q : Pair). q.row) ps → h ≡ R.matrix.height → h ≤ LARGEST_SIZE → length xs ≤ LARGEST_SIZE
rows_few R {qs} {ps} {xs} {ys} {h} tri pairs value listed high bound =
    let all : xs ≡ map (λ (q : Pair). q.row) qs = value ∙ listed ∙ ap (map (λ (q : Pair). q.row)) pairs in
    omega (arith, ap length all, length-map qs (λ (q : Pair). q.row), triangular_short tri)

pub taken_of : {t : TriangleState} {top : ResidueMatrix} {workers : ℕ} {left : SchurRows} {pivots : List Pair} → IsMatrix t.rows.modulus t.rows.matrix → Selected t.rows.matrix workers t.pairs → FitsRound t left → (IsPrime t.rows.modulus → IsRound t left) →
    top.modulus ≡ t.rows.modulus → top.matrix ≡ pivot_rows t.rows.matrix t.pairs → pivots ≡ t.pairs → IsRoundTaken t.rows workers (record { pivots = pivots; top = top; left = left })
taken_of {t} {top} {workers} {left} {pivots} sound chosen fits round modulus matrix same =
    let e : t ≡ triangle_on t.rows pivots = ap (triangle_on t.rows) (sym same) in
    record {
      sound = sound;
      selected = subst (Selected t.rows.matrix workers) (sym same) chosen;
      modulus = modulus;
      top = matrix ∙ ap (pivot_rows t.rows.matrix) (sym same);
      fits = subst (λ t. FitsRound t left) e fits;
      round = subst (λ (t : TriangleState). IsPrime t.rows.modulus → IsRound t left) e round;
    }
