-- Sums of entries, each weighted by its place.
use Rattle.std.proofs.Common.{ℕ, ◌≡◌, ◌+◌, ◌*◌, ◌%◌, List, length, slice_index, sym, ap, ◌∙◌, arith}
use native.Mathlib.Nat.{mod-mod, zero-mod}
use Rattle.residue_words.specs.Matrix.{IsVector, Matrix, entry}
use Rattle.residue_words.specs.Residues.{sum_below}
use Rattle.residue_words.proofs.Residues.{add_same, mul_same}
use Rattle.residue_words.proofs.Sums.{sum_equal, sum_more, sum_none, sum_scale}
use Rattle.sparse_rows.specs.Rows.{nonzeros, support}
use Rattle.sparse_rows.proofs.Spread.{sum_over_support}

-- no term
pub no_term : (p : ℕ) (f : ℕ → ℕ) → 0 ≡ sum_below 0 f % p
no_term p f = sym (ap (λ t. t % p) (sum_none f) ∙ zero-mod p)

-- a weighted term more
term_more : (p S w v sum weight value product next : ℕ) → sum ≡ S % p → weight ≡ w % p → value % p ≡ v % p → product ≡ (weight * value) % p → next ≡ (sum + product) % p
    → next ≡ (S + w * v) % p
term_more p S w v sum weight value product next a b c d e =
    e ∙ add_same p sum S product (w * v) (ap (λ t. t % p) a ∙ mod-mod S p)
    (ap (λ t. t % p) d ∙ mod-mod (weight * value) p ∙ mul_same p weight w value v (ap (λ t. t % p) b ∙ mod-mod w p) c)

-- the first k entries of a row at these columns
abbrev pub weighted_row : List ℕ → List ℕ → ℕ → ℕ
weighted_row cols vals k = sum_below k (λ t. (slice_index cols t + 1) * slice_index vals t)

pub weighted_more : (p : ℕ) (cols vals : List ℕ) (k sum weight product next : ℕ) → sum ≡ weighted_row cols vals k % p → weight ≡ (slice_index cols k + 1) % p
    → product ≡ (weight * slice_index vals k) % p → next ≡ (sum + product) % p → next ≡ weighted_row cols vals (k + 1) % p
weighted_more p cols vals k sum weight product next a b c d =
    term_more p (weighted_row cols vals k) (slice_index cols k + 1) (slice_index vals k) sum weight (slice_index vals k) product next a b (ap (λ t. t % p) (omega arith)) c d
    ∙ ap (λ t. t % p) (sym (sum_more k (λ t. (slice_index cols t + 1) * slice_index vals t)))

-- all of them
pub weighted_all : (p n : ℕ) (v cols vals : List ℕ) (k sum : ℕ) → IsVector p n v → cols ≡ support v → vals ≡ nonzeros v → k ≡ length cols → sum ≡ weighted_row cols vals k % p
    → sum ≡ sum_below n (λ j. (j + 1) * slice_index v j) % p
weighted_all p n v cols vals k sum h c d e s =
    s ∙ ap (λ t. t % p) (
    ap (weighted_row cols vals) e ∙ ap (λ cs. weighted_row cs vals (length cs)) c ∙ ap (λ vs. weighted_row (support v) vs (length (support v))) d
    ∙ sum_equal (length (support v)) _ (λ t. slice_index (nonzeros v) t * (slice_index (support v) t + 1)) (λ t l. omega arith)
    ∙ sym (sum_over_support h (λ j. j + 1))
    ∙ sum_equal n (λ j. slice_index v j * (j + 1)) (λ j. (j + 1) * slice_index v j) (λ j l. omega arith)
    )

-- the rows before i
abbrev pub weighted_rows : Matrix → ℕ → ℕ
weighted_rows A i = sum_below i (λ i. sum_below A.width (λ j. (i + 1) * (j + 1) * entry A i j))

pub rows_more : (p : ℕ) (A : Matrix) (i sum weight value product next : ℕ) → sum ≡ weighted_rows A i % p → weight ≡ (i + 1) % p
    → value ≡ sum_below A.width (λ j. (j + 1) * entry A i j) % p → product ≡ (weight * value) % p → next ≡ (sum + product) % p → next ≡ weighted_rows A (i + 1) % p
rows_more p A i sum weight value product next a b c d e =
    let total : ℕ = sum_below A.width (λ j. (j + 1) * entry A i j) in
    let scaled : (i + 1) * total ≡ sum_below A.width (λ j. (i + 1) * (j + 1) * entry A i j) =
    sym (sum_scale A.width (i + 1) (λ j. (j + 1) * entry A i j)) ∙ sum_equal A.width _ (λ j. (i + 1) * (j + 1) * entry A i j) (λ j l. omega arith) in
    term_more p (weighted_rows A i) (i + 1) total sum weight value product next a b (ap (λ t. t % p) c ∙ mod-mod total p) d e
    ∙ ap (λ t. (weighted_rows A i + t) % p) scaled ∙ ap (λ t. t % p) (sym (sum_more i (λ i. sum_below A.width (λ j. (i + 1) * (j + 1) * entry A i j))))
