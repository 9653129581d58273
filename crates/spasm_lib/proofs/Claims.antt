-- What is claimed of a matrix is shown to any of its factors, and is written in a text.
use Rattle.std.proofs.Common.{ℕ, ◌≡◌, ◌+◌, ◌<◌, ◌≤◌, List, All, length, slice_index, refl, sym, ap, subst, ◌∙◌, arith}
use Rattle.std.proofs.lemmas.List.{get_or-map}
use Rattle.residue_words.specs.Residues.{IsPrime}
use Rattle.residue_words.specs.declared.modulus.TheConstants.{MODULUS_BOUND}
use Rattle.residue_words.specs.declared.plain.Pair.{Pair}
use Rattle.residue_words.specs.Matrix.{Matrix, IsMatrix, IsCombination, IsVector, combine, entry, list_of, row}
use Rattle.residue_words.proofs.Vectors.{at_list_of, combination_through, entry_residue, row_combination, vector_equal, vector_of}
use Rattle.row_space.specs.Echelon.{IsIndependent, IsRref}
use Rattle.row_space.specs.Factors as plain
use Rattle.row_space.specs.Factors.{AreFactors, IsValid, ShowsKernel, ShowsRref, col_at, row_at}
use Rattle.row_space.specs.Kernel.{IsKernel}
use Rattle.row_space.proofs.Counting.{spanned_back}
use Rattle.row_space.proofs.FactorLaws.{rank_of_factors}
use Rattle.row_space.proofs.Spans.{place_coefficient, places_independent}
use Rattle.row_space.proofs.Unique.{rank_unique}
use Rattle.sparse_rows.specs.Rows.{ResidueMatrix, LARGEST_SIZE}
use Rattle.echelon_form.specs.Form.{Form, IsFormOf}
use Rattle.dense_finish.specs.declared.factors.Factors.{Factors}
use Rattle.schur_rows.proofs.FactorRows.{factor_rows_independent, factor_rows_span}
use Rattle.pluq_factor.specs.Basis.{IsBasis}
use Rattle.pluq_factor.specs.Rounds.{AreFactorsOf}
use Rattle.certificates.specs.declared.claim.Claim.{Claim}
use Rattle.certificates.specs.declared.claim.Claim.TheVariants as claim
use Rattle.certificates.specs.Certificate.{AreModulo, claim_of}
use Rattle.certificates.specs.CertificateText.{HasText, IsTextPlace}
use Rattle.spasm_lib.specs.Claimed.{IsClaimed}

module _ (p : ℕ) (A : Matrix) (m : IsMatrix p A) (pivots : List Pair) (L U : Matrix) (prime : IsPrime p) (f : AreFactors p A pivots L U) where
  -- the echelon form has a row for each pivot
  as_high : (E : Matrix) → IsRref p A E → E.height ≡ length pivots
  as_high E form = rank_unique p A E.height (length pivots) prime.two_or_more (E, form, refl) (rank_of_factors p A pivots L U prime m f)

  -- its rows are in the row space of U, and so they span it
  right_in_form : (E : Matrix) → IsRref p A E → (v : List ℕ) → IsCombination p U v → IsCombination p E v
  right_in_form E form =
      let two : 2 ≤ p = prime.two_or_more in
      let free : IsIndependent p E = places_independent p (λ j lead. j < lead) E (slice_index form.form.0) (omega arith) form.form.1.1 in
      let left : (i : ℕ) → i < A.height → IsCombination p U (row A i) = λ i l. (
        row L i,
        subst (λ n. IsVector p n (row L i)) (f.fit.left_width ∙ sym f.fit.right_height) (f.fit.left.each i (let e = f.fit.left_height in omega arith)),
        f.product i l,
      ) in
      let within : (v : List ℕ) → IsCombination p E v → IsCombination p U v = λ v c. combination_through p A U v (omega arith) (sym f.fit.right_width) left ((form.span v).1 c) in
      spanned_back p E U two free within (let h = as_high E form in let e = f.fit.right_height in omega arith)

  -- the echelon form is shown by U
  pub rref_shown : (E : Matrix) → IsRref p A E → ShowsRref p U E
  rref_shown E form =
      let two : 2 ≤ p = prime.two_or_more in
      let leads : List ℕ = form.form.0 in record {
        matrix = form.matrix;
        height = as_high E form ∙ sym f.fit.right_height;
        width = form.width ∙ sym f.fit.right_width;
        form = (
          leads,
          form.form.1,
          λ k l.
              let c = right_in_form E form (row U k) (row_combination p U k two f.fit.right l) in
              let read : c.0 ≡ list_of E.height (λ t. entry U k (slice_index leads t)) =
              vector_equal p E.height c.0 (list_of E.height (λ t. entry U k (slice_index leads t))) c.1
              (vector_of p E.height (λ t. entry U k (slice_index leads t)) (λ t o. entry_residue p U f.fit.right k (slice_index leads t) l
              (let w = form.width in let v = f.fit.right_width in omega (arith, form.form.1.1.inside t o))))
              (λ t o. sym (place_coefficient p (λ j lead. j < lead) E (slice_index leads) form.form.1.1 c.0 c.1 t o) ∙ ap (λ v. slice_index v (slice_index leads t)) (sym c.2)
              ∙ sym (at_list_of E.height (λ t. entry U k (slice_index leads t)) t o)) in
              c.2 ∙ ap (λ y. combine p y E) read,
        );
      }

  -- and so is the kernel basis
  pub kernel_shown : (E K : Matrix) → IsRref p A E → IsKernel p A K → K.height + E.height ≡ A.width → ShowsKernel p A (length pivots) K
  kernel_shown E K form kernel heights = record {
    matrix = kernel.matrix;
    height = let h = as_high E form in omega arith;
    width = kernel.width;
    form = kernel.form;
    null = kernel.null;
  }

-- ---- what is claimed

pub nothing_claimed : (p : ℕ) (A : Matrix) → IsClaimed p A claim.Rank
nothing_claimed p A = record { modulus = tt; fits = tt; shows = λ pivots L U prime f. tt }

pub form_claimed : (p : ℕ) (A : Matrix) (e : Form) (E : ResidueMatrix) → IsMatrix p A → A.width < LARGEST_SIZE → IsFormOf p A e → E.modulus ≡ e.modulus → E.matrix ≡ e.matrix →
    IsClaimed p A (claim.Rref E)
form_claimed p A e E m narrow is modulus same =
    let high : E.matrix.height ≡ e.matrix.height = ap (λ M. M.height) same in
    let wide : E.matrix.width ≡ e.matrix.width = ap (λ M. M.width) same in record {
      modulus = modulus ∙ is.modulus;
      fits = (omega (arith, high, is.short), omega (arith, wide, is.width));
      shows = λ pivots L U prime f. rref_shown p A m pivots L U prime f E.matrix (subst (IsRref p A) (sym same) (is.rref prime));
    }

pub kernel_claimed : (p : ℕ) (A : Matrix) (e : Form) (K : ResidueMatrix) → IsMatrix p A → A.width < LARGEST_SIZE → IsFormOf p A e → K.modulus ≡ e.modulus → K.matrix.width ≡ e.matrix.width →
    K.matrix.height + e.matrix.height ≡ e.matrix.width → ((q : ℕ) (B : Matrix) → IsPrime q → IsFormOf q B e → IsKernel q B K.matrix) → IsClaimed p A (claim.Kernel K)
kernel_claimed p A e K m narrow is modulus wide high basis = record {
  modulus = modulus ∙ is.modulus;
  fits = (omega (arith, high, is.width), omega (arith, wide, is.width));
  shows = λ pivots L U prime f. kernel_shown p A m pivots L U prime f e.matrix K.matrix (is.rref prime) (basis p A prime is) (omega (arith, high, is.width));
}

-- the right factor shows the row space
pub factors_show_rows : {p : ℕ} {A : Matrix} {f : Factors} → IsMatrix p A → AreFactorsOf p A f → IsBasis p A f.u
factors_show_rows {p} {A} {f} m h = record {
  modulus = h.right_modulus;
  width = h.sizes.right_width;
  independent = λ prime. factor_rows_independent prime m (h.factors prime);
  span = λ prime. factor_rows_span prime m (h.factors prime);
}

-- pivots that lie in a matrix have rows and columns that a text can give
pub text_places : (pivots : List Pair) (m n : ℕ) → m < LARGEST_SIZE → n < LARGEST_SIZE → ((k : ℕ) → k < length pivots → row_at pivots k < m) → ((k : ℕ) → k < length pivots → col_at pivots k < n) →
    All IsTextPlace pivots
text_places pivots m n high wide rows cols = λ k d l. (
  omega (arith, rows k l, high, get_or-map (λ (q : Pair). q.row) pivots k d 0 l),
  omega (arith, cols k l, wide, get_or-map (λ (q : Pair). q.col) pivots k d 0 l),
)

-- ---- a certificate

-- the plain certificate of these factors that claims this
abbrev pub plain_made : ℕ → Factors → Claim → plain.Certificate
plain_made q f made = record { modulus = q; pivots = f.pivots; left = f.l.matrix; right = f.u.matrix; claim = claim_of made }

module _ (A : ResidueMatrix) (f : Factors) (q : ℕ) (made : Claim) (factors : AreFactorsOf A.modulus A.matrix f) (claimed : IsClaimed A.modulus A.matrix made) where
  pub certificate_modulus : AreModulo A.modulus (record { p = q; pivots = f.pivots; l = f.l; u = f.u; claim = made })
  certificate_modulus = record { left = factors.left_modulus; right = factors.right_modulus; claim = claimed.modulus }

  pub certificate_written : A.matrix.height < LARGEST_SIZE → A.matrix.width < LARGEST_SIZE → q < MODULUS_BOUND → HasText (plain_made q f made)
  certificate_written high wide below =
      let sizes = factors.sizes in record {
        modulus = below;
        count = omega (arith, sizes.few);
        pivots = text_places f.pivots A.matrix.height A.matrix.width high wide sizes.rows_below sizes.columns_below;
        left = (omega (arith, sizes.left_height), omega (arith, sizes.left_width, sizes.few));
        right = (omega (arith, sizes.right_height, sizes.few), omega (arith, sizes.right_width));
        claim = claimed.fits;
      }

  pub certificate_valid : q ≡ A.modulus → IsPrime A.modulus → IsValid A.modulus A.matrix (plain_made q f made)
  certificate_valid same prime = record { modulus = same; factors = factors.factors prime; shows = claimed.shows f.pivots f.l.matrix f.u.matrix prime (factors.factors prime) }
