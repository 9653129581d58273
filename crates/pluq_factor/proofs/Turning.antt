-- Rows from the last to the first, and forms of bases.
use Rattle.std.proofs.Common.{ℕ, ◌≡◌, ◌∙◌, sym, subst, arith}
use Rattle.residue_words.specs.Residues.{IsPrime}
use Rattle.residue_words.specs.Matrix.{Matrix}
use Rattle.row_space.specs.Echelon.{IsIndependent, SameSpan}
use Rattle.row_space.proofs.Spans.{same_span_chained}
use Rattle.sparse_rows.specs.Rows.{ResidueMatrix}
use Rattle.weight_order.proofs.Turning.{turned_span, turned_width}
use Rattle.echelon_form.specs.Form.{Form, IsFormOf}
use Rattle.pluq_factor.specs.Basis.{IsBasis}
use Rattle.weight_order.specs.Turned.{HasFilledRows}

-- the form of rows with the row space of A is the form of A
pub form_chained : {p : ℕ} {A : Matrix} {U : ResidueMatrix} {f : Form} → U.modulus ≡ p → U.matrix.width ≡ A.width → (IsPrime p → SameSpan p A U.matrix) → IsFormOf U.modulus U.matrix f → IsFormOf p A f
form_chained {p} {A} {U} {f} modulus width span h =
    let at : IsFormOf p U.matrix f = subst (λ p. IsFormOf p U.matrix f) modulus h in record {
      modulus = at.modulus;
      matrix = at.matrix;
      width = at.width ∙ width;
      short = omega (arith, at.short, width);
      rank = at.rank;
      rref = λ prime. let form = at.rref prime in record {
        matrix = form.matrix;
        width = form.width ∙ width;
        form = form.form;
        span = same_span_chained p A U.matrix f.matrix (span prime) form.span;
      };
      leads = at.leads;
    }

pub form_turned : {R T : ResidueMatrix} {f : Form} → HasFilledRows R T → IsFormOf T.modulus T.matrix f → IsFormOf R.modulus R.matrix f
form_turned {R} {T} {f} h = form_chained h.modulus (turned_width h) (turned_span h)

pub form_based : {p : ℕ} {A : Matrix} {U : ResidueMatrix} {f : Form} → IsBasis p A U → IsFormOf U.modulus U.matrix f → IsFormOf p A f
form_based {p} {A} {U} {f} h = form_chained h.modulus h.width h.span

-- a basis of the rows that have an entry is one of all rows
pub basis_turned : {R T U : ResidueMatrix} → HasFilledRows R T → IsBasis T.modulus T.matrix U → IsBasis R.modulus R.matrix U
basis_turned {R} {T} {U} h b =
    let back : IsPrime R.modulus → IsPrime T.modulus = subst IsPrime (sym h.modulus) in record {
      modulus = b.modulus ∙ h.modulus;
      width = b.width ∙ turned_width h;
      independent = λ prime. subst (λ p. IsIndependent p U.matrix) h.modulus (b.independent (back prime));
      span = λ prime. same_span_chained R.modulus R.matrix T.matrix U.matrix (turned_span h prime)
          (subst (λ p. SameSpan p T.matrix U.matrix) h.modulus (b.span (back prime)));
    }
