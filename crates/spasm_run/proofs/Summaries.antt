-- From the echelon form of what is generated to the answer.
use Rattle.std.proofs.Common.{ℕ, ◌≡◌, ◌≤◌, [], refl, sym, ap, subst, ◌∙◌}
use Rattle.residue_words.specs.Matrix.{Matrix, IsMatrix}
use Rattle.residue_words.specs.Residues.{IsPrime}
use Rattle.row_space.specs.Echelon.{IsRref}
use Rattle.sparse_rows.specs.Rows.{ResidueMatrix, entry_count}
use Rattle.spasm_run.specs.declared.command_answer.CommandAnswer.TheVariants as answer
use Rattle.spasm_words.specs.declared.generator.Generator.{Generator}
use Rattle.spasm_run.specs.declared.summary.Summary.{Summary}
use Rattle.spasm_words.specs.declared.command.Command.{Command}
use Rattle.spasm_words.specs.declared.command.Task.TheVariants.{Drill}
use Rattle.spasm_run.specs.Computed.{IsAnswerTo, asking}
use Rattle.spasm_run.specs.Contents.{matrices_alone}
use Rattle.spasm_words.specs.Generator.{generated}
use Rattle.spasm_run.specs.Summary.{place_sum, summary_of, summary_text}
use Rattle.spasm_run.proofs.Shapes.{at_most_square}

pub summary_answers : (c : Command) (g : Generator) (p : ℕ) (a form : ResidueMatrix) (s : Summary) → a.modulus ≡ p → a.matrix ≡ generated p g → form.modulus ≡ a.modulus →
    IsMatrix form.modulus form.matrix → form.matrix.width ≡ a.matrix.width → form.matrix.height ≤ a.matrix.width →
    (IsPrime a.modulus → IsRref a.modulus a.matrix form.matrix) → s.rank ≡ form.matrix.height → s.entries ≡ entry_count form.matrix →
    s.sum ≡ place_sum form.modulus form.matrix → IsAnswerTo (asking (Drill g) p c) (matrices_alone []) (answer.Summary s)
summary_answers c g p a form s modulus matrix same sound width short is rank entries sum =
    let text : summary_text s.rank s.entries s.sum ≡ summary_of p form.matrix =
    ap (λ n. summary_text n s.entries s.sum) rank ∙ ap (λ n. summary_text form.matrix.height n s.sum) entries ∙ ap (summary_text form.matrix.height (entry_count form.matrix)) sum
    ∙ ap (λ q. summary_text form.matrix.height (entry_count form.matrix) (place_sum q form.matrix)) (same ∙ modulus) in
    let wide : a.matrix.width ≡ g.cols = ap (λ (A : Matrix). A.width) matrix in
    record {
      small = tt;
      fits = refl;
      shape = (form.matrix, at_most_square p g.cols form (same ∙ modulus) sound (width ∙ wide) (subst (λ n. form.matrix.height ≤ n) wide short), text);
      ends = refl;
      answers = λ prime.
          let rref : IsRref a.modulus a.matrix form.matrix = is (subst IsPrime (sym modulus) prime) in
          (form.matrix, subst (λ A. IsRref p A form.matrix) matrix (subst (λ q. IsRref q a.matrix form.matrix) modulus rref), text);
    }
