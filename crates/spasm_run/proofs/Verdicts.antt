-- From what a checker says of a certificate to the answer.
use Rattle.std.proofs.Common.{ℕ, Bool, true, false, ◌≡◌, ◌∙◌, IsTrue, ◌∷◌, Some, inl, inr, refl, sym, ap, subst}
use Rattle.std.specs.Prelude.{◌↔◌}
use Rattle.row_space.specs.Factors.{IsValid}
use Rattle.sparse_rows.specs.Rows.{ResidueMatrix}
use Rattle.certificates.specs.declared.certificate.Certificate.{Certificate}
use Rattle.certificates.specs.Certificate.{certificate_of}
use Rattle.certificates.specs.CertificateText.{certificate_said}
use Rattle.spasm_run.specs.declared.command_answer.CommandAnswer.TheVariants as answer
use Rattle.spasm_words.specs.declared.command.Command.{Command}
use Rattle.spasm_words.specs.declared.command.Task.TheVariants as task
use Rattle.spasm_run.specs.Computed.{IsAnswerTo, asking}
use Rattle.spasm_run.specs.Contents.{AreToCheck, Contents, IsCertified}

module _ (p : ℕ) (A : ResidueMatrix) (c : Certificate) (said : Contents) (are : AreToCheck A c said) where
  certified : IsValid p A.matrix (certificate_of c) → IsCertified p said
  certified valid = record { matrix = A.matrix; behind = are.behind; certificate = certificate_of c; matrices = are.matrices; says = are.says; valid = valid }

  -- the contents are one matrix and one certificate
  valid_here : IsCertified p said → IsValid p A.matrix (certificate_of c)
  valid_here is =
      let both : is.matrix ∷ is.behind ≡ A.matrix ∷ are.behind = sym is.matrices ∙ are.matrices in
      let matrix : is.matrix ≡ A.matrix = cc in
      let behind : is.behind ≡ are.behind = cc in
      let same : Some is.certificate ≡ Some (certificate_of c) = sym is.says ∙ ap (certificate_said said.lines) behind ∙ are.says in
      let certificate : is.certificate ≡ certificate_of c = cc in
      subst (λ M. IsValid p M (certificate_of c)) matrix (subst (IsValid p is.matrix) certificate is.valid)

  false_no : IsTrue false → ⊥
  false_no e = cc

  pub verdict_answers : (d : Command) (valid : Bool) → (IsTrue valid ↔ IsValid p A.matrix (certificate_of c)) →
      IsAnswerTo (asking task.Check p d) said (answer.Verdict valid)
  verdict_answers d true h = let is = certified (h.0 refl) in record { small = tt; fits = refl; shape = tt; answers = λ any. inl (is, refl); ends = inl (is, refl) }
  verdict_answers d false h =
      let none : ¬ IsCertified p said = λ is. false_no (h.1 (valid_here is)) in
      record { small = tt; fits = refl; shape = tt; answers = λ any. inr (none, refl); ends = inr (none, refl) }
