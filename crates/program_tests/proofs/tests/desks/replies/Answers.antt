use Rattle.std.proofs.Common.{List, subst, sym, ◌∙◌}
use Rattle.std.specs.Prelude.{All}
use Rattle.sparse_rows.specs.Rows.{ResidueMatrix}
use Rattle.batch_solve.specs.Replies.{IsQuestion}
use Rattle.program_tests.proofs.tests.desks.replies.Goals as goal

pub answer_all-requires-clause-questions : goal.answer_all-requires-clause-questions
answer_all-requires-clause-questions g c κs lives =
    let q = c.in_ok-prepared.prepared in
    let is = c.in_ok-prepared.ensures in
    let a = c.in_ok-a.ensures in
    subst (λ (l : List ResidueMatrix). All (IsQuestion q) l) (sym c.as_slice.ensures.value) (λ k d l.
    let b = c.in_ok-questions.ensures.columns k d l in
    record { modulus = b.0 ∙ sym (is.modulus ∙ a.modulus); height = b.1 ∙ sym (is.height ∙ a.height); column = b.2 })
