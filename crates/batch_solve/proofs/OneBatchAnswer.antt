-- The answer of a batch is one text.
use Rattle.std.proofs.Common.{ℕ, ◌≡◌, ◌≤◌, ◌++◌, ◌∙◌, List, [], ◌∷◌, ap₂, subst, sym}
use Rattle.residue_words.specs.Matrix.{Matrix}
use Rattle.kernel_solve.specs.Column.{column}
use Rattle.spasm_run.specs.Contents.{Contents}
use Rattle.spasm_run.proofs.Solving.{one_solution}
use Rattle.spasm_run.proofs.Outcomes.{one_reading}
use Rattle.batch_solve.specs.declared.batch_words.BatchCommand.{BatchCommand}
use Rattle.batch_solve.specs.BatchAnswers.{AnswersBatch, AnswersEach}
use Rattle.batch_solve.specs.BatchRan.{HasBatchAnswer, IsOneBatchAnswer, batch_request}
use Rattle.batch_solve.proofs.BatchOptions.{one_batch}

answers_each_one : (p : ℕ) (A : Matrix) (Bs : List Matrix) (text other : List ℕ) → 2 ≤ p → AnswersEach p A Bs text → AnswersEach p A Bs other → text ≡ other
answers_each_one p A [] text other two s t = s ∙ sym t
answers_each_one p A (B ∷ Bs) text other two (x, xs, s, ss, e) (y, ys, t, ts, f) =
    e ∙ ap₂ (λ u v. u ++ v) (one_solution p A (column B) x y two s t) (answers_each_one p A Bs xs ys two ss ts) ∙ sym f

answers_batch_one : (p : ℕ) (values : List Matrix) (text other : List ℕ) → 2 ≤ p → AnswersBatch p values text → AnswersBatch p values other → text ≡ other
answers_batch_one p [] text other two s t = absurd s
answers_batch_one p (A ∷ Bs) text other two s t = answers_each_one p A Bs text other two s t

pub one_batch_answer : IsOneBatchAnswer
one_batch_answer words limit input c text other accepted prime (a, accepted_a, s) (b, accepted_b, t) =
    let first : HasBatchAnswer c limit input text = subst (λ (d : BatchCommand). HasBatchAnswer d limit input text) (one_batch words a c accepted_a accepted) s in
    let second : HasBatchAnswer c limit input other = subst (λ (d : BatchCommand). HasBatchAnswer d limit input other) (one_batch words b c accepted_b accepted) t in
    let same : second.said ≡ first.said = one_reading (batch_request c limit) input second.said first.said second.reads first.reads in
    answers_batch_one c.modulus first.said.matrices text other prime.two_or_more (first.answers prime) (subst (λ (said : Contents). AnswersBatch c.modulus said.matrices other) same (second.answers prime))
