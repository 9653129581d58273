-- From replies to the answer of a batch.
use Rattle.std.proofs.Common.{ℕ, suc, ◌≡◌, ◌-◌, ◌<◌, ◌≤◌, ◌++◌, inl, inr, All, IfOk, Result, Ok, Err, Vec, List, [], ◌∷◌, None, length, take, drop, get_or, refl, sym, ap, ◌∙◌, arith}
use Rattle.std.specs.Prelude.{codes}
use Rattle.std.specs.declared.alloc.Global.{Global}
use Rattle.std.proofs.lemmas.List.{take_all}
use Rattle.std.proofs.lemmas.List.Elements.{All-cons, All-nil}
use Rattle.residue_words.specs.Residues.{IsPrime}
use Rattle.residue_words.specs.Matrix.{Matrix, IsMatrix, row}
use Rattle.row_space.proofs.Solvable.{refuted}
use Rattle.sparse_rows.specs.Rows.{ResidueMatrix, LARGEST_SIZE}
use Rattle.sms_text.specs.Written.{text_of}
use Rattle.kernel_solve.specs.declared.prepared.Reply.{Reply}
use Rattle.kernel_solve.specs.declared.prepared.Reply.TheVariants.{Solution, Refuted}
use Rattle.kernel_solve.specs.Column.{column}
use Rattle.kernel_solve.specs.Prepared.{IsPreparedFor, IsReply, Preparation}
use Rattle.spasm_run.specs.Answers.{SolvesTo}
use Rattle.spasm_run.specs.Input.{IsOfText}
use Rattle.spasm_run.proofs.Solving.{column_whole, row_whole}
use Rattle.batch_solve.specs.BatchAnswers.{AnswersEach, batch_misfit}
use Rattle.batch_solve.specs.BatchFound.{AreBatchReplies, IsSmallReply, matrices_of, replies_text, reply_text}
use Rattle.batch_solve.specs.Replies.{AreReplies, IsQuestion}
use Rattle.batch_solve.proofs.BatchShapes.{fit_columns}

module _ (p : ℕ) (A : Matrix) (q : Preparation) (prepared : IsPreparedFor p A q) where
  -- one reply
  reply_answers : (b : Matrix) (reply : Reply) → IsReply q b reply → IsPrime p → IsMatrix p A → SolvesTo p A (column b) (reply_text reply)
  reply_answers b (Solution x) is prime m =
      let told = is.right p A prime m prepared in
      inl (column x.matrix, told.1, ap (λ X. codes "solution\n" ++ text_of X) (column_whole x.matrix is.shape.1 is.shape.3))
  reply_answers b (Refuted y) is prime m =
      let told = is.right p A prime m prepared in
      inr (
        row y.matrix 0,
        (λ x solves. refuted p A (column b) x (row y.matrix 0) prime.two_or_more told.1.refutes solves),
        told.1,
        ap (λ Y. codes "no solution\n" ++ text_of Y) (row_whole y.matrix is.shape.1 is.shape.2),
      )

  reply_small : (b : Matrix) (reply : Reply) → A.height < LARGEST_SIZE → A.width < LARGEST_SIZE → IsReply q b reply → IsSmallReply reply
  reply_small b (Solution x) tall wide is = (omega (arith, is.shape.2, prepared.width), omega (arith, is.shape.3))
  reply_small b (Refuted y) tall wide is = (omega (arith, is.shape.2), omega (arith, is.shape.3, prepared.height))

  -- the replies behind the first
  replies_behind : (b : ResidueMatrix) (bs : List ResidueMatrix) (r : Reply) (rs : List Reply) → AreReplies q (b ∷ bs) (r ∷ rs) → AreReplies q bs rs
  replies_behind b bs r rs are = record {
    long = omega (arith, are.long);
    each = λ k reply at c here. are.each (suc k) reply at c here;
  }

  replies_answer : (questions : List ResidueMatrix) (replies : List Reply) → AreReplies q questions replies → IsPrime p → IsMatrix p A → AnswersEach p A (matrices_of questions) (replies_text replies)
  replies_answer [] [] are prime m = refl
  replies_answer [] (r ∷ rs) are prime m = absurd (omega (arith, are.long))
  replies_answer (b ∷ bs) [] are prime m = absurd (omega (arith, are.long))
  replies_answer (b ∷ bs) (r ∷ rs) are prime m = (
    reply_text r,
    replies_text rs,
    reply_answers b.matrix r (are.each 0 r refl b refl) prime m,
    replies_answer bs rs (replies_behind b bs r rs are) prime m,
    refl,
  )

  replies_small : (questions : List ResidueMatrix) (replies : List Reply) → A.height < LARGEST_SIZE → A.width < LARGEST_SIZE → AreReplies q questions replies → All IsSmallReply replies
  replies_small questions [] tall wide are = All-nil IsSmallReply
  replies_small [] (r ∷ rs) tall wide are = absurd (omega (arith, are.long))
  replies_small (b ∷ bs) (r ∷ rs) tall wide are =
      All-cons IsSmallReply r rs (reply_small b.matrix r tall wide (are.each 0 r refl b refl)) (replies_small bs rs tall wide (replies_behind b bs r rs are))

-- replies to the right-hand sides behind the first text
pub batch_replies : (p : ℕ) (texts : List ResidueMatrix) (d : ResidueMatrix) (q : Preparation) (replies : List Reply) → 1 ≤ length texts → All (IsOfText p) texts → IsMatrix p (get_or texts 0 d).matrix →
    batch_misfit (matrices_of texts) ≡ None → IsPreparedFor p (get_or texts 0 d).matrix q → AreReplies q (drop 1 texts) replies → AreBatchReplies p (matrices_of texts) replies
batch_replies p [] d q replies some texts m fits prepared are = absurd (omega arith)
batch_replies p (A ∷ Bs) d q replies some texts m fits prepared are =
    let of_text = texts 0 A (omega arith) in record {
      small = replies_small p A.matrix q prepared Bs replies of_text.height of_text.width are;
      fits = fits;
      answers = λ prime. replies_answer p A.matrix q prepared Bs replies are prime m;
    }

-- the right-hand sides are questions
pub batch_questions : (p : ℕ) (texts : List ResidueMatrix) (d : ResidueMatrix) (q : Preparation) → 1 ≤ length texts → All (IsOfText p) texts →
    batch_misfit (matrices_of texts) ≡ None → IsPreparedFor p (get_or texts 0 d).matrix q → All (IsQuestion q) (drop 1 texts)
batch_questions p [] d q some texts fits prepared = absurd (omega arith)
batch_questions p (A ∷ Bs) d q some texts fits prepared = λ k e less.
    let shape = fit_columns (A ∷ Bs) A some fits k e less in
    let of_text = texts (suc k) e (omega arith) in record {
      modulus = of_text.modulus ∙ sym prepared.modulus;
      height = shape.0 ∙ sym prepared.height;
      column = shape.1;
    }

-- the texts behind the first
pub texts_behind : (texts : List ResidueMatrix) → 1 ≤ length texts → take (length texts - 1) (drop 1 texts) ≡ drop 1 texts
texts_behind [] some = absurd (omega arith)
texts_behind (A ∷ Bs) some = let e : suc (length Bs) - 1 ≡ length Bs = omega arith in ap (λ n. take n Bs) e ∙ take_all (length Bs) Bs (omega arith)

-- what is told of replies, if there are some
pub replies_told : {E : Type 0} (P Q : Vec Reply Global → Type 0) (r : Result (Vec Reply Global) E) → ((x : Vec Reply Global) → P x → Q x) → IfOk r P → IfOk r Q
replies_told P Q (Ok x) f h = f x h
replies_told P Q (Err e) f h = tt
