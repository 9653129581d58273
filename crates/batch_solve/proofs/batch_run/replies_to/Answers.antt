-- The right-hand sides are questions for the prepared matrix, and the replies to them are the batch's.
use Rattle.std.proofs.Common.{◌≡◌, All, subst, sym, arith}
use Rattle.residue_words.specs.Matrix.{IsMatrix}
use Rattle.sparse_rows.specs.Rows.{ResidueMatrix}
use Rattle.kernel_solve.specs.Prepared.{IsPreparedFor}
use Rattle.batch_solve.specs.Replies.{AreReplies, IsQuestion}
use Rattle.batch_solve.proofs.BatchReplies.{batch_questions, batch_replies, replies_told, texts_behind}
use Rattle.batch_solve.proofs.batch_run.replies_to.Goals as goal

pub answer_all-requires-clause-questions : goal.answer_all-requires-clause-questions
answer_all-requires-clause-questions g c κs within =
    let a : ResidueMatrix = c.index-texts-0.result in
    let texts = c.args.texts.now in
    let modulus = subst (λ (x : ResidueMatrix). x.modulus ≡ c.args.p.now) (sym c.index-texts-0.is) (c.requires.of_text 0 a (omega (arith, c.requires.some))).modulus in
    let prepared = subst (λ m. IsPreparedFor m a.matrix c.in_ok-prepared.prepared) modulus c.in_ok-prepared.ensures in
    let first = subst (λ (x : ResidueMatrix). IsPreparedFor c.args.p.now x.matrix c.in_ok-prepared.prepared) c.index-texts-0.is prepared in
    subst (All (IsQuestion c.in_ok-prepared.prepared)) (sym (texts_behind texts c.requires.some))
    (batch_questions c.args.p.now texts a c.in_ok-prepared.prepared c.requires.some c.requires.of_text c.requires.fits first)

pub returns : goal.returns
returns g c =
    let a : ResidueMatrix = c.index-texts-0.result in
    let texts = c.args.texts.now in
    let modulus = subst (λ (x : ResidueMatrix). x.modulus ≡ c.args.p.now) (sym c.index-texts-0.is) (c.requires.of_text 0 a (omega (arith, c.requires.some))).modulus in
    let prepared = subst (λ m. IsPreparedFor m a.matrix c.in_ok-prepared.prepared) modulus c.in_ok-prepared.ensures in
    let first = subst (λ (x : ResidueMatrix). IsPreparedFor c.args.p.now x.matrix c.in_ok-prepared.prepared) c.index-texts-0.is prepared in
    let sound = subst (λ m. IsMatrix m a.matrix) modulus c.is_sound.ensures.entries in
    let matrix = subst (λ (x : ResidueMatrix). IsMatrix c.args.p.now x.matrix) c.index-texts-0.is sound in
    replies_told _ _ c.answer_all.result (λ replies are. batch_replies c.args.p.now texts a c.in_ok-prepared.prepared replies.items c.requires.some c.requires.of_text matrix c.requires.fits first
    (subst (λ qs. AreReplies c.in_ok-prepared.prepared qs replies.items) (texts_behind texts c.requires.some) are)) c.answer_all.ensures
