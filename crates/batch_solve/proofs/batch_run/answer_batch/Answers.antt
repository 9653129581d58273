-- The texts were read, and something came of them; or they weren't.
use Rattle.std.proofs.Common.{List, subst}
use Rattle.sparse_rows.specs.Rows.{ResidueMatrix}
use Rattle.batch_solve.specs.BatchFound.{ComesOfBatch, matrices_of}
use Rattle.batch_solve.proofs.BatchWhole.{found_read, found_unread}
use Rattle.batch_solve.proofs.batch_run.answer_batch.Goals as goal

pub returns-in_err-texts-clause-found : goal.returns-in_err-texts-clause-found
returns-in_err-texts-clause-found g c = λ words accepted.
    found_unread words c.args.command c.new-p.result c.args.limit _ _ c.in_err-texts.field-0.0 _ c.new-p.ensures c.from_residual.ensures.1 accepted c.in_err-texts.ensures.did

pub returns-clause-found : goal.returns-clause-found
returns-clause-found g c = λ words accepted.
    let texts = c.in_ok-texts.texts.items in
    let comes = subst (λ (ts : List ResidueMatrix). ComesOfBatch c.new-p.result (matrices_of ts) c.answer_texts.result) c.deref.ensures.value c.answer_texts.ensures.comes in
    found_read words c.args.command c.new-p.result c.args.limit _ _ (matrices_of texts) c.answer_texts.result c.new-p.ensures accepted c.in_ok-texts.ensures.did comes
