-- Line by line.
use Rattle.std.proofs.Common.{refl}
use Rattle.std.proofs.lemmas.Result.{err_from_is_err_and}
use Rattle.byte_streams.proofs.Added.{added_nothing, added_more, added_fault, added_all}
use Rattle.sms_text.proofs.WrittenRows.{pair_lines_end, pair_lines_from}
use Rattle.sms_text.proofs.block_writer.BlockWriter.add_pairs.Goals as goal

pub loop-k-init : goal.loop-k-init
loop-k-init g c = added_nothing _ _ _ _ refl

pub loop-k-preserved : goal.loop-k-preserved
loop-k-preserved g c =
    added_more _ _ _ _ _ _ _ (pair_lines_from c.args.pairs.now c.loop-k.k _ c.loop-k-test.true) c.loop-k.invariant c.in_ok-add_pair.ensures

pub returns-in_err-add_pair : goal.returns-in_err-add_pair
returns-in_err-add_pair g c =
    let fault = err_from_is_err_and c.from_residual.result c.from_residual.ensures.1 in
    rw fault.1 (added_fault _ _ _ _ _ _ _ _ (pair_lines_from c.args.pairs.now c.loop-k.k _ c.loop-k-test.true) c.loop-k.invariant c.in_err-add_pair.ensures)

pub returns : goal.returns
returns g c = added_all _ _ _ _ (pair_lines_end c.args.pairs.now c.loop-k.k c.loop-k-test.false) c.loop-k.invariant
