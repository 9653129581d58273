use Rattle.std.proofs.Common.{[], ◌<◌, ◌∙◌, ap, below_more, arith, length, refl, set, subst, sym}
use Rattle.std.proofs.lemmas.List.{get_or-set_other, get_or-set_same}
use Rattle.dense_rows.specs.Rows.{block_row}
use Rattle.dense_rows.specs.Products.{IsWritten}
use Rattle.dense_rows.proofs.BlockRows.{read_row}
use Rattle.dense_rows.proofs.products.write_entries.Goals as goal

pub loop-t-init : goal.loop-t-init
loop-t-init c = record { done = λ t l. absurd (omega arith); ahead = λ t l. refl }

pub write-requires-clause-residues : goal.write-requires-clause-residues
write-requires-clause-residues c = λ k l. c.requires.residues c.loop-t.t k c.loop-t-test.true l

pub write-requires-clause-inside : goal.write-requires-clause-inside
write-requires-clause-inside c =
    let t = c.loop-t.t in
    let here = read_row c.loop-t.rows t c.index-rows-t.result (omega (arith, c.loop-t.auto.rows, c.loop-t-test.true)) ∙ c.loop-t.invariant.ahead t (omega arith) in
    omega (arith, ap length here, c.requires.wide t c.loop-t-test.true)

pub loop-t-preserved : goal.loop-t-preserved
loop-t-preserved c =
    let columns = c.args.columns in
    let entries = c.args.entries.now in
    let t = c.loop-t.t in
    let rows = c.loop-t.rows in
    let olds = c.args.rows.now in
    let v = c.write.new.self in
    let inside : t < length rows = omega (arith, c.loop-t.auto.rows, c.loop-t-test.true) in
    let here = read_row rows t c.index-rows-t.result inside ∙ c.loop-t.invariant.ahead t (omega arith) in
    let one : IsWritten columns (block_row entries t) (block_row olds t) v = subst (λ u. IsWritten columns (block_row entries t) u v) here c.write.ensures in
    record {
      done = below_more (λ t. IsWritten columns (block_row entries t) (block_row olds t) (block_row (set rows c.loop-t.t v) t)) t
          (λ x l. subst (IsWritten columns (block_row entries x) (block_row olds x)) (sym (get_or-set_other rows t x v [] (omega arith))) (c.loop-t.invariant.done x l))
          (subst (IsWritten columns (block_row entries t) (block_row olds t)) (sym (get_or-set_same rows t v [] inside)) one);
      ahead = λ x l. get_or-set_other rows t x v [] (omega arith) ∙ c.loop-t.invariant.ahead x (omega arith);
    }

pub returns : goal.returns
returns c = λ t l. c.loop-t.invariant.done t (omega arith)
