use Rattle.std.proofs.Common.{◌≡◌, ◌+◌, ◌∙◌, arith, length, subst, sym}
use Rattle.std.proofs.lemmas.Result.{IfOk-weaker}
use Rattle.residue_words.specs.Matrix.{IsVector}
use Rattle.dense_rows.specs.Dense.{AreEntriesAt}
use Rattle.dense_rows.proofs.Filling.{IsFilling, filling_all, filling_more, filling_none, full_entries}
use Rattle.dense_rows.proofs.dense.Dense.of_entries.Goals as goal

pub loop-k-init : goal.loop-k-init
loop-k-init g c = filling_none c.args.columns.now c.args.cols.now c.args.vals.now c.in_ok-row.ensures.vector c.in_ok-row.ensures.row

pub place_of-j-requires-clause-known : goal.place_of-j-requires-clause-known
place_of-j-requires-clause-known g c = c.requires.known c.loop-k.k (omega arith)

pub set-requires-clause-inside : goal.set-requires-clause-inside
set-requires-clause-inside g c κs within = omega (arith, c.loop-k.invariant.vector.len, c.place_of-j.ensures.inside)

pub loop-k-preserved : goal.loop-k-preserved
loop-k-preserved g c =
    let k = c.loop-k.k in
    subst (IsFilling c.args.p.now c.args.columns.now c.args.cols.now c.args.vals.now (k + 1)) (sym c.set.ensures)
    (filling_more c.place_of-j.result c.requires.long (omega arith) c.requires.ascending c.requires.rising (c.requires.residues k (omega (arith, c.requires.long))) c.place_of-j.ensures.inside
    c.place_of-j.ensures.there c.loop-k.invariant)

pub returns-clause-vector : goal.returns-clause-vector
returns-clause-vector g c = c.loop-k.invariant.vector

pub returns-clause-entries : goal.returns-clause-entries
returns-clause-entries g c = filling_all c.requires.long (omega arith) c.loop-k.invariant

pub returns-then-cols-columns-clause-vector : goal.returns-then-cols-columns-clause-vector
returns-then-cols-columns-clause-vector g c =
    let vals = c.args.vals.now in
    let n = length c.args.columns.now in
    let vector : IsVector c.args.p.now n vals = record { len = c.requires.long ∙ c.if-cols-columns.true; residues = λ k l. c.requires.residues k (omega (arith, c.requires.long, c.if-cols-columns.true)) } in
    IfOk-weaker c.of_residues.result (λ row. row ≡ vals) (IsVector c.args.p.now n) (λ row is. subst (IsVector c.args.p.now n) (sym is) vector) c.of_residues.ensures

pub returns-then-cols-columns-clause-entries : goal.returns-then-cols-columns-clause-entries
returns-then-cols-columns-clause-entries g c =
    let cols = c.args.cols.now in
    let vals = c.args.vals.now in
    let names = c.args.columns.now in
    let full : AreEntriesAt cols vals names vals = full_entries names cols c.if-cols-columns.true c.requires.ascending c.requires.rising c.requires.known vals c.requires.long in
    IfOk-weaker c.of_residues.result (λ row. row ≡ vals) (AreEntriesAt cols vals names) (λ row is. subst (AreEntriesAt cols vals names) (sym is) full) c.of_residues.ensures
