-- By the place of the column.
use Rattle.std.proofs.Common.{Ok, Err, arith}
use Rattle.std.proofs.lemmas.List.Sorted.{searched}
use Rattle.sparse_rows.proofs.Occurrences.{rising_weakly}
use Rattle.run_trace.proofs.Appending.{named_alive, named_inside, named_pairs, nowhere_alive, row_closed, rows_kept}
use Rattle.run_trace.proofs.replaying.append_named.Goals as goal

pub overflow_cast-narrow : goal.overflow_cast-narrow
overflow_cast-narrow g c =
    let xs = c.args.columns.now in
    let s = searched xs c.args.pair.col (Ok c.in-Ok.place) c.in-Ok.ensures.position (rising_weakly xs c.requires.enough.rising) in
    record { fits = omega (arith, s.0, c.requires.few) }

pub returns-in-Err-clause-alive : goal.returns-in-Err-clause-alive
returns-in-Err-clause-alive g c =
    let xs = c.args.columns.now in
    let s = searched xs c.args.pair.col (Err c.in-Err.field-0) c.in-Err.ensures.position (rising_weakly xs c.requires.enough.rising) in
    ((λ t. absurd (cc)), (λ a. absurd (nowhere_alive c.args.rows.now.matrix xs c.requires.enough c.args.pair.col c.in-Err.field-0 s.1 s.2 _ _ a)))

pub returns-in-Ok-clause-alive : goal.returns-in-Ok-clause-alive
returns-in-Ok-clause-alive g c =
    let xs = c.args.columns.now in
    let s = searched xs c.args.pair.col (Ok c.in-Ok.place) c.in-Ok.ensures.position (rising_weakly xs c.requires.enough.rising) in
    named_alive c.args.rows.now.matrix xs c.requires.enough c.args.walk.now c.requires.matrix c.requires.inside c.args.pair.row c.args.pair.col c.in-Ok.place s.0 s.1 c.append.result c.append.new.walk c.append.ensures

pub returns-in-Ok-clause-inside : goal.returns-in-Ok-clause-inside
returns-in-Ok-clause-inside g c =
    let xs = c.args.columns.now in
    let s = searched xs c.args.pair.col (Ok c.in-Ok.place) c.in-Ok.ensures.position (rising_weakly xs c.requires.enough.rising) in
    named_inside c.args.rows.now.matrix xs c.requires.enough c.args.walk.now c.requires.matrix c.requires.inside c.args.pair.row c.args.pair.col c.in-Ok.place s.0 s.1 c.append.result c.append.new.walk c.append.ensures

pub returns-in-Ok-clause-pairs : goal.returns-in-Ok-clause-pairs
returns-in-Ok-clause-pairs g c =
    let xs = c.args.columns.now in
    let s = searched xs c.args.pair.col (Ok c.in-Ok.place) c.in-Ok.ensures.position (rising_weakly xs c.requires.enough.rising) in
    named_pairs c.args.rows.now.matrix xs c.requires.enough c.args.walk.now c.requires.matrix c.requires.inside c.args.pair.row c.args.pair.col c.in-Ok.place s.0 s.1 c.append.result c.append.new.walk c.append.ensures

pub returns-in-Ok-clause-rows : goal.returns-in-Ok-clause-rows
returns-in-Ok-clause-rows g c = rows_kept c.args.walk.now _ c.append.result c.append.new.walk c.append.ensures

pub returns-in-Ok-clause-closed : goal.returns-in-Ok-clause-closed
returns-in-Ok-clause-closed g c = row_closed c.args.walk.now _ c.append.result c.append.new.walk c.requires.closed c.append.ensures
