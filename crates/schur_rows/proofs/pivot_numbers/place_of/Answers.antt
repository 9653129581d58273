use Rattle.std.proofs.Common.{Ok, Err, inl, inr, arith}
use Rattle.std.proofs.lemmas.Bool.{cases_lt}
use Rattle.std.proofs.lemmas.List.Sorted.{searched}
use Rattle.sparse_rows.proofs.Occurrences.{rising_weakly}
use Rattle.schur_rows.proofs.pivot_numbers.place_of.Goals as goal

pub returns-in-Ok : goal.returns-in-Ok
returns-in-Ok c = searched c.args.rows.now c.args.i (Ok c.in-Ok.place) c.in-Ok.ensures.position (rising_weakly c.args.rows.now c.requires)

pub returns-in-Err : goal.returns-in-Err
returns-in-Err c = λ k l e.
    let s = searched c.args.rows.now c.args.i (Err c.in-Err.field-0) c.in-Err.ensures.position (rising_weakly c.args.rows.now c.requires) in
    elim (cases_lt k c.in-Err.field-0) [ inl b ↦ omega (arith, s.1 k b) | inr b ↦ omega (arith, s.2 k b l) ]
