use Rattle.std.proofs.Common.{Err, inl, inr, arith}
use Rattle.std.proofs.lemmas.Bool.{cases_lt}
use Rattle.std.proofs.lemmas.List.Sorted.{searched}
use Rattle.residue_words.proofs.Lists.{place_in}
use Rattle.sparse_rows.proofs.Occurrences.{rising_weakly}
use Rattle.triangular_solve.proofs.ascending_columns.search.Goals as goal

pub returns-in-Err : goal.returns-in-Err
returns-in-Err c = λ m.
    let xs = c.args.columns.now in
    let w = place_in xs c.args.column m in
    let s = searched xs c.args.column (Err c.in-Err.field-0) c.in-Err.ensures.position (rising_weakly xs c.requires.rising) in
    elim (cases_lt w.0 c.in-Err.field-0) [
      | inl b ↦ omega (arith, s.1 w.0 b, w.2)
      | inr b ↦ omega (arith, s.2 w.0 b w.1, w.2)
    ]
