use Rattle.std.proofs.Common.{Err, inl, inr, arith}
use Rattle.std.proofs.lemmas.Bool.{cases_lt}
use Rattle.std.proofs.lemmas.List.Sorted.{searched}
use Rattle.residue_words.proofs.Lists.{place_in}
use Rattle.sparse_rows.proofs.Occurrences.{rising_weakly}
use Rattle.optimistic_search.proofs.narrow.place_among.Goals as goal

pub returns-in-Err-clause-inside : goal.returns-in-Err-clause-inside
returns-in-Err-clause-inside c =
    let xs = c.args.columns.now in
    let w = place_in xs c.args.column c.requires.among in
    let s = searched xs c.args.column (Err c.in-Err.place) c.in-Err.ensures.position (rising_weakly xs c.requires.rising) in
    elim (cases_lt w.0 c.in-Err.place) [
      | inl b ↦ absurd (omega (arith, s.1 w.0 b, w.2))
      | inr b ↦ absurd (omega (arith, s.2 w.0 b w.1, w.2))
    ]

pub returns-in-Err-clause-there : goal.returns-in-Err-clause-there
returns-in-Err-clause-there c =
    let xs = c.args.columns.now in
    let w = place_in xs c.args.column c.requires.among in
    let s = searched xs c.args.column (Err c.in-Err.place) c.in-Err.ensures.position (rising_weakly xs c.requires.rising) in
    elim (cases_lt w.0 c.in-Err.place) [
      | inl b ↦ absurd (omega (arith, s.1 w.0 b, w.2))
      | inr b ↦ absurd (omega (arith, s.2 w.0 b w.1, w.2))
    ]
