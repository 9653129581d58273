use Rattle.std.proofs.Common.{ℕ, Err, inl, inr, ◌<◌, ◌≤◌, ap, arith, length, slice_index}
use Rattle.std.proofs.lemmas.Bool.{cases_eq, cases_lt}
use Rattle.std.proofs.lemmas.List.Sorted.{searched}
use Rattle.dense_rows.proofs.dense.place_of.Goals as goal

pub returns-in-Err-clause-inside : goal.returns-in-Err-clause-inside
returns-in-Err-clause-inside c =
    let names = c.args.columns.now in
    let flat : (i j : ℕ) → i ≤ j → j < length names → slice_index names i ≤ slice_index names j =
    λ i j le l. elim (cases_eq i j) [ inl e ↦ omega (arith, ap (slice_index names) e) | inr d ↦ omega (arith, c.requires.rising i j (omega arith) l) ] in
    let lost = searched names c.args.column (Err c.in-Err.j) c.in-Err.ensures.position flat in
    let named = c.requires.known in
    elim (cases_lt named.0 c.in-Err.j) [
      | inl less ↦ absurd (omega (arith, lost.1 named.0 less, named.2))
      | inr more ↦ absurd (omega (arith, lost.2 named.0 more named.1, named.2))
    ]

pub returns-in-Err-clause-there : goal.returns-in-Err-clause-there
returns-in-Err-clause-there c =
    let names = c.args.columns.now in
    let flat : (i j : ℕ) → i ≤ j → j < length names → slice_index names i ≤ slice_index names j =
    λ i j le l. elim (cases_eq i j) [ inl e ↦ omega (arith, ap (slice_index names) e) | inr d ↦ omega (arith, c.requires.rising i j (omega arith) l) ] in
    let lost = searched names c.args.column (Err c.in-Err.j) c.in-Err.ensures.position flat in
    let named = c.requires.known in
    elim (cases_lt named.0 c.in-Err.j) [
      | inl less ↦ absurd (omega (arith, lost.1 named.0 less, named.2))
      | inr more ↦ absurd (omega (arith, lost.2 named.0 more named.1, named.2))
    ]
