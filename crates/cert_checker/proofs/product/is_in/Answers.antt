use Rattle.std.proofs.Common.{Ok, Err, inl, inr, refl, arith}
use Rattle.std.proofs.lemmas.Bool.{cases_lt, false≢true}
use Rattle.std.proofs.lemmas.List.Sorted.{searched}
use Rattle.residue_words.proofs.Lists.{contains_at, place_in}
use Rattle.sparse_rows.proofs.Occurrences.{rising_weakly}
use Rattle.cert_checker.proofs.product.is_in.Goals as goal

pub returns-in-Ok : goal.returns-in-Ok
returns-in-Ok c =
    let s = searched c.args.rising.now c.args.number (Ok c.in-Ok.field-0) c.in-Ok.ensures.position (rising_weakly c.args.rising.now c.requires) in
    (λ _. contains_at c.args.rising.now c.in-Ok.field-0 c.args.number s.0 s.1, λ _. refl)

pub returns-in-Err : goal.returns-in-Err
returns-in-Err c =
    let s = searched c.args.rising.now c.args.number (Err c.in-Err.field-0) c.in-Err.ensures.position (rising_weakly c.args.rising.now c.requires) in (
      λ e. absurd (false≢true e),
      λ has.
          let w = place_in c.args.rising.now c.args.number has in
          absurd (elim (cases_lt w.0 c.in-Err.field-0) [ inl b ↦ omega (arith, s.1 w.0 b, w.2) | inr b ↦ omega (arith, s.2 w.0 b w.1, w.2) ]),
    )
