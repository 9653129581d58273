use Rattle.std.proofs.Common.{ℕ, ◌≡◌, ◌+◌, ◌∙◌, get_or, length, replicate, sym, ap, subst, Vec, Global}
use Rattle.std.proofs.lemmas.List.{get_or-map}
use Rattle.residue_words.specs.declared.plain.Pair.{Pair}
use Rattle.residue_words.proofs.Lists.{place_in}
use Rattle.row_space.specs.Factors.{row_at}
use Rattle.schur_rows.specs.PivotNumbers.{AreNumbersOf}
use Rattle.schur_rows.proofs.Numbers.{numbers_more, numbers_none}
use Rattle.schur_rows.proofs.pivot_numbers.numbers_of.Goals as goal
use Rattle.schur_rows.proofs.pivot_numbers.numbers_of.Goals.{in-Some, in_default}

pub loop-k-init : goal.loop-k-init
loop-k-init c =
    let items : c.in_ok-numbers.numbers.items ≡ replicate (length c.args.rows.now) 4294967295 = c.in_ok-numbers.ensures.items_if_clones_equal (λ y e. e) in
    numbers_none c.args.pairs.now c.args.rows.now c.in_ok-numbers.numbers.items items

pub loop-k-preserved : goal.loop-k-preserved
loop-k-preserved c =
    let rows = c.args.rows.now in
    let pairs = c.args.pairs.now in
    let k = c.loop-k.k in
    let l = c.loop-k-test.true in
    let x : ℕ = (get_or pairs k (record { row = 0; col = 0 })).row in
    let is : x ≡ row_at pairs k = sym (get_or-map (λ (q : Pair). q.row) pairs k (record { row = 0; col = 0 }) 0 l) in
    elim c.match-place_of.branch [
      | in-Some w ↦
          subst (AreNumbersOf pairs rows (k + 1)) (sym (ap (λ (v : Vec ℕ Global). v.items) w.numbers-is))
          (numbers_more c.requires.rising c.loop-k.invariant x w.in-Some.t is w.in-Some.ensures.0 w.in-Some.ensures.1 (λ t lt. c.requires.apart t k lt l))
      | in_default w ↦
          let t = place_in rows (row_at pairs k) (c.requires.known k l) in
          absurd (w.in_default.ensures t.0 t.1 (t.2 ∙ sym is))
    ]
