use Rattle.std.proofs.Common.{ℕ, List, ◌≡◌, ◌<◌, ◌+◌, ◌++◌, ◌∷◌, [], get_or, inl, inr, subst, sym, ap, refl, ◌∙◌, arith}
use Rattle.std.proofs.lemmas.Bool.{cases_lt}
use Rattle.std.proofs.lemmas.List.{get_or_default}
use Rattle.residue_words.specs.declared.plain.Pair.{Pair}
use Rattle.sparse_rows.specs.Rows.{ResidueMatrix}
use Rattle.pivot_table.specs.History.{Alive}
use Rattle.pivot_table.specs.Book.{BookState}
use Rattle.fl_pivots.specs.declared.beginning.Beginning.{Beginning}
use Rattle.fl_pivots.proofs.Taking.{IsTaking, here_begins, here_sparsest, passed_all, passed_before, taking_alive, taking_comes, taking_ends, taking_passes}
use Rattle.fl_pivots.proofs.take_first.Goals as goal
use Rattle.fl_pivots.proofs.take_first.Goals.{then-beginning-next+in_ok-reserve, else-beginning-next}

abbrev none : Beginning
none = record { column = 0; weight = 0; row = 0 }

pub push-requires-clause-alive : goal.push-requires-clause-alive
push-requires-clause-alive c =
    let A = c.args.book.now.rows.matrix in
    let list = c.args.beginnings.now in
    let k = c.loop-beginning.beginning-index in
    let b = get_or list k none in
    let inv = c.loop-beginning.invariant in
    let passes = passed_before c.requires.beginnings c.requires.sorted inv.passed none c.loop-beginning-test.true c.if-beginning-next.true in
    subst (λ (m : ResidueMatrix). Alive m.matrix c.reserve.new.self.pairs b.row b.column) (sym (c.reserve.ensures.rows ∙ inv.rows))
    (subst (λ (qs : List Pair). Alive A qs b.row b.column) (sym c.reserve.ensures.pairs)
    (taking_alive (taking_passes inv.taking b.column c.if-beginning-next.true passes)
    (here_begins c.requires.beginnings c.requires.sorted inv.passed none c.loop-beginning-test.true c.if-beginning-next.true)))

pub overflow_add-next : goal.overflow_add-next
overflow_add-next c =
    let list = c.args.beginnings.now in
    let k = c.loop-beginning.beginning-index in
    let at = here_begins c.requires.beginnings c.requires.sorted c.loop-beginning.invariant.passed none c.loop-beginning-test.true c.if-beginning-next.true in
    let low = at.0.1 in
    record { fits = omega (arith, low, c.is_sound.ensures.width, ap (λ (m : ResidueMatrix). m.matrix.width) c.rows.ensures) }

pub loop-beginning-preserved : goal.loop-beginning-preserved
loop-beginning-preserved c =
    let A = c.args.book.now.rows.matrix in
    let list = c.args.beginnings.now in
    let k = c.loop-beginning.beginning-index in
    let b = get_or list k none in
    let inv = c.loop-beginning.invariant in
    let at : (t : ℕ) (d : Beginning) → t < k + 1 → (get_or list t d).column ≡ b.column → b.column < c.if-beginning-next.next → (get_or list t d).column < c.if-beginning-next.next = λ t d l e less. omega arith in
    elim c.if-beginning-next.branch [
      | then-beginning-next+in_ok-reserve w ↦
          let q : Pair = record { row = b.row; col = b.column } in
          let fresh = w.if-beginning-next.true in
          let l = c.loop-beginning-test.true in
          let sparsest = here_sparsest c.requires.beginnings c.requires.sorted inv.passed none l fresh in
          let passes = passed_before c.requires.beginnings c.requires.sorted inv.passed none l fresh in
          let pairs : c.if-beginning-next.book.pairs ≡ c.loop-beginning.book.pairs ++ q ∷ [] =
          ap (λ (x : BookState). x.pairs) w.book-is ∙ w.push.ensures.pairs ∙ ap (λ (qs : List Pair). qs ++ q ∷ []) w.reserve.ensures.pairs in
          record {
            rows = ap (λ (x : BookState). x.rows) w.book-is ∙ w.push.ensures.rows ∙ w.reserve.ensures.rows ∙ inv.rows;
            taking = subst (λ n. IsTaking A c.if-beginning-next.book.pairs n) (sym w.next-is)
                (subst (λ (qs : List Pair). IsTaking A qs (b.column + 1)) (sym pairs) (taking_comes (taking_passes inv.taking b.column fresh passes) q refl sparsest));
            passed = λ t d lt. elim (cases_lt t k) [
              | inl less ↦ omega (arith, inv.passed t d less, w.next-is)
              | inr ge ↦
                  let is : t ≡ k = omega arith in
                  omega (arith, ap (λ i. (get_or list i d).column) is, ap (λ (x : Beginning). x.column) (get_or_default list k d none l), w.next-is)
            ];
          }
      | else-beginning-next w ↦ record {
        rows = ap (λ (x : BookState). x.rows) w.book-is ∙ inv.rows;
        taking = subst (λ n. IsTaking A c.if-beginning-next.book.pairs n) (sym w.next-is) (subst (λ (qs : List Pair). IsTaking A qs c.loop-beginning.next) (sym (ap (λ (x : BookState). x.pairs) w.book-is)) inv.taking);
        passed = λ t d lt. elim (cases_lt t k) [
          | inl less ↦ omega (arith, inv.passed t d less, w.next-is)
          | inr ge ↦
              let is : t ≡ k = omega arith in
              omega (arith, ap (λ i. (get_or list i d).column) is, ap (λ (x : Beginning). x.column) (get_or_default list k d none c.loop-beginning-test.true), w.next-is, w.if-beginning-next.false)
        ];
      }
    ]

pub returns-clause-pairs : goal.returns-clause-pairs
returns-clause-pairs c = taking_ends c.loop-beginning.invariant.taking
    (passed_all c.requires.beginnings c.requires.sorted c.loop-beginning.invariant.passed (omega (arith, c.loop-beginning-test.false)))
