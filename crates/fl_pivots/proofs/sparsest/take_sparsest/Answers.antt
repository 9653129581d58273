use Rattle.std.proofs.Common.{List, ◌≡◌, ◌+◌, ◌++◌, ◌∷◌, [], ◌∙◌, get_or, subst, sym, ap, refl, arith}
use Rattle.residue_words.specs.declared.plain.Pair.{Pair}
use Rattle.sparse_rows.specs.Rows.{ResidueMatrix}
use Rattle.pivot_table.specs.History.{Alive}
use Rattle.pivot_table.specs.Book.{BookState}
use Rattle.fl_pivots.specs.declared.sparsest.Sparsest.{Sparsest}
use Rattle.fl_pivots.proofs.Choosing.{is_sparsest, passes_column}
use Rattle.fl_pivots.proofs.Taking.{IsTaking, taking_alive, taking_comes, taking_ends}
use Rattle.fl_pivots.proofs.sparsest.take_sparsest.Goals as goal
use Rattle.fl_pivots.proofs.sparsest.take_sparsest.Goals.{then-sparsest-lt-NONE+in_ok-reserve, else-sparsest-lt-NONE}

abbrev none : Sparsest
none = record { weight = 0; row = 0 }

pub push-requires-clause-alive : goal.push-requires-clause-alive
push-requires-clause-alive c =
    let x = get_or c.args.table.now c.loop-column.column none in
    let inv = c.loop-column.invariant in
    subst (λ (R : ResidueMatrix). Alive R.matrix c.reserve.new.self.pairs x.row c.loop-column.column) (sym (c.reserve.ensures.rows ∙ inv.rows))
    (subst (λ (qs : List Pair). Alive c.args.book.now.rows.matrix qs x.row c.loop-column.column) (sym c.reserve.ensures.pairs)
    (taking_alive inv.taking (is_sparsest c.rows.ensures c.is_sound.ensures.width c.is_sound.ensures.entries c.requires.table none c.loop-column-test.true c.if-sparsest-lt-NONE.true).begins))

pub loop-column-preserved : goal.loop-column-preserved
loop-column-preserved c =
    let A = c.args.book.now.rows.matrix in
    let k = c.loop-column.column in
    let inv = c.loop-column.invariant in
    elim c.if-sparsest-lt-NONE.branch [
      | then-sparsest-lt-NONE+in_ok-reserve w ↦
          let q : Pair = record { row = (get_or c.args.table.now k none).row; col = k } in
          let pairs : c.if-sparsest-lt-NONE.book.pairs ≡ c.loop-column.book.pairs ++ q ∷ [] =
          ap (λ (b : BookState). b.pairs) w.book-is ∙ w.push.ensures.pairs ∙ ap (λ (qs : List Pair). qs ++ q ∷ []) w.reserve.ensures.pairs in
          record {
            rows = ap (λ (b : BookState). b.rows) w.book-is ∙ w.push.ensures.rows ∙ w.reserve.ensures.rows ∙ inv.rows;
            taking = subst (λ (qs : List Pair). IsTaking A qs (k + 1)) (sym pairs) (taking_comes inv.taking q refl
                (is_sparsest c.rows.ensures c.is_sound.ensures.width c.is_sound.ensures.entries c.requires.table none c.loop-column-test.true w.if-sparsest-lt-NONE.true));
          }
      | else-sparsest-lt-NONE w ↦ record {
        rows = ap (λ (b : BookState). b.rows) w.book-is ∙ inv.rows;
        taking = subst (λ (qs : List Pair). IsTaking A qs (k + 1)) (sym (ap (λ (b : BookState). b.pairs) w.book-is))
            (passes_column c.rows.ensures c.is_sound.ensures.width c.is_sound.ensures.entries c.requires.table none c.loop-column-test.true w.if-sparsest-lt-NONE.false inv.taking);
      }
    ]

pub returns-clause-pairs : goal.returns-clause-pairs
returns-clause-pairs c = taking_ends c.loop-column.invariant.taking (λ r d at. omega (arith, at.0.1, c.requires.table.long, c.loop-column-test.false))
