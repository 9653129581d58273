use Rattle.std.proofs.Common.{ℕ, ◌≡◌, ◌∙◌, length, replicate, ap, sym, subst, arith}
use Rattle.std.specs.Vec.{with_items}
use Rattle.std.proofs.lemmas.List.{length-replicate, with_items_is}
use Rattle.sparse_rows.specs.Rows.{AreBelow}
use Rattle.sparse_rows.proofs.Rising.{rising_short}
use Rattle.triangular_solve.specs.AscendingColumns.{IsTable}
use Rattle.triangular_solve.proofs.Placing.{no_places, rising_distinct}
use Rattle.triangular_solve.proofs.ascending_columns.table_of.Goals as goal

pub number-requires : goal.number-requires
number-requires c =
    let none : c.deref_mut.result.now ≡ replicate c.args.width 4294967295 = c.deref_mut.ensures.value ∙ c.in_ok-table.ensures.items_if_clones_equal (λ y e. e) in
    let long : c.args.width ≡ length c.deref_mut.result.now = sym (ap length none ∙ length-replicate {A = ℕ} c.args.width 4294967295) in
    record {
      few = omega (arith, rising_short c.args.columns.now c.args.width c.requires.rising c.requires.below, c.requires.width);
      distinct = rising_distinct c.args.columns.now c.requires.rising;
      below = subst (λ n. AreBelow n c.args.columns.now) long c.requires.below;
      others = no_places c.args.width c.args.columns.now c.deref_mut.result.now none;
    }

pub returns : goal.returns
returns c =
    let kept : (with_items c.in_ok-table.table c.number.new.table).items ≡ c.number.new.table = with_items_is c.in_ok-table.table c.number.new.table (omega (arith, c.number.auto.table, c.deref_mut.ensures.len)) in
    subst (IsTable c.args.columns.now) (sym kept) c.number.ensures
