use Rattle.std.proofs.Common.{ℕ, List, ◌≡◌, ◌<◌, ◌∙◌, length, get_or, slice_index, refl, ap, subst, arith, inl, inr}
use Rattle.std.proofs.lemmas.Bool.{cases_lt}
use Rattle.std.proofs.lemmas.List.{get_or_default, length-set, get_or_past}
use Rattle.sparse_rows.specs.Rows.{AreBelow}
use Rattle.sparse_rows.proofs.Loops.{zero_at}
use Rattle.lead_rows.proofs.Draining.{taken_vector}
use Rattle.triangular_solve.proofs.JoinedRows.{joining_behind, joining_ends, joining_none, joining_step}
use Rattle.lead_rows.proofs.Touched.{taken_falls}
use Rattle.triangular_solve.proofs.column_order.ColumnOrder.join.Goals as goal

pub loop-place-init : goal.loop-place-init
loop-place-init c = record {
  sums = (refl, refl);
  rest = (refl, refl);
  vector = c.requires.vector;
  joining = joining_none c.args.self.now c.args.sums.now.row c.args.passed.now.row c.args.rest.now.row c.requires.alike.1 (λ j. elim (cases_lt j (length c.args.rest.now.row)) [
    | inl l ↦ zero_at c.args.rest.now.row _ c.requires.none j l
    | inr ge ↦ get_or_past c.args.rest.now.row j 0 (omega arith)
  ]);
}

column_is : {column place : ℕ} (d : ℕ) {items now : List ℕ} → items ≡ now → place < length now → column ≡ get_or items place d → column ≡ slice_index now place
column_is {column} {place} d {items} {now} e l is = is ∙ get_or_default items place d 0 (omega (arith, ap length e)) ∙ ap (λ (xs : List ℕ). slice_index xs place) e

pub push-requires-clause-column : goal.push-requires-clause-column
push-requires-clause-column c =
    omega (arith, (column_is _ c.self.view_is (omega (arith, c.in-Some.ensures.some.inside, c.loop-place.invariant.vector.len)) c.index-column.ensures), c.requires.below c.in-Some.place (omega (arith, c.in-Some.ensures.some.inside, c.loop-place.invariant.vector.len)), c.in_ok-at.ensures.alike.1, c.loop-place.invariant.rest.1)

pub push-requires-clause-behind : goal.push-requires-clause-behind
push-requires-clause-behind c = λ k le l.
    joining_behind c.width-width.ensures.sound c.requires.distinct c.requires.parts.apart c.loop-place.invariant.joining c.requires.parts.ascending c.loop-place.invariant.vector.len c.in-Some.ensures.some c.index-column.result.now (column_is _ c.self.view_is (omega (arith, c.in-Some.ensures.some.inside, c.loop-place.invariant.vector.len)) c.index-column.ensures)
    c.in_ok-at.ensures.appended k le

pub loop-place-smaller : goal.loop-place-smaller
loop-place-smaller c = taken_falls c.in-Some.ensures.some

pub loop-place-preserved : goal.loop-place-preserved
loop-place-preserved c =
    let t = c.in-Some.ensures.some in
    let inv = c.loop-place.invariant in
    record {
      sums = (c.in-Some.ensures.modulus ∙ inv.sums.0, ap length t.after ∙ length-set c.loop-place.sums.row c.in-Some.place 0 ∙ inv.sums.1);
      rest = (c.push.ensures.modulus ∙ c.in_ok-at.ensures.alike.0 ∙ inv.rest.0, ap length c.in_ok-push.ensures.ok ∙ length-set c.append_before.new.to.row _ _ ∙ c.in_ok-at.ensures.alike.1 ∙ inv.rest.1);
      vector = taken_vector (omega (arith, inv.vector.residues c.in-Some.place (omega (arith, t.inside, inv.vector.len)))) inv.vector t;
      joining = joining_step c.width-width.ensures.sound c.requires.distinct c.requires.parts.apart inv.joining c.requires.parts.ascending inv.vector.len t c.index-column.result.now (column_is _ c.self.view_is (omega (arith, c.in-Some.ensures.some.inside, c.loop-place.invariant.vector.len)) c.index-column.ensures) c.in_ok-at.ensures.appended
          (omega (arith, (column_is _ c.self.view_is (omega (arith, c.in-Some.ensures.some.inside, c.loop-place.invariant.vector.len)) c.index-column.ensures), c.requires.below c.in-Some.place (omega (arith, t.inside, inv.vector.len)), c.in_ok-at.ensures.alike.1, inv.rest.1)) c.in_ok-push.ensures.ok;
    }

pub returns-clause-joined : goal.returns-clause-joined
returns-clause-joined c =
    let inv = c.loop-place.invariant in
    joining_ends c.width-width.ensures.sound c.requires.distinct c.requires.parts.apart inv.joining c.requires.vector.len inv.vector.len c.in_default.ensures.none.1 (subst (λ n. AreBelow n c.args.self.now) c.requires.alike.1 c.requires.below) c.width-width.result c.width-width.ensures.value c.in_ok-append_before.ensures.appended
