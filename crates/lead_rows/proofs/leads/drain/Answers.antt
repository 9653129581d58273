use Rattle.std.proofs.Common.{◌≡◌, ◌<◌, length, slice_index, subst, sym, ap, refl, ◌∙◌, arith}
use Rattle.sparse_rows.specs.Rows.{nonzeros, support}
use Rattle.lead_rows.specs.Led.{LeadsAt, kept_rows}
use Rattle.lead_rows.specs.Leads.{KeptRows}
use Rattle.lead_rows.specs.declared.led.Led.{Led}
use Rattle.lead_rows.proofs.LedRows.{found_none, found_some, kept_sound}
use Rattle.lead_rows.proofs.Touched.{taken_falls}
use Rattle.lead_rows.proofs.Draining.{Adds, IsDraining, IsEliminated, draining_none, draining_kept, draining_eliminated, draining_all, eliminated, eliminated_falls}
use Rattle.lead_rows.proofs.leads.drain.Goals as goal

pub loop-c-init : goal.loop-c-init
loop-c-init c = record {
  modulus = refl;
  sums_modulus = refl;
  draining = draining_none (kept_rows c.args.sums.now.modulus (length c.args.sums.now.row) c.args.rows.now) _ _ c.requires.kept.two_or_more c.requires.residues c.requires.rest.vector c.requires.rest.behind;
}

pub loop-c-smaller-in-Continue-1 : goal.loop-c-smaller-in-Continue-1
loop-c-smaller-in-Continue-1 c = taken_falls c.in-Some.ensures.some

pub loop-c-preserved-in-Continue-1 : goal.loop-c-preserved-in-Continue-1
loop-c-preserved-in-Continue-1 c =
    let kept : KeptRows = kept_rows c.args.sums.now.modulus (length c.args.sums.now.row) c.args.rows.now in
    record {
      modulus = c.push.ensures.modulus ∙ c.loop-c.invariant.modulus;
      sums_modulus = c.pop.ensures.modulus ∙ c.loop-c.invariant.sums_modulus;
      draining = subst (IsDraining kept c.args.sums.now.row c.args.rest.now.row c.pop.new.self.row) (sym c.in_ok-push.ensures.ok)
          (draining_kept c.requires.kept.two_or_more c.loop-c.invariant.draining c.in-Some.ensures.some (found_none c.requires.kept c.in-Some.c c.if-k.true));
    }

pub bounds-rows-k : goal.bounds-rows-k
bounds-rows-k c =
    let inside : c.in-Some.c < length c.args.sums.now.row = omega (arith, c.in-Some.ensures.some.inside, c.loop-c.invariant.draining.sums.len) in
    (found_some c.requires.kept c.in-Some.c inside (slice_index c.args.row_at.now c.in-Some.c) refl c.if-k.false).0

pub loop-c-smaller : goal.loop-c-smaller
loop-c-smaller c =
    let kept : KeptRows = kept_rows c.args.sums.now.modulus (length c.args.sums.now.row) c.args.rows.now in
    let inside : c.in-Some.c < length c.args.sums.now.row = omega (arith, c.in-Some.ensures.some.inside, c.loop-c.invariant.draining.sums.len) in
    let at : LeadsAt kept c.index-rows-k.result c.in-Some.c =
    (found_some c.requires.kept c.in-Some.c inside (slice_index c.args.row_at.now c.in-Some.c) refl c.if-k.false).1 c.index-rows-k.result c.index-rows-k.is in
    let modulus : c.modulus-modulus.result ≡ c.args.sums.now.modulus = c.modulus-modulus.ensures.value ∙ c.requires.rest.modulus in
    let gone : IsEliminated kept at.k c.in-Some.c c.in-Some.value c.pop.new.self.row c.add_multiple.new.self.row =
    eliminated (kept_sound c.requires.kept) c.loop-c.invariant.draining.sums c.in-Some.ensures.some at c.modulus-modulus.result c.neg.result modulus c.neg.ensures.value
    (c.cols.ensures.support ∙ ap (λ (r : Led). support r.tail.row) (sym c.index-rows-k.is)) (c.vals.ensures.values ∙ ap (λ (r : Led). nonzeros r.tail.row) (sym c.index-rows-k.is))
    (subst (λ q. Adds q c.neg.result c.cols.result.now c.vals.result.now c.pop.new.self.row c.add_multiple.new.self.row) (c.pop.ensures.modulus ∙ c.loop-c.invariant.sums_modulus ∙ sym modulus)
    (c.add_multiple.ensures.vector, c.add_multiple.ensures.sums)) in
    eliminated_falls (kept_sound c.requires.kept) c.loop-c.invariant.draining.sums c.in-Some.ensures.some gone

pub loop-c-preserved : goal.loop-c-preserved
loop-c-preserved c =
    let kept : KeptRows = kept_rows c.args.sums.now.modulus (length c.args.sums.now.row) c.args.rows.now in
    let inside : c.in-Some.c < length c.args.sums.now.row = omega (arith, c.in-Some.ensures.some.inside, c.loop-c.invariant.draining.sums.len) in
    let at : LeadsAt kept c.index-rows-k.result c.in-Some.c =
    (found_some c.requires.kept c.in-Some.c inside (slice_index c.args.row_at.now c.in-Some.c) refl c.if-k.false).1 c.index-rows-k.result c.index-rows-k.is in
    let modulus : c.modulus-modulus.result ≡ c.args.sums.now.modulus = c.modulus-modulus.ensures.value ∙ c.requires.rest.modulus in
    let gone : IsEliminated kept at.k c.in-Some.c c.in-Some.value c.pop.new.self.row c.add_multiple.new.self.row =
    eliminated (kept_sound c.requires.kept) c.loop-c.invariant.draining.sums c.in-Some.ensures.some at c.modulus-modulus.result c.neg.result modulus c.neg.ensures.value
    (c.cols.ensures.support ∙ ap (λ (r : Led). support r.tail.row) (sym c.index-rows-k.is)) (c.vals.ensures.values ∙ ap (λ (r : Led). nonzeros r.tail.row) (sym c.index-rows-k.is))
    (subst (λ q. Adds q c.neg.result c.cols.result.now c.vals.result.now c.pop.new.self.row c.add_multiple.new.self.row) (c.pop.ensures.modulus ∙ c.loop-c.invariant.sums_modulus ∙ sym modulus)
    (c.add_multiple.ensures.vector, c.add_multiple.ensures.sums)) in
    record {
      modulus = c.loop-c.invariant.modulus;
      sums_modulus = c.add_multiple.ensures.modulus ∙ c.pop.ensures.modulus ∙ c.loop-c.invariant.sums_modulus;
      draining = draining_eliminated (kept_sound c.requires.kept) c.loop-c.invariant.draining c.in-Some.ensures.some gone;
    }

pub returns-clause-ok : goal.returns-clause-ok
returns-clause-ok c = draining_all c.loop-c.invariant.draining c.in_default.ensures.none.1
