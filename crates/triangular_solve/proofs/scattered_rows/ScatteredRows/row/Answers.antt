use Rattle.std.proofs.Common.{◌+◌, ◌<◌, ◌∙◌, ap, arith, length, slice_range, subst}
use Rattle.std.proofs.lemmas.List.{get_or_default}
use Rattle.sparse_rows.specs.Rows.{ResidueMatrix}
use Rattle.triangular_solve.proofs.StoredScattered.{IsRowAt, scattered_at}
use Rattle.triangular_solve.proofs.scattered_rows.ScatteredRows.row.Goals as goal

pub returns-clause-scattered : goal.returns-clause-scattered
returns-clause-scattered c =
    let inside : c.args.i + 1 < length c.self.inside.starts.items = omega (arith, c.requires, ap (λ m. m.matrix.height) c.self.view_is) in
    (subst (λ (m : ResidueMatrix). IsRowAt m.modulus m.matrix c.args.i (slice_range c.deref.result.now c.index-from.result.now c.index-to.result.now) (slice_range c.deref-2.result.now c.index-from.result.now c.index-to.result.now)) c.self.view_is
    (scattered_at c.args.i c.self.invariant inside (c.index-from.ensures ∙ get_or_default c.self.inside.starts.items c.args.i _ 0 (omega arith)) (c.index-to.ensures ∙ get_or_default c.self.inside.starts.items (c.args.i + 1) _ 0 inside) c.deref.ensures.value c.deref-2.ensures.value)).0

pub returns-clause-row : goal.returns-clause-row
returns-clause-row c =
    let inside : c.args.i + 1 < length c.self.inside.starts.items = omega (arith, c.requires, ap (λ m. m.matrix.height) c.self.view_is) in
    (subst (λ (m : ResidueMatrix). IsRowAt m.modulus m.matrix c.args.i (slice_range c.deref.result.now c.index-from.result.now c.index-to.result.now) (slice_range c.deref-2.result.now c.index-from.result.now c.index-to.result.now)) c.self.view_is
    (scattered_at c.args.i c.self.invariant inside (c.index-from.ensures ∙ get_or_default c.self.inside.starts.items c.args.i _ 0 (omega arith)) (c.index-to.ensures ∙ get_or_default c.self.inside.starts.items (c.args.i + 1) _ 0 inside) c.deref.ensures.value c.deref-2.ensures.value)).1

pub index-from-requires : goal.index-from-requires
index-from-requires c = omega (arith, c.self.inside.starts.ok.0, c.requires, ap (λ m. m.matrix.height) c.self.view_is)

pub index-to-requires : goal.index-to-requires
index-to-requires c = omega (arith, c.self.inside.starts.ok.0, c.requires, ap (λ m. m.matrix.height) c.self.view_is)

pub slice_bounds-result-count : goal.slice_bounds-result-count
slice_bounds-result-count c =
    let starts = c.self.inside.starts in
    let inside : c.args.i + 1 < length starts.items = omega (arith, c.requires, ap (λ m. m.matrix.height) c.self.view_is) in
    omega (
      arith,
      c.index-from.ensures ∙ get_or_default starts.items c.args.i _ 0 (omega arith),
      c.index-to.ensures ∙ get_or_default starts.items (c.args.i + 1) _ 0 inside,
      c.self.invariant.rising c.args.i inside,
    )

pub slice_bounds-result-count-2 : goal.slice_bounds-result-count-2
slice_bounds-result-count-2 c =
    let starts = c.self.inside.starts in
    let inside : c.args.i + 1 < length starts.items = omega (arith, c.requires, ap (λ m. m.matrix.height) c.self.view_is) in
    omega (
      arith,
      c.index-from.ensures ∙ get_or_default starts.items c.args.i _ 0 (omega arith),
      c.index-to.ensures ∙ get_or_default starts.items (c.args.i + 1) _ 0 inside,
      c.self.invariant.rising c.args.i inside,
    )
