use Rattle.std.proofs.Common.{◌≡◌, ◌<◌, ◌+◌, ◌∙◌, arith, length, slice_index, subst, sym, take}
use Rattle.std.proofs.lemmas.List.{get_or_default, take_all}
use Rattle.dense_finish.specs.Pivots.{ArePivotPlaces}
use Rattle.dense_finish.proofs.Gathering.{places_more, places_none}
use Rattle.dense_finish.proofs.pivots.Pivots.places.Goals as goal

pub loop-k-init : goal.loop-k-init
loop-k-init c = places_none c.args.self.now.rows.items c.args.self.now.columns.items c.args.rows.now c.args.columns.now c.new-places.ensures

pub loop-k-preserved : goal.loop-k-preserved
loop-k-preserved c =
    let own = c.args.self.now in
    let k = c.loop-k.k in
    let inside : k < length own.rows.items = omega arith in
    let row : c.index.result.now ≡ slice_index own.rows.items k = c.index.ensures ∙ get_or_default own.rows.items k _ 0 inside in
    let column : c.index-in-loop-k.result.now ≡ slice_index own.columns.items k = c.index-in-loop-k.ensures ∙ get_or_default own.columns.items k _ 0 (omega (arith, c.requires.long)) in
    subst (ArePivotPlaces (take (k + 1) own.rows.items) own.columns.items c.args.rows.now c.args.columns.now) (sym c.in_ok-push.ensures.ok)
    (rw (row, column) (places_more own.rows.items own.columns.items c.args.rows.now c.args.columns.now k inside c.loop-k.invariant))

pub returns : goal.returns
returns c =
    let own = c.args.self.now in
    subst (λ rows. ArePivotPlaces rows own.columns.items c.args.rows.now c.args.columns.now c.loop-k.places) (take_all c.loop-k.k own.rows.items (omega arith)) c.loop-k.invariant
