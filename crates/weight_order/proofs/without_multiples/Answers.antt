use Rattle.std.proofs.Common.{arith, subst, sym}
use Rattle.sparse_rows.specs.Rows.{AreFilled}
use Rattle.sparse_rows.proofs.Rising.{rising_short}
use Rattle.weight_order.specs.Multiples.{AreRepresentatives}
use Rattle.weight_order.proofs.Dropping.{kept_below, kept_inside, kept_spanning, spanning_itself}
use Rattle.weight_order.proofs.without_multiples.Goals as goal

pub returns-then-len : goal.returns-then-len
returns-then-len c = spanning_itself c.is_sound.ensures.entries

pub select-requires-clause-many : goal.select-requires-clause-many
select-requires-clause-many c =
    let A = c.args.rows.matrix in
    let filled : AreFilled A c.deref.result.now = subst (AreFilled A) (sym c.deref.ensures.value) c.in_ok-filled.ensures in
    let kept : AreRepresentatives c.args.rows c.deref.result.now c.deref-2.result.now = subst (AreRepresentatives c.args.rows c.deref.result.now) (sym c.deref-2.ensures.value) c.in_ok-kept.ensures in
    omega (arith, rising_short c.deref-2.result.now A.height kept.rising (kept_below filled.below kept), c.is_sound.ensures.height)

pub select-requires-clause-inside : goal.select-requires-clause-inside
select-requires-clause-inside c =
    let A = c.args.rows.matrix in
    let filled : AreFilled A c.deref.result.now = subst (AreFilled A) (sym c.deref.ensures.value) c.in_ok-filled.ensures in
    let kept : AreRepresentatives c.args.rows c.deref.result.now c.deref-2.result.now = subst (AreRepresentatives c.args.rows c.deref.result.now) (sym c.deref-2.ensures.value) c.in_ok-kept.ensures in
    kept_inside filled.below kept

pub returns : goal.returns
returns c =
    let A = c.args.rows.matrix in
    let filled : AreFilled A c.deref.result.now = subst (AreFilled A) (sym c.deref.ensures.value) c.in_ok-filled.ensures in
    let kept : AreRepresentatives c.args.rows c.deref.result.now c.deref-2.result.now = subst (AreRepresentatives c.args.rows c.deref.result.now) (sym c.deref-2.ensures.value) c.in_ok-kept.ensures in
    kept_spanning c.is_sound.ensures.entries filled kept c.in_ok-distinct_rows.ensures.modulus c.in_ok-distinct_rows.ensures.matrix
