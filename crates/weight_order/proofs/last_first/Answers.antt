use Rattle.std.proofs.Common.{subst, sym, arith}
use Rattle.weight_order.specs.Keeping.{AreFilledInSomeOrder}
use Rattle.weight_order.proofs.Keeping.{each_filled, no_more}
use Rattle.weight_order.proofs.last_first.Goals as goal

pub select-requires-clause-many : goal.select-requires-clause-many
select-requires-clause-many c =
    let order : AreFilledInSomeOrder c.args.rows.now.matrix c.deref.result.now =
    subst (AreFilledInSomeOrder c.args.rows.now.matrix) (sym c.deref.ensures.value) (c.in_ok-order.order.items, c.in_ok-order.ensures, c.reverse.ensures.permutation) in
    omega (arith, no_more order, c.is_sound.ensures.height)

pub select-requires-clause-inside : goal.select-requires-clause-inside
select-requires-clause-inside c =
    let order : AreFilledInSomeOrder c.args.rows.now.matrix c.deref.result.now =
    subst (AreFilledInSomeOrder c.args.rows.now.matrix) (sym c.deref.ensures.value) (c.in_ok-order.order.items, c.in_ok-order.ensures, c.reverse.ensures.permutation) in
    (each_filled order).inside

pub returns : goal.returns
returns c =
    let order : AreFilledInSomeOrder c.args.rows.now.matrix c.deref.result.now =
    subst (AreFilledInSomeOrder c.args.rows.now.matrix) (sym c.deref.ensures.value) (c.in_ok-order.order.items, c.in_ok-order.ensures, c.reverse.ensures.permutation) in
    record {
      sound = c.is_sound.ensures.entries;
      modulus = c.in_ok-turned.ensures.modulus;
      numbers = c.deref.result.now;
      filled = each_filled order;
      few = no_more order;
      matrix = c.in_ok-turned.ensures.matrix;
    }
