use Rattle.std.proofs.Common.{refl}
use Rattle.dense_finish.proofs.pivots.Pivots.push.Goals as goal

pub returns : goal.returns
returns g c =
    let added = c.in_ok-append_row.ensures in
    record {
      rows = c.in_ok-push.ensures.items;
      columns = c.in_ok-push-2.ensures.items;
      taken = refl;
      modulus = added.modulus;
      row = added.row;
      put = added.put;
      matrix = added.matrix;
    }
