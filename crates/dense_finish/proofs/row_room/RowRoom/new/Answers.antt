use Rattle.std.proofs.Common.{◌∙◌, ap, length, sym}
use Rattle.sparse_rows.proofs.Loops.{length_zeros}
use Rattle.dense_finish.proofs.row_room.RowRoom.new.Goals as goal

pub returns : goal.returns
returns c = record {
  places = c.in_ok-numbers_below.ensures;
  values = sym c.resize.new.self.ok.0 ∙ c.in_ok-resize.ensures.len;
  modulus = c.new.ensures.modulus;
  long = ap length c.new.ensures.row ∙ length_zeros c.args.width;
}
