use Rattle.std.proofs.Common.{◌≡◌, ◌++◌, ◌∷◌, ◌∙◌, [], ap, arith}
use Rattle.sparse_rows.specs.Rows.{Building}
use Rattle.sparse_rows.proofs.Building.{pushed_more}
use Rattle.sparse_rows.proofs.builder.RowsBuilder.push.Goals as goal

pub invariant_of-self-2 : goal.invariant_of-self-2
invariant_of-self-2 c =
    let b = c.self.inside in
    let new : c.push-2.new.self.items ≡ b.cells.items ++ c.new.result ∷ [] = c.in_ok-push.ensures.items ∙ ap (λ cells. cells ++ c.new.result ∷ []) c.make_room.ensures.items in
    rw new (pushed_more b.modulus b.height b.width b.ordered b.cells.items c.new.result c.self.invariant (record {
      row = omega (arith, c.new.ensures.place, c.ranges.j.fits, c.requires.row, ap (λ (b : Building). b.height) c.self.view_is);
      column = omega (arith, c.new.ensures.place, c.ranges.j.fits, c.requires.column, ap (λ (b : Building). b.width) c.self.view_is);
    }) (omega (arith, c.new.ensures.val, c.requires.residue, ap (λ (b : Building). b.modulus) c.self.view_is)))

pub push-requires-clause-row : goal.push-requires-clause-row
push-requires-clause-row c = omega (arith, c.requires.row, ap (λ (b : Building). b.height) c.self.view_is, c.self.invariant.height_small)

pub push-requires-clause-behind : goal.push-requires-clause-behind
push-requires-clause-behind c = c.takes.ensures c.if-takes.true
