use Rattle.std.proofs.Common.{ap, arith, length, slice_index, ◌+◌, ◌*◌, ◌%◌, ◌∙◌}
use Rattle.residue_words.specs.Matrix.{list_of}
use Rattle.residue_words.proofs.Vectors.{length_list_of}
use Rattle.dense_rows.proofs.TakingOut.{taken_out}
use Rattle.dense_rows.proofs.dense.Dense.take_out.Goals as goal

pub set-requires-clause-inside : goal.set-requires-clause-inside
set-requires-clause-inside g c κs within = omega (arith, ap length c.add_multiple.ensures, length_list_of (length c.args.self.now) (λ j. (slice_index c.args.self.now j + c.neg.result * slice_index c.args.pivot.now j) % c.args.p.now), c.requires.inside)

pub returns-then-a-ne0 : goal.returns-then-a-ne0
returns-then-a-ne0 g c =
    let v = c.args.self.now in
    taken_out c.get-a.result c.requires.inside c.requires.residues c.get-a.ensures
    (c.add_multiple.ensures ∙ ap (λ b. list_of (length v) (λ j. (slice_index v j + b * slice_index c.args.pivot.now j) % c.args.p.now)) c.neg.ensures.value) c.set.ensures
