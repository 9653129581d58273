use Rattle.std.proofs.Common.{◌+◌, ◌*◌, ◌%◌, ◌∙◌, get_or, length}
use Rattle.residue_words.specs.Matrix.{list_of}
use Rattle.dense_rows.proofs.Adding.{added_rest}
use Rattle.dense_rows.proofs.lane_addition.add_multiple_32.Goals as goal

pub returns : goal.returns
returns c =
    let x = c.args.out.now in
    let y = c.args.y.now in
    added_rest c.of-by.result.p c.of-by.result.factor x y c.add_vectors_32-done.new.out c.add_singly_32.new.out c.add_vectors_32-done.result
    c.add_vectors_32-done.ensures.within c.requires.lengths c.add_vectors_32-done.ensures.added c.add_singly_32.ensures
    ∙ (λ i. list_of (length x) (λ k. (get_or x k 0 + c.of-by.ensures.factor i * get_or y k 0) % c.of-by.ensures.modulus i))
