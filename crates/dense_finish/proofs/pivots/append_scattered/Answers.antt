use Rattle.std.proofs.Common.{◌∙◌, ap, arith, length, subst, sym}
use Rattle.std.proofs.lemmas.Result.{on_ok_weaker}
use Rattle.residue_words.specs.Matrix.{zeros}
use Rattle.sparse_rows.proofs.Loops.{length_zeros}
use Rattle.dense_rows.specs.Dense.{Scatters}
use Rattle.dense_finish.proofs.pivots.append_scattered.Goals as goal

pub scatter-requires-clause-zero : goal.scatter-requires-clause-zero
scatter-requires-clause-zero g c κs within = c.in_ok-entries.ensures.row ∙ ap zeros (sym (ap length c.in_ok-entries.ensures.row ∙ length_zeros c.width.result))

pub scatter-requires-clause-inside : goal.scatter-requires-clause-inside
scatter-requires-clause-inside g c κs within = λ j l.
    omega (arith, c.requires.inside j l, ap length c.in_ok-entries.ensures.row, length_zeros c.width.result, c.width.ensures.value)

pub append-requires-clause-modulus : goal.append-requires-clause-modulus
append-requires-clause-modulus g c = c.scatter.ensures.modulus ∙ c.in_ok-entries.ensures.modulus ∙ sym c.requires.modulus

pub append-requires-clause-width : goal.append-requires-clause-width
append-requires-clause-width g c =
    c.in_ok-scatter.ensures.row.long ∙ ap length c.in_ok-entries.ensures.row ∙ length_zeros c.width.result ∙ c.width.ensures.value

pub returns : goal.returns
returns g c =
    on_ok_weaker c.append.result (λ matrix. record {
      modulus = c.append.ensures.modulus;
      row = c.scatter.new.to.row;
      put = subst (λ n. Scatters n c.args.columns.now c.args.row.now c.scatter.new.to.row)
          (ap length c.in_ok-entries.ensures.row ∙ length_zeros c.width.result ∙ c.width.ensures.value) c.in_ok-scatter.ensures.row;
      matrix = matrix;
    }) c.append.ensures.matrix
