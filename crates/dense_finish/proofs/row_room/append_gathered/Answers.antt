use Rattle.std.proofs.Common.{◌∙◌, ap, arith, length, subst, sym}
use Rattle.std.proofs.lemmas.Result.{on_ok_weaker}
use Rattle.residue_words.specs.Matrix.{zeros}
use Rattle.sparse_rows.proofs.Loops.{length_zeros}
use Rattle.dense_rows.specs.Dense.{Gathers}
use Rattle.dense_finish.proofs.row_room.append_gathered.Goals as goal

pub gather-requires-clause-long : goal.gather-requires-clause-long
gather-requires-clause-long g c κs within = omega (arith, ap length c.clear.ensures.row, length_zeros (length c.args.sparse.now.row), c.requires.long, c.requires.narrow)

pub gather-requires-clause-residues : goal.gather-requires-clause-residues
gather-requires-clause-residues g c κs within = rw (c.clear.ensures.modulus, c.requires.modulus) c.requires.residues

pub gather-requires-clause-zero : goal.gather-requires-clause-zero
gather-requires-clause-zero g c κs within = c.clear.ensures.row ∙ ap zeros (sym (ap length c.clear.ensures.row ∙ length_zeros _))

pub append-requires-clause-modulus : goal.append-requires-clause-modulus
append-requires-clause-modulus g c = c.gather.ensures.modulus ∙ c.clear.ensures.modulus ∙ c.requires.modulus

pub append-requires-clause-width : goal.append-requires-clause-width
append-requires-clause-width g c = c.in_ok-gather.ensures.row.long ∙ ap length c.clear.ensures.row ∙ length_zeros _ ∙ c.requires.long

pub returns-clause-modulus : goal.returns-clause-modulus
returns-clause-modulus g c = on_ok_weaker c.append.result (λ matrix. c.gather.ensures.modulus ∙ c.clear.ensures.modulus ∙ c.requires.modulus) c.append.ensures.matrix

pub returns-clause-long : goal.returns-clause-long
returns-clause-long g c =
    on_ok_weaker c.append.result (λ matrix. c.in_ok-gather.ensures.row.long ∙ ap length c.clear.ensures.row ∙ length_zeros _ ∙ c.requires.long) c.append.ensures.matrix

pub returns-clause-row : goal.returns-clause-row
returns-clause-row g c =
    on_ok_weaker c.append.result (λ matrix. record {
      modulus = c.append.ensures.modulus;
      row = c.gather.new.to.row;
      put = subst (λ n. Gathers n c.args.columns.now c.args.row.now c.gather.new.to.row) (ap length c.clear.ensures.row ∙ length_zeros _ ∙ c.requires.long) c.in_ok-gather.ensures.row;
      matrix = matrix;
    }) c.append.ensures.matrix
