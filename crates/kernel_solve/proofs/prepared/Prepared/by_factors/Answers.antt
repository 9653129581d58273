use Rattle.std.proofs.Common.{◌<◌, ℕ, List, length, sym, refl, ap, subst, ◌∙◌}
use Rattle.residue_words.specs.declared.plain.Pair.{Pair}
use Rattle.row_space.specs.Factors.{row_at}
use Rattle.sparse_rows.specs.Rows.{ResidueMatrix}
use Rattle.kernel_solve.specs.Substituted.{InvertEach, left_pivot, right_pivot}
use Rattle.kernel_solve.proofs.prepared.Prepared.by_factors.Goals as goal

pub inverses-requires-clause-width : goal.inverses-requires-clause-width
inverses-requires-clause-width c = c.requires.left_width ∙ ap length (sym c.items.ensures)

pub inverses-requires-clause-height : goal.inverses-requires-clause-height
inverses-requires-clause-height c = c.requires.right_height ∙ ap length (sym c.items.ensures)

pub inverses-requires-clause-pivots : goal.inverses-requires-clause-pivots
inverses-requires-clause-pivots c = subst (λ (ps : List Pair). (k : ℕ) → k < length ps → row_at ps k < c.args.factors.l.matrix.height) (sym c.items.ensures) c.requires.rows_below

pub invariant_of-result : goal.invariant_of-result
invariant_of-result c =
    let L : ResidueMatrix = c.args.factors.l in
    let U : ResidueMatrix = c.args.factors.u in
    let both = c.in_ok-left_inverses in (
      c.requires,
      subst (λ (ps : List Pair). InvertEach L.modulus (length ps) (left_pivot L.matrix ps) both.left_inverses.items) c.items.ensures both.ensures.left,
      subst (λ n. InvertEach n (length c.args.factors.pivots) (right_pivot U.matrix c.args.factors.pivots) both.right_inverses.items) c.requires.right_modulus
          (subst (λ (ps : List Pair). InvertEach U.modulus (length ps) (right_pivot U.matrix ps) both.right_inverses.items) c.items.ensures both.ensures.right),
    )

pub returns : goal.returns
returns c = refl
