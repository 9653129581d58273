use Rattle.std.proofs.Common.{◌≡◌, ◌↔◌, ◌∙◌, false, true, length, subst, sym}
use Rattle.std.proofs.lemmas.Bool.{false≢true}
use Rattle.std.proofs.lemmas.Result.{IfOk-weaker}
use Rattle.residue_words.specs.Matrix.{IsCombination}
use Rattle.sparse_rows.specs.Rows.{ResidueMatrix}
use Rattle.sparse_rows.specs.Stored.{IsSparse, spread}
use Rattle.grow_form.proofs.Numbers.{combination_come}
use Rattle.grow_form.proofs.grow.Grow.contains.Goals as goal

pub have_come-requires : goal.have_come-requires
have_come-requires c =
    let sparse : IsSparse c.self.inside.kept.modulus (length c.self.inside.numbering.arrivals) c.args.cols.now c.args.vals.now =
    subst (λ (g : ResidueMatrix). IsSparse g.modulus g.matrix.width c.args.cols.now c.args.vals.now) (sym c.self.view_is) c.requires in
    sparse.below

pub is_combination-found-requires-clause-sparse : goal.is_combination-found-requires-clause-sparse
is_combination-found-requires-clause-sparse c = subst (λ (g : ResidueMatrix). IsSparse g.modulus g.matrix.width c.args.cols.now c.args.vals.now) (sym c.self.view_is) c.requires

pub returns-then-not-have_come-clause-found : goal.returns-then-not-have_come-clause-found
returns-then-not-have_come-clause-found c =
    let sparse : IsSparse c.self.inside.kept.modulus (length c.self.inside.numbering.arrivals) c.args.cols.now c.args.vals.now =
    subst (λ (g : ResidueMatrix). IsSparse g.modulus g.matrix.width c.args.cols.now c.args.vals.now) (sym c.self.view_is) c.requires in
    subst (λ (g : ResidueMatrix). (false ≡ true) ↔ IsCombination g.modulus g.matrix (spread g.matrix.width c.args.cols.now c.args.vals.now)) c.self.view_is (
      λ e. absurd (false≢true e),
      λ v. absurd (false≢true (sym c.if-not-have_come.true ∙ c.have_come.ensures.1 (combination_come c.is_sound.ensures.rows c.self.invariant.0 sparse v))),
    )

pub returns-clause-found : goal.returns-clause-found
returns-clause-found c = IfOk-weaker c.is_combination-found.result _ _
    (λ yes told. subst (λ (g : ResidueMatrix). (yes ≡ true) ↔ IsCombination g.modulus g.matrix (spread g.matrix.width c.args.cols.now c.args.vals.now)) c.self.view_is told)
    c.is_combination-found.ensures.found
