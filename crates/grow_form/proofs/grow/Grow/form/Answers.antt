use Rattle.std.proofs.Common.{ℕ, List, ◌≡◌, ap₂, refl, subst}
use Rattle.residue_words.specs.Matrix.{Matrix}
use Rattle.sparse_rows.specs.Rows.{ResidueMatrix}
use Rattle.echelon_form.specs.Form.{IsFormOf}
use Rattle.grow_form.specs.Growing.{AreRowsOfForm}
use Rattle.grow_form.specs.Numbering.{seen_matrix}
use Rattle.grow_form.proofs.ByColumns.{settled_seen}
use Rattle.grow_form.proofs.Growing.{form_of_same}
use Rattle.grow_form.proofs.grow.Grow.form.Goals as goal

pub returns : goal.returns
returns c =
    let (order, o, s) = c.in_ok-settled.ensures.settled in
    let leads : List ℕ = c.in_ok-made_by.field-0.leads in
    let form : IsFormOf c.in_ok-rows.rows.modulus (seen_matrix c.self.inside.numbering c.in_ok-settled.settled.matrix) c.in_ok-made_by.field-0 =
    subst (λ A. IsFormOf c.in_ok-rows.rows.modulus A c.in_ok-made_by.field-0) c.in_ok-rows.ensures.matrix c.in_ok-made_by.ensures in
    let made : record { modulus = c.into_rows.result.modulus; matrix = c.into_rows.result.matrix; leads = c.in_ok-made_by.field-0.leads } ≡ c.in_ok-made_by.field-0 =
    ap₂ (λ (p : ℕ) (A : Matrix). record { modulus = p; matrix = A; leads = c.in_ok-made_by.field-0.leads }) c.into_rows.ensures.modulus c.into_rows.ensures.matrix in
    subst (λ (g : ResidueMatrix). AreRowsOfForm g c.into_rows.result) c.self.view_is (
      leads,
      form_of_same c.in_ok-rows.ensures.modulus refl (settled_seen c.in_ok-settled.ensures.sound c.is_sound.ensures c.self.invariant.0 o s) form made,
    )
