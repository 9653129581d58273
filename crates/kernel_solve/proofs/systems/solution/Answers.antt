use Rattle.std.proofs.Common.{ℕ, ◌≡◌, ◌+◌, ◌-◌, ◌<◌, ◌∙◌, ◌↔◌, Bool, List, ap, arith, length, slice_index, subst, sym, true, false}
use Rattle.std.specs.Prelude.{IsTrue}
use Rattle.residue_words.specs.Matrix.{Matrix, IsMatrix}
use Rattle.echelon_form.specs.Form.{Form, IsEchelon}
use Rattle.residue_words.proofs.Vectors.{length_list_of}
use Rattle.kernel_solve.specs.Column.{column, column_at}
use Rattle.kernel_solve.specs.ReadOff.{IsAtLeads}
use Rattle.kernel_solve.proofs.Free.{below_last}
use Rattle.kernel_solve.proofs.Read.{column_solves, lead_refutes}
use Rattle.kernel_solve.proofs.systems.solution.Goals as goal

pub returns-then-ends_at-clause-answers : goal.returns-then-ends_at-clause-answers
returns-then-ends_at-clause-answers c = λ p A B prime ma mb heights narrow form x.
    let E : Matrix = c.args.form.now.matrix in
    let leads : List ℕ = c.args.form.now.leads in
    let at_end = c.ends_at.ensures.0 c.if-ends_at.true in
    let some : 0 < length leads = omega (arith, at_end.0, ap length c.leads-leads.ensures.value) in
    let last : slice_index leads (length leads - 1) ≡ A.width = omega (
      arith,
      at_end.1,
      ap (λ ls. slice_index ls (length ls - 1)) c.leads-leads.ensures.value,
      c.width-last.ensures.value,
      ap (λ m. m.width) c.rows.ensures.matrix,
      form.width,
    ) in
    lead_refutes p A B E leads prime.two_or_more ma mb heights narrow (form.rref prime) form.leads some last x

-- where the last lead is not the last column, all leads are before it
leads_below : (form : Form) → IsEchelon form → (last : ℕ) → form.matrix.width ≡ last + 1 → (told : List ℕ) → told ≡ form.leads → (b : Bool) →
    (IsTrue b ↔ ((0 < length told) × (slice_index told (length told - 1) ≡ last))) → b ≡ false → (k : ℕ) → k < length form.leads → slice_index form.leads k < last
leads_below form sound last width told same b test never =
    below_last last form.matrix.width form.leads width (λ k l. sound.leads.1.inside k (omega (arith, sound.rank))) (λ s t a b. sound.leads.1.rising s t a (omega (arith, sound.rank)))
    (λ h. let ends : b ≡ true = test.1 (omega (arith, h.0, ap length same), ap (λ ls. slice_index ls (length ls - 1)) same ∙ h.1) in cc)

-- the side is as long as there are leads
side_long : (E : Matrix) (form : Form) (leads side : List ℕ) (last : ℕ) → IsEchelon form → E ≡ form.matrix → leads ≡ form.leads → side ≡ column_at E last → length side ≡ length leads
side_long E form leads side last sound e told is =
    ap length is ∙ length_list_of E.height _ ∙ ap (λ (m : Matrix). m.height) e ∙ sym (ap length told ∙ sound.rank)

pub at_leads-requires-clause-few : goal.at_leads-requires-clause-few
at_leads-requires-clause-few c = omega (
  arith,
  side_long c.rows-2.result.now.matrix c.args.form.now c.leads-leads.result.now c.in_ok-side.side.row (c.width-last.result - 1) c.leads-leads.ensures.sound c.rows-2.ensures.matrix
      c.leads-leads.ensures.value c.in_ok-side.ensures.row,
)

pub at_leads-requires-clause-behind : goal.at_leads-requires-clause-behind
at_leads-requires-clause-behind c = λ t a b. absurd (omega (
  arith,
  a,
  b,
  side_long c.rows-2.result.now.matrix c.args.form.now c.leads-leads.result.now c.in_ok-side.side.row (c.width-last.result - 1) c.leads-leads.ensures.sound c.rows-2.ensures.matrix
      c.leads-leads.ensures.value c.in_ok-side.ensures.row,
))

pub at_leads-requires-clause-inside : goal.at_leads-requires-clause-inside
at_leads-requires-clause-inside c = rw c.leads-leads.ensures.value (leads_below c.args.form.now c.leads-leads.ensures.sound (c.width-last.result - 1)
    (omega (arith, c.width-last.ensures.value, ap (λ m. m.width) c.rows.ensures.matrix, c.requires)) c.leads-leads.result.now c.leads-leads.ensures.value c.ends_at.result c.ends_at.ensures c.if-ends_at.false)

pub at_leads-requires-clause-rising : goal.at_leads-requires-clause-rising
at_leads-requires-clause-rising c = λ k t a b. omega (
  arith,
  (c.leads-leads.ensures.sound.leads.1.rising) k t a (omega (arith, ap length c.leads-leads.ensures.value)),
  ap (λ ls. slice_index ls k) c.leads-leads.ensures.value,
  ap (λ ls. slice_index ls t) c.leads-leads.ensures.value,
)

pub returns-clause-shape : goal.returns-clause-shape
returns-clause-shape c =
    let modulus : c.in_ok-side.side.modulus ≡ c.args.form.now.modulus = c.in_ok-side.ensures.modulus ∙ c.rows-2.ensures.modulus in (
      c.in_ok-x.ensures.modulus ∙ modulus,
      subst (λ q. IsMatrix q c.in_ok-x.x.matrix) (c.in_ok-x.ensures.modulus ∙ modulus) c.in_ok-x.ensures.sound,
      omega (arith, c.in_ok-x.ensures.height, c.width-last.ensures.value, ap (λ m. m.width) c.rows.ensures.matrix, c.requires),
      c.in_ok-x.ensures.width,
    )

pub returns-clause-answers : goal.returns-clause-answers
returns-clause-answers c = λ p A B prime ma mb heights narrow form.
    let E : Matrix = c.args.form.now.matrix in
    let leads : List ℕ = c.args.form.now.leads in
    let last : ℕ = c.width-last.result - 1 in
    let width : c.width-last.result ≡ E.width = c.width-last.ensures.value ∙ ap (λ m. m.width) c.rows.ensures.matrix in
    let same : last ≡ A.width = omega (arith, width, form.width, narrow) in
    let modulus : c.in_ok-x.x.modulus ≡ p = c.in_ok-x.ensures.modulus ∙ c.in_ok-side.ensures.modulus ∙ c.rows-2.ensures.modulus ∙ form.modulus in
    let side : c.in_ok-side.side.row ≡ column_at E last = c.in_ok-side.ensures.row ∙ ap (λ m. column_at m last) c.rows-2.ensures.matrix in
    let at : IsAtLeads leads (column_at E last) (column c.in_ok-x.x.matrix) =
    subst (λ u. IsAtLeads leads u (column c.in_ok-x.x.matrix)) side (subst (λ ls. IsAtLeads ls c.in_ok-side.side.row (column c.in_ok-x.x.matrix)) c.leads-leads.ensures.value c.in_ok-x.ensures.entries) in (
      c.in_ok-x.ensures.height ∙ same,
      column_solves p A B E leads prime.two_or_more ma mb heights narrow (form.rref prime) form.leads c.in_ok-x.x.matrix last
          (subst (λ q. IsMatrix q c.in_ok-x.x.matrix) modulus c.in_ok-x.ensures.sound) c.in_ok-x.ensures.height c.in_ok-x.ensures.width same at
          (leads_below c.args.form.now c.leads-leads.ensures.sound last (omega (arith, width, c.requires)) c.leads-leads.result.now c.leads-leads.ensures.value c.ends_at.result c.ends_at.ensures c.if-ends_at.false),
    )
