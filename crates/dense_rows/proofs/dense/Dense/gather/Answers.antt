use Rattle.std.proofs.Common.{ℕ, ◌≡◌, ◌<◌, ◌+◌, ◌∙◌, ap, arith, length, refl, slice_index, subst, sym}
use Rattle.dense_rows.specs.Dense.{IsPut}
use Rattle.dense_rows.proofs.Putting.{put_behind, put_more, put_none, put_over}
use Rattle.dense_rows.proofs.dense.Dense.gather.Goals as goal
use Rattle.dense_rows.proofs.dense.Dense.gather.Goals.{then-v-gt0+in_ok-push, else-v-gt0}

pub loop-k-init : goal.loop-k-init
loop-k-init g c = record { modulus = refl; put = put_none (λ k. k) (λ k. slice_index c.args.self.now (slice_index c.args.columns.now k)) c.requires.zero }

pub push-requires-clause-column : goal.push-requires-clause-column
push-requires-clause-column g c = omega (arith, c.loop-k.invariant.put.long, c.requires.long)

pub push-requires-clause-behind : goal.push-requires-clause-behind
push-requires-clause-behind g c = put_behind (λ k. k) (λ k. slice_index c.args.self.now (slice_index c.args.columns.now k)) (λ t l. l) c.loop-k.invariant.put

pub push-requires-clause-residue : goal.push-requires-clause-residue
push-requires-clause-residue g c =
    let k = c.loop-k.k in
    omega (arith, c.get-v.ensures, c.requires.residues.residues (slice_index c.args.columns.now k) (c.requires.inside k (omega arith)), c.loop-k.invariant.modulus)

pub returns-in_err-push-clause-modulus : goal.returns-in_err-push-clause-modulus
returns-in_err-push-clause-modulus g c = c.push.ensures.modulus ∙ c.loop-k.invariant.modulus

pub loop-k-preserved : goal.loop-k-preserved
loop-k-preserved g c =
    let k = c.loop-k.k in
    let value : ℕ → ℕ = λ k. slice_index c.args.self.now (slice_index c.args.columns.now k) in
    let inside : k < length c.args.to.now.row = omega (arith, c.requires.long) in
    elim c.if-v-gt0.branch [
      | then-v-gt0+in_ok-push w ↦ record {
        modulus = ap (λ t. t.modulus) w.to-is ∙ w.push.ensures.modulus ∙ c.loop-k.invariant.modulus;
        put = subst (IsPut (length c.args.to.now.row) (k + 1) (λ k. k) value) (sym (ap (λ t. t.row) w.to-is ∙ w.in_ok-push.ensures.ok))
            (put_more (λ k. k) value c.get-v.result inside (λ t l. l) c.get-v.ensures c.loop-k.invariant.put);
      }
      | else-v-gt0 w ↦ record {
        modulus = ap (λ t. t.modulus) w.to-is ∙ c.loop-k.invariant.modulus;
        put = subst (IsPut (length c.args.to.now.row) (k + 1) (λ k. k) value) (sym (ap (λ t. t.row) w.to-is))
            (put_over (λ k. k) value inside (λ t l. l) (omega (arith, c.get-v.ensures, w.if-v-gt0.false)) c.loop-k.invariant.put);
      }
    ]

pub returns-clause-modulus : goal.returns-clause-modulus
returns-clause-modulus g c = c.loop-k.invariant.modulus

pub returns-clause-row : goal.returns-clause-row
returns-clause-row g c =
    let all : c.loop-k.k ≡ length c.args.columns.now = omega arith in
    subst (λ m. IsPut (length c.args.to.now.row) m (λ k. k) (λ k. slice_index c.args.self.now (slice_index c.args.columns.now k)) c.loop-k.to.row) all c.loop-k.invariant.put
