use Rattle.std.proofs.Common.{ℕ, ◌≡◌, ◌<◌, ◌+◌, ◌∙◌, ap, arith, length, refl, slice_index, subst, sym}
use Rattle.dense_rows.specs.Dense.{IsPut}
use Rattle.dense_rows.proofs.Putting.{put_behind, put_more, put_over, put_zeros}
use Rattle.dense_rows.proofs.dense.Dense.scatter.Goals as goal
use Rattle.dense_rows.proofs.dense.Dense.scatter.Goals.{then-v-gt0+in_ok-push, else-v-gt0}

pub loop-j-init : goal.loop-j-init
loop-j-init g c = record {
  modulus = refl;
  put = put_zeros (length c.args.to.now.row) c.args.from (slice_index c.args.columns.now) (slice_index c.args.self.now) c.requires.zero
      (λ k l. c.requires.inside k (omega (arith, c.requires.start))) c.requires.before;
}

pub push-requires-clause-column : goal.push-requires-clause-column
push-requires-clause-column g c = omega (arith, c.loop-j.invariant.put.long, c.requires.inside c.loop-j.j c.loop-j-test.true)

pub push-requires-clause-behind : goal.push-requires-clause-behind
push-requires-clause-behind g c =
    put_behind (slice_index c.args.columns.now) (slice_index c.args.self.now) (λ t l. c.requires.rising t c.loop-j.j l c.loop-j-test.true) c.loop-j.invariant.put

pub push-requires-clause-residue : goal.push-requires-clause-residue
push-requires-clause-residue g c = omega (arith, c.get-v.ensures, c.requires.residues.residues c.loop-j.j c.loop-j-test.true, c.loop-j.invariant.modulus)

pub returns-in_err-push-clause-modulus : goal.returns-in_err-push-clause-modulus
returns-in_err-push-clause-modulus g c = c.push.ensures.modulus ∙ c.loop-j.invariant.modulus

pub loop-j-preserved : goal.loop-j-preserved
loop-j-preserved g c =
    let j = c.loop-j.j in
    let name : ℕ → ℕ = slice_index c.args.columns.now in
    let value : ℕ → ℕ = slice_index c.args.self.now in
    let rising : (t : ℕ) → t < j → name t < name j = λ t l. c.requires.rising t j l c.loop-j-test.true in
    elim c.if-v-gt0.branch [
      | then-v-gt0+in_ok-push w ↦ record {
        modulus = ap (λ t. t.modulus) w.to-is ∙ w.push.ensures.modulus ∙ c.loop-j.invariant.modulus;
        put = subst (IsPut (length c.args.to.now.row) (j + 1) name value) (sym (ap (λ t. t.row) w.to-is ∙ w.in_ok-push.ensures.ok))
            (put_more name value c.get-v.result (c.requires.inside j c.loop-j-test.true) rising c.get-v.ensures c.loop-j.invariant.put);
      }
      | else-v-gt0 w ↦ record {
        modulus = ap (λ t. t.modulus) w.to-is ∙ c.loop-j.invariant.modulus;
        put = subst (IsPut (length c.args.to.now.row) (j + 1) name value) (sym (ap (λ t. t.row) w.to-is))
            (put_over name value (c.requires.inside j c.loop-j-test.true) rising (omega (arith, c.get-v.ensures, w.if-v-gt0.false)) c.loop-j.invariant.put);
      }
    ]

pub returns-clause-modulus : goal.returns-clause-modulus
returns-clause-modulus g c = c.loop-j.invariant.modulus

pub returns-clause-row : goal.returns-clause-row
returns-clause-row g c =
    let all : c.loop-j.j ≡ length c.args.columns.now = omega arith in
    subst (λ m. IsPut (length c.args.to.now.row) m (slice_index c.args.columns.now) (slice_index c.args.self.now) c.loop-j.to.row) all c.loop-j.invariant.put
