use Rattle.std.proofs.Common.{ℕ, ◌≡◌, ◌∙◌, arith, below_more, length-set, set, slice_index}
use Rattle.std.proofs.lemmas.List.{get_or-set_other, get_or-set_same}
use Rattle.std.proofs.lemmas.Simd.{length-replicate}
use Rattle.dense_rows.proofs.ProductSums.{zero_at}
use Rattle.dense_rows.proofs.dense.Dense.entries_at.Goals as goal

pub loop-k-init : goal.loop-k-init
loop-k-init g c = record { long = length-replicate {A = ℕ} 64 0; entries = λ t l. absurd (omega arith); rest = λ t l. zero_at 64 t }

pub loop-k-preserved : goal.loop-k-preserved
loop-k-preserved g c =
    let to = c.loop-k.entries in
    let k = c.loop-k.k in
    let v = c.get.result in
    record {
      long = length-set to k v ∙ c.loop-k.invariant.long;
      entries = below_more (λ t. slice_index (set to k v) t ≡ slice_index c.args.self.now (slice_index c.args.columns.now t)) k
          (λ t l. get_or-set_other to k t v 0 (omega arith) ∙ c.loop-k.invariant.entries t l)
          (get_or-set_same to k v 0 (omega (arith, c.loop-k.invariant.long, c.requires.few)) ∙ c.get.ensures);
      rest = λ t l. get_or-set_other to k t v 0 (omega arith) ∙ c.loop-k.invariant.rest t (omega arith);
    }
