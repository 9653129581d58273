use Rattle.std.proofs.Common.{ℕ, ◌≡◌, ◌+◌, ◌∙◌, ◌<◌, ◌≤◌, All, List, inl, inr, ap, arith, length, slice_index_or, subst, sym, take}
use Rattle.std.proofs.lemmas.Bool.{cases_lt}
use Rattle.std.proofs.lemmas.List.{get_or_default, get_or-take, length-take-le, take_all}
use Rattle.sparse_rows.specs.Rows.{FitsMatrix}
use Rattle.sparse_rows.proofs.rows.Rows.checked_from_triples.Goals as goal

pub loop-i-preserved : goal.loop-i-preserved
loop-i-preserved c = λ k d l.
    let ts : List (ℕ × ℕ × ℕ) = c.args.triples.now in
    let i : ℕ = c.loop-i.i-index in
    let inside : i < length ts = c.loop-i-test.true in
    let long : length (take (i + 1) ts) ≡ i + 1 = length-take-le (i + 1) ts (omega arith) in
    let before : length (take i ts) ≡ i = length-take-le i ts (omega arith) in
    let read : slice_index_or (take (i + 1) ts) k d ≡ slice_index_or ts k d = get_or-take (i + 1) ts k d (omega (arith, long)) in
    subst (FitsMatrix c.args.m c.args.n c.args.p.now) (sym read) (elim (cases_lt k i) [
      | inl low ↦ subst (FitsMatrix c.args.m c.args.n c.args.p.now) (get_or-take i ts k d low) (c.loop-i.invariant k d (omega (arith, before)))
      | inr high ↦
          let last : i ≡ k = omega (arith, long) in
          let same : slice_index_or ts i (0, 0, 0) ≡ slice_index_or ts k d = get_or_default ts i (0, 0, 0) d inside ∙ ap (λ n. slice_index_or ts n d) last in
          subst (FitsMatrix c.args.m c.args.n c.args.p.now) same (record {
            row = c.if-i-m.false;
            column = c.if-j-n.false;
            residue = omega (arith, c.if-v-modulus.false, c.p-modulus.ensures.value);
          })
    ])

-- all were looked at
all_inside : (m n p i : ℕ) (ts : List (ℕ × ℕ × ℕ)) → length ts ≤ i → All (FitsMatrix m n p) (take i ts) → All (FitsMatrix m n p) ts
all_inside m n p i ts l inside = subst (All (FitsMatrix m n p)) (take_all i ts l) inside

pub from_triples-requires-clause-inside : goal.from_triples-requires-clause-inside
from_triples-requires-clause-inside c = all_inside c.args.m c.args.n c.args.p.now c.loop-i.i-index c.args.triples.now c.loop-i-test.false c.loop-i.invariant

pub returns-clause-fits : goal.returns-clause-fits
returns-clause-fits c = record {
  height = c.if-m-gt-LARGEST_SIZE.false;
  width = c.if-n-gt-LARGEST_SIZE.false;
  inside = all_inside c.args.m c.args.n c.args.p.now c.loop-i.i-index c.args.triples.now c.loop-i-test.false c.loop-i.invariant;
}
