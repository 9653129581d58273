use Rattle.std.proofs.Common.{◌≡◌, ◌∙◌, ◌<◌, ◌+◌, ◌++◌, ◌∷◌, [], ℕ, List, ap, ap₂, arith, length, map, take, sym}
use Rattle.std.proofs.lemmas.List.{take_all, map_more}
use Rattle.sparse_rows.specs.Rows.{Building, built, triple}
use Rattle.spasm_c.specs.Given.{entries_given, entry_given}
use Rattle.spasm_c.proofs.Entries.{at_entries, length_entries}
use Rattle.spasm_c.proofs.InOrder.{each_fits}
use Rattle.spasm_c.proofs.given.Given.summed.Goals as goal

pub push-requires-clause-row : goal.push-requires-clause-row
push-requires-clause-row c =
    omega (arith, (each_fits c.requires c.loop-k.k (omega (arith, c.loop-k-test.true, c.loop-k.auto.k-end))).row, ap (λ (b : Building). b.height) c.loop-k.invariant)

pub push-requires-clause-column : goal.push-requires-clause-column
push-requires-clause-column c =
    omega (arith, (each_fits c.requires c.loop-k.k (omega (arith, c.loop-k-test.true, c.loop-k.auto.k-end))).column, ap (λ (b : Building). b.width) c.loop-k.invariant)

pub push-requires-clause-residue : goal.push-requires-clause-residue
push-requires-clause-residue c =
    omega (arith, (each_fits c.requires c.loop-k.k (omega (arith, c.loop-k-test.true, c.loop-k.auto.k-end))).residue, ap (λ (b : Building). b.modulus) c.loop-k.invariant)

pub loop-k-preserved : goal.loop-k-preserved
loop-k-preserved c =
    let a = c.args.self.now in
    let k : ℕ = c.loop-k.k in
    let ts : List (ℕ × ℕ × ℕ) = entries_given a in
    let low : k < length a.rows.now = omega (arith, c.loop-k-test.true, c.loop-k.auto.k-end) in
    let more : map triple (take k ts) ++ triple (entry_given a k) ∷ [] ≡ map triple (take (k + 1) ts) =
    ap (λ t. map triple (take k ts) ++ triple t ∷ []) (sym (at_entries a.rows.now a.columns.now a.values.now c.requires.columns c.requires.values k (0, 0, 0) low))
    ∙ sym (map_more triple ts k (0, 0, 0) (omega (arith, low, length_entries a.rows.now a.columns.now a.values.now c.requires.columns c.requires.values))) in
    c.in_ok-push.ensures.ok
    ∙ ap (λ (b : Building). record { modulus = b.modulus; height = b.height; width = b.width; pushed = b.pushed ++ triple (entry_given a k) ∷ [] }) c.loop-k.invariant
    ∙ ap (λ ts. record { modulus = a.modulus; height = a.height; width = a.width; pushed = ts }) more

pub returns : goal.returns
returns c =
    let a = c.args.self.now in
    let all : take c.loop-k.k (entries_given a) ≡ entries_given a =
    take_all c.loop-k.k (entries_given a) (omega (arith, c.loop-k-test.false, length_entries a.rows.now a.columns.now a.values.now c.requires.columns c.requires.values)) in
    let whole : c.loop-k.builder ≡ record { modulus = a.modulus; height = a.height; width = a.width; pushed = map triple (entries_given a) } =
    c.loop-k.invariant ∙ ap (λ ts. record { modulus = a.modulus; height = a.height; width = a.width; pushed = map triple ts }) all in
    ap₂ (λ p A. record { modulus = p; matrix = A }) (c.in_ok-rows.ensures.modulus ∙ ap (λ (b : Building). b.modulus) whole)
    (c.in_ok-rows.ensures.matrix ∙ ap (λ (b : Building). built b.modulus b.height b.width b.pushed) whole)
