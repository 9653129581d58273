-- Sums with multiples are residues again.
use Rattle.std.proofs.Common.{ℕ, List, ◌<◌, ◌≡◌, ◌+◌, ◌*◌, ◌%◌, ◌∙◌, get_or, length, arith, mod-lt, sym, ap}
use Rattle.residue_words.specs.Matrix.{list_of}
use Rattle.residue_words.proofs.Vectors.{length_list_of, at_list_of}

pub keeps : (p a : ℕ) (x y new : List ℕ) → a < p → new ≡ list_of (length x) (λ k. (get_or x k 0 + a * get_or y k 0) % p) → length y ≡ length x →
    (length y ≡ length new) × ((k : ℕ) → k < length new → get_or new k 0 < p)
keeps p a x y new l e w =
    let f = λ (k : ℕ). (get_or x k 0 + a * get_or y k 0) % p in
    let long : length new ≡ length x = ap length e ∙ length_list_of (length x) f in (
      w ∙ sym long,
      λ k b.
          let below : f k < p = mod-lt (get_or x k 0 + a * get_or y k 0) (omega arith) in
          let inside : k < length x = omega arith in
          omega (arith, ap (λ v. get_or v k 0) e ∙ at_list_of (length x) f k inside),
    )
