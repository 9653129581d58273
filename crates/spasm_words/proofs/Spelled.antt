-- How a word of the form --name or --name=value is read.
use Rattle.std.proofs.Common.{◌≡◌, ◌≢◌, ◌==◌, ◌++◌, ◌∙◌, ℕ, zero, suc, Bool, true, false, cond, List, [], ◌∷◌, Option, Some, None, refl, ap, arith}
use Rattle.std.specs.Prelude.{option_and_then}
use Rattle.std.proofs.lemmas.Bool.Decides.{nat_tests}
use Rattle.clap.specs.Lexer.{long_of, long_of_rest, name_and_value, strip_byte}
use Rattle.clap.proofs.CutLemmas.{Lacks}
use Rattle.clap.proofs.LexerLemmas.{name_and_value-at, name_and_value-without}

stripped : (c : ℕ) (w t : List ℕ) → strip_byte c w ≡ Some t → w ≡ c ∷ t
stripped c [] t e = cc
stripped c (x ∷ xs) t e = go (x == c) refl e
  where
    go : (b : Bool) → (x == c) ≡ b → cond b (Some xs) None ≡ Some t → x ∷ xs ≡ c ∷ t
    go true h f = let same : x ≡ c = grind (arith, nat_tests) in cc
    go false h f = cc

-- a text has no =, or is cut at its first one
data Cut (u : List ℕ) : Type 0 where
  Whole : Lacks 61 u → Cut u
  AtEquals : (name v : List ℕ) → u ≡ name ++ 61 ∷ v → Lacks 61 name → Cut u

lacks_more : (x : ℕ) (xs : List ℕ) → x ≢ 61 → Lacks 61 xs → Lacks 61 (x ∷ xs)
lacks_more x xs h l zero lt = h
lacks_more x xs h l (suc i) lt = l i (omega arith)

cut_of : (u : List ℕ) → Cut u
cut_of [] = Whole (λ i lt. absurd (omega arith))
cut_of (x ∷ xs) = go (x == 61) refl (cut_of xs)
  where
    go : (b : Bool) → (x == 61) ≡ b → Cut xs → Cut (x ∷ xs)
    go true h k = AtEquals [] xs (let same : x ≡ 61 = grind (arith, nat_tests) in ap (λ n. n ∷ xs) same) (λ i lt. absurd (omega arith))
    go false h (Whole l) = Whole (lacks_more x xs (grind (arith, nat_tests)) l)
    go false h (AtEquals name v e l) = AtEquals (x ∷ name) v (ap (λ t. x ∷ t) e) (lacks_more x name (grind (arith, nat_tests)) l)

-- what the word is: --name=value, --name, or neither
pub data Spelled (word : List ℕ) : Type 0 where
  Joined : (name v : List ℕ) → word ≡ 45 ∷ 45 ∷ (name ++ 61 ∷ v) → long_of word ≡ Some (name, Some v) → Spelled word
  Apart : (name : List ℕ) → word ≡ 45 ∷ 45 ∷ name → long_of word ≡ Some (name, None) → Spelled word
  Other : long_of word ≡ None → Spelled word

pub spelled_as : (word : List ℕ) → Spelled word
spelled_as word = first (strip_byte 45 word) refl
  where
    third : (u : List ℕ) → word ≡ 45 ∷ 45 ∷ u → long_of word ≡ long_of_rest u → Spelled word
    third [] e f = Other f
    third (x ∷ xs) e f = go (cut_of (x ∷ xs))
      where
        go : Cut (x ∷ xs) → Spelled word
        go (Whole l) = Apart (x ∷ xs) e (f ∙ ap Some (name_and_value-without (x ∷ xs) l))
        go (AtEquals name v h l) = Joined name v (e ∙ ap (λ t. 45 ∷ 45 ∷ t) h) (f ∙ ap Some (ap name_and_value h ∙ name_and_value-at name v l))

    second : (t : List ℕ) → word ≡ 45 ∷ t → long_of word ≡ option_and_then long_of_rest (strip_byte 45 t) → (o : Option (List ℕ)) → strip_byte 45 t ≡ o → Spelled word
    second t e f None g = Other (f ∙ ap (option_and_then long_of_rest) g)
    second t e f (Some u) g = third u (e ∙ ap (λ r. 45 ∷ r) (stripped 45 t u g)) (f ∙ ap (option_and_then long_of_rest) g)

    first : (o : Option (List ℕ)) → strip_byte 45 word ≡ o → Spelled word
    first None e = Other (ap (λ o. option_and_then long_of_rest (option_and_then (strip_byte 45) o)) e)
    first (Some t) e = second t (stripped 45 word t e) (ap (λ o. option_and_then long_of_rest (option_and_then (strip_byte 45) o)) e) (strip_byte 45 t) refl
