-- Lines put from the last to the first.
use Rattle.std.proofs.Common.{◌≡◌, ℕ, ◌+◌, ◌-◌, ◌<◌, ◌≤◌, ◌^◌, List, [], ◌∷◌, ◌++◌, length, take, drop, sym, ap, ◌∙◌, append_assoc, drop-drop, length-drop, arith}
use Rattle.std.proofs.Math.Seq.{drop-append_seam}
use Rattle.std.proofs.lemmas.List.{drop-append-le, length-take-le}
use Rattle.std.proofs.lemmas.Fmt.{length-decimal-le_wide}
use Rattle.std.specs.Fmt.{decimal}
use Rattle.sms_text.specs.Written.{entry_line}
use borrow.Rule.Slice.PartMut.{put_mid}

pub at_most_ten : (n : ℕ) → n < 2 ^ 32 → length (decimal n) ≤ 10
at_most_ten n h = length-decimal-le_wide 10 n (omega arith) (omega arith) (omega arith)

-- behind the first f bytes of a part that was written to
pub drop_into : (a k f : ℕ) (xs ys : List ℕ) → a ≤ length xs → f ≤ length ys → drop (a + f) (put_mid a k xs ys) ≡ drop f ys ++ drop (a + k) xs
drop_into a k f xs ys inside within =
    let seam : drop a (put_mid a k xs ys) ≡ ys ++ drop k (drop a xs) =
    ap (λ n. drop n (put_mid a k xs ys)) (sym (length-take-le a xs inside)) ∙ drop-append_seam (take a xs) (ys ++ drop k (drop a xs)) in
    sym (drop-drop f a (put_mid a k xs ys)) ∙ ap (drop f) seam ∙ drop-append-le f ys (drop k (drop a xs)) within ∙ ap (λ l. drop f ys ++ l) (drop-drop k a xs)

-- the last of 32 bytes, put by a copy of the second half of them
pub half_put : (end from : ℕ) (start half bytes : List ℕ) → length start ≡ 32 → 20 ≤ from → from ≤ 32 → 32 ≤ end → end ≤ length bytes → half ≡ drop 16 start
    → drop (end - 32 + from) (put_mid (end - 16) (end - (end - 16)) bytes half) ≡ drop from start ++ drop end bytes
half_put end from start half bytes long low high room inside e =
    let at : end - 32 + from ≡ end - 16 + (from - 16) = omega arith in
    let past : 16 + (from - 16) ≡ from = omega arith in
    let back : end - 16 + (end - (end - 16)) ≡ end = omega arith in
    let fits : from - 16 ≤ length half = omega (arith, ap length e, length-drop 16 start) in
    ap (λ n. drop n (put_mid (end - 16) (end - (end - 16)) bytes half)) at ∙ drop_into (end - 16) (end - (end - 16)) (from - 16) bytes half (omega arith) fits
    ∙ ap (λ l. drop (from - 16) l ++ drop (end - 16 + (end - (end - 16))) bytes) e
    ∙ ap (λ l. l ++ drop (end - 16 + (end - (end - 16))) bytes) (drop-drop (from - 16) 16 start ∙ ap (λ n. drop n start) past)
    ∙ ap (λ n. drop from start ++ drop n bytes) back

pub words_grouped : (a b c d : List ℕ) → a ++ (b ++ (32 ∷ (c ++ d))) ≡ a ++ b ++ 32 ∷ c ++ d
words_grouped a b c d = simp append_assoc

-- a line put in front of a line's end and other lines
pub line_put : (i j v : ℕ) (start rest lines : List ℕ) → start ≡ 10 ∷ decimal i ++ 32 ∷ [] → rest ≡ 10 ∷ lines
    → start ++ decimal j ++ 32 ∷ decimal v ++ rest ≡ 10 ∷ (entry_line i j v ++ lines)
line_put i j v start rest lines e f =
    rw (e, f) (ap (λ l. 10 ∷ ((l ++ (32 ∷ decimal v)) ++ (10 ∷ lines))) (append_assoc (decimal i) (32 ∷ []) (decimal j))
    ∙ ap (λ l. 10 ∷ l) (sym (append_assoc ((decimal i ++ (32 ∷ decimal j)) ++ (32 ∷ decimal v)) (10 ∷ []) lines)))
