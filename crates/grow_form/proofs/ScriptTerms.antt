-- Columns and values of a script line, read pair by pair.
use Rattle.std.proofs.Common.{ℕ, ◌≡◌, ◌≢◌, ◌+◌, ◌-◌, ◌%◌, ◌<◌, ◌≤◌, Bool, true, false, cond, not, List, [], ◌∷◌, ◌++◌, length, None, Some, inl, inr, sym, refl, ap, ◌∙◌, arith}
use Rattle.std.specs.Prelude.{◌==◌, ◌&&◌, slice_index_or}
use Rattle.std.proofs.Math.ListN.{drop}
use Rattle.std.proofs.lemmas.Bool.{cases_eq}
use Rattle.std.proofs.lemmas.Bool.Decides.{nat_tests}
use Rattle.std.proofs.lemmas.List.{drop_all, drop_more}
use Rattle.sparse_rows.specs.Rows.{Building, ResidueMatrix, Triple, built, sum_at}
use Rattle.sparse_rows.proofs.Building.{matrix_by_equal}
use Rattle.sms_text.specs.Numbers.{value, value_modulo, is_value, divides_by_zero}
use Rattle.sms_text.specs.OuterLines.{IsUpTo, are_terms, is_from_one_up_to, is_script, is_up_to, takes_terms}
use Rattle.sms_text.specs.Reading.{ValueOf}
use Rattle.std.specs.Prelude.{Option, codes}
use Rattle.std.specs.Option.{is_some}
use Rattle.std.specs.Str.{bytes_eq}
use Rattle.grow_form.specs.Answers.{FitsRows, IsRowFor}
use Rattle.grow_form.specs.Script.{IsTermsRow, row_of_terms, script_line_of, term_sum, terms_of}
use Rattle.grow_form.specs.declared.script.ScriptLine.{ScriptLine}
use Rattle.grow_form.specs.declared.script.ScriptLine.TheVariants.{Append, Rank, Form, Contains, End}

-- the words before k were read: what they give and what those from k on give is what all give
pub record TermsRead (p n : ℕ) (ws : List (List ℕ)) (k : ℕ) (b : Building) : Type 0 where
  pub modulus : b.modulus ≡ p
  pub height : b.height ≡ 1
  pub width : b.width ≡ n
  pub test : are_terms p n (drop k ws) ≡ are_terms p n (terms_of ws)
  pub sums : (j : ℕ) → sum_at 0 j b.pushed + term_sum p j (drop k ws) ≡ term_sum p j (terms_of ws)

-- none was read but the first, which is no column
pub terms_begin : (p n : ℕ) (ws : List (List ℕ)) (b : Building) → 0 < length ws → b ≡ record { modulus = p; height = 1; width = n; pushed = [] } → TermsRead p n ws 1 b
terms_begin p n [] b some e = absurd (omega (arith, some))
terms_begin p n (w ∷ ws) b some e = record {
  modulus = ap (λ (b : Building). b.modulus) e;
  height = ap (λ (b : Building). b.height) e;
  width = ap (λ (b : Building). b.width) e;
  test = refl;
  sums = λ j. let none : 0 + term_sum p j ws ≡ term_sum p j ws = omega arith in ap (λ (b : Building). sum_at 0 j b.pushed + term_sum p j ws) e ∙ none;
}

-- tests one after another
all_hold : (a b c d : Bool) → a ≡ true → b ≡ true → c ≡ false → (a && b && not c && d) ≡ d
all_hold a b c d ha hb hc = rw (ha, hb, hc) refl

first_fails : (a b c d : Bool) → a ≡ false → (a && b && not c && d) ≡ false
first_fails a b c d h = rw h refl

second_fails : (a b c d : Bool) → b ≡ false → (a && b && not c && d) ≡ false
second_fails true b c d h = rw h refl
second_fails false b c d h = refl

third_fails : (a b c d : Bool) → c ≡ true → (a && b && not c && d) ≡ false
third_fails true true c d h = rw h refl
third_fails true false c d h = refl
third_fails false b c d h = refl

both_hold : (a b : Bool) → a ≡ true → b ≡ false → (a && not b) ≡ true
both_hold a b ha hb = rw (ha, hb) refl

one_fails : (a b : Bool) → a ≡ false → (a && not b) ≡ false
one_fails a b h = rw h refl

other_fails : (a b : Bool) → a ≡ true → b ≡ true → (a && not b) ≡ false
other_fails a b ha hb = rw (ha, hb) refl

-- a value pushed counts at its place
sum_pushed : (i j : ℕ) (ts : List Triple) (t : Triple) → sum_at i j (ts ++ t ∷ []) ≡ sum_at i j ts + cond (t.i == i && t.j == j) t.v 0
sum_pushed i j [] t = omega arith
sum_pushed i j (s ∷ ts) t = let h = sum_pushed i j ts t in omega (arith, h)

same_place : (a n j : ℕ) → n ≡ a → n ≢ 0 → (a == (j + 1)) ≡ ((n - 1) == j)
same_place a n j e some = elim (cases_eq a (j + 1)) [
  | inl same ↦
      let l : (a == (j + 1)) ≡ true = grind (arith, nat_tests) in
      let r : ((n - 1) == j) ≡ true = grind (arith, nat_tests) in
      l ∙ sym r
  | inr other ↦
      let apart : n - 1 ≢ j = λ z. other (omega arith) in
      let l : (a == (j + 1)) ≡ false = grind (arith, nat_tests) in
      let r : ((n - 1) == j) ≡ false = grind (arith, nat_tests) in
      l ∙ sym r
]

-- A pair of words stands at k, and those from k on test as all do.
module _ (p n : ℕ) (ws : List (List ℕ)) (k : ℕ) (test : are_terms p n (drop k ws) ≡ are_terms p n (terms_of ws)) (l : k + 1 < length ws) where
  abbrev column_word : List ℕ
  column_word = slice_index_or ws k []

  abbrev value_of : List ℕ
  value_of = slice_index_or ws (k + 1) []

  two_more : drop k ws ≡ column_word ∷ value_of ∷ drop (k + 2) ws
  two_more =
      let next : k + 1 + 1 ≡ k + 2 = omega arith in
      drop_more ws k [] (omega (arith, l)) ∙ ap (λ t. column_word ∷ t) (drop_more ws (k + 1) [] l) ∙ ap (λ m. column_word ∷ value_of ∷ drop m ws) next

  tested : are_terms p n (column_word ∷ value_of ∷ drop (k + 2) ws) ≡ are_terms p n (terms_of ws)
  tested = ap (are_terms p n) (sym two_more) ∙ test

  -- it is a column and a value
  pub test_goes : (column : ℕ) (o : Option ℕ) → IsUpTo n column_word column → column ≢ 0 → ValueOf p value_of o → is_some o ≡ true →
      are_terms p n (drop (k + 2) ws) ≡ are_terms p n (terms_of ws)
  test_goes column None up some v there = absurd cc
  test_goes column (Some x) up some v there =
      let at_zero : (value column_word == 0) ≡ false = let nonzero : value column_word ≢ 0 = λ z. some (up.spelled ∙ z) in grind (arith, nat_tests) in
      sym (all_hold _ _ _ (are_terms p n (drop (k + 2) ws)) (both_hold _ _ up.test at_zero) v.0 v.1) ∙ tested

  -- or it isn't
  pub terms_no_column : is_up_to n column_word ≡ false → are_terms p n (terms_of ws) ≡ false
  terms_no_column h = sym tested ∙ first_fails _ _ _ (are_terms p n (drop (k + 2) ws)) (one_fails _ _ h)

  pub terms_column_zero : (column : ℕ) → IsUpTo n column_word column → column ≡ 0 → are_terms p n (terms_of ws) ≡ false
  terms_column_zero column up none =
      let at_zero : (value column_word == 0) ≡ true = let zero : value column_word ≡ 0 = sym up.spelled ∙ none in grind (arith, nat_tests) in
      sym tested ∙ first_fails _ _ _ (are_terms p n (drop (k + 2) ws)) (other_fails _ _ up.test at_zero)

  pub terms_no_value : ValueOf p value_of None → are_terms p n (terms_of ws) ≡ false
  terms_no_value (inl h) = sym tested ∙ second_fails (is_from_one_up_to n column_word) (is_value value_of) (divides_by_zero p value_of) (are_terms p n (drop (k + 2) ws)) h
  terms_no_value (inr h) = sym tested ∙ third_fails (is_from_one_up_to n column_word) (is_value value_of) (divides_by_zero p value_of) (are_terms p n (drop (k + 2) ws)) h

-- It is a column and a value, which a builder is given.
module _ (p n : ℕ) (ws : List (List ℕ)) (k : ℕ) (b : Building) (is : TermsRead p n ws k b) (l : k + 1 < length ws) where
  pub terms_go : (column x : ℕ) (b' : Building) → IsUpTo n (slice_index_or ws k []) column → column ≢ 0 → ValueOf p (slice_index_or ws (k + 1) []) (Some x) →
      b' ≡ record b { pushed = b.pushed ++ record { i = 0; j = column - 1; v = x } ∷ [] } → TermsRead p n ws (k + 2) b'
  terms_go column x b' up some v e =
      let column_word = slice_index_or ws k [] in
      let value_of = slice_index_or ws (k + 1) [] in
      record {
        modulus = ap (λ (b : Building). b.modulus) e ∙ is.modulus;
        height = ap (λ (b : Building). b.height) e ∙ is.height;
        width = ap (λ (b : Building). b.width) e ∙ is.width;
        test = test_goes p n ws k is.test l column (Some x) up some v refl;
        sums = λ j.
            let t : Triple = record { i = 0; j = column - 1; v = x } in
            let pushed : sum_at 0 j b'.pushed ≡ sum_at 0 j b.pushed + cond ((column - 1) == j) x 0 =
            ap (λ (b : Building). sum_at 0 j b.pushed) e ∙ sum_pushed 0 j b.pushed t in
            let here : cond (value column_word == (j + 1)) (value_modulo p value_of) 0 ≡ cond ((column - 1) == j) x 0 =
            ap (λ s. cond s (value_modulo p value_of) 0) (same_place (value column_word) column j up.spelled some) ∙ ap (λ y. cond ((column - 1) == j) y 0) (sym v.2) in
            let parts : term_sum p j (drop k ws) ≡ cond (value column_word == (j + 1)) (value_modulo p value_of) 0 + term_sum p j (drop (k + 2) ws) = ap (term_sum p j) (two_more p n ws k is.test l) in
            omega (arith, pushed, here, parts, is.sums j);
      }

-- a column without a value
pub terms_odd : (p n : ℕ) (ws : List (List ℕ)) (k : ℕ) → are_terms p n (drop k ws) ≡ are_terms p n (terms_of ws) → length ws ≡ k + 1 → are_terms p n (terms_of ws) ≡ false
terms_odd p n ws k test one =
    sym test ∙ ap (are_terms p n) (drop_more ws k [] (omega (arith, one)) ∙ ap (λ t. slice_index_or ws k [] ∷ t) (drop_all (k + 1) ws (omega (arith, one))))

-- no word is left
pub terms_all : (p n : ℕ) (ws : List (List ℕ)) (k : ℕ) → are_terms p n (drop k ws) ≡ are_terms p n (terms_of ws) → length ws ≤ k → true ≡ are_terms p n (terms_of ws)
terms_all p n ws k test done = sym (ap (are_terms p n) (drop_all k ws done)) ∙ test

-- no value stands there
pub value_missing : (p : ℕ) (w : List ℕ) (o : Option ℕ) → ValueOf p w o → is_some o ≡ false → ValueOf p w None
value_missing p w None h none = h
value_missing p w (Some x) h none = absurd cc

-- none was tested but the first, which is no column
pub test_begins : (p n : ℕ) (ws : List (List ℕ)) → 0 < length ws → are_terms p n (drop 1 ws) ≡ are_terms p n (terms_of ws)
test_begins p n [] some = absurd (omega (arith, some))
test_begins p n (w ∷ ws) some = refl

-- all were read
pub terms_end : (p n : ℕ) (ws : List (List ℕ)) (k : ℕ) (b : Building) → TermsRead p n ws k b → length ws ≤ k → (row : ResidueMatrix) → row.modulus ≡ b.modulus →
    row.matrix ≡ built b.modulus b.height b.width b.pushed → IsTermsRow p n (terms_of ws) row
terms_end p n ws k b is done row modulus matrix = record {
  test = sym is.test ∙ ap (are_terms p n) (drop_all k ws done);
  is_row = ap (λ q. record { modulus = q; matrix = row.matrix }) (modulus ∙ is.modulus)
      ∙ ap (λ m. record { modulus = p; matrix = m }) (matrix ∙ ap (λ q. built q b.height b.width b.pushed) is.modulus
      ∙ ap (λ h. built p h b.width b.pushed) is.height ∙ ap (λ w. built p 1 w b.pushed) is.width
      ∙ matrix_by_equal 1 n _ _ (λ i j less m. let first : i ≡ 0 = omega (arith, less) in ap (λ i. sum_at i j b.pushed % p) first ∙ ap (λ x. x % p) (all j)));
}
  where
    all : (j : ℕ) → sum_at 0 j b.pushed ≡ term_sum p j (terms_of ws)
    all j = let none : term_sum p j (drop k ws) ≡ 0 = ap (term_sum p j) (drop_all k ws done) in omega (arith, none, is.sums j)

-- a line without words
pub no_words : (p n : ℕ) (ws : List (List ℕ)) → length ws ≡ 0 → is_script p n ws ≡ false
no_words p n [] h = refl
no_words p n (w ∷ ws) h = absurd (omega (arith, h))

fits_either : (P : ScriptLine → Type 0) (b : Bool) (x y : ScriptLine) → P x → P y → P (cond b x y)
fits_either P true x y hx hy = hx
fits_either P false x y hx hy = hy

-- what is read of a line fits rows of its modulus and width
pub fits_read : (grow : ResidueMatrix) (p n : ℕ) (ws : List (List ℕ)) → grow.modulus ≡ p → grow.matrix.width ≡ n → FitsRows grow (script_line_of p n ws)
fits_read grow p n [] m w = tt
fits_read grow p n (name ∷ ws) m w =
    let fits : IsRowFor grow (row_of_terms p n ws) = record { modulus = sym m; width = sym w; height = refl } in
    fits_either (FitsRows grow) (bytes_eq name (codes "row")) (Append (row_of_terms p n ws)) _ fits
    (fits_either (FitsRows grow) (bytes_eq name (codes "in")) (Contains (row_of_terms p n ws)) _ fits
    (fits_either (FitsRows grow) (bytes_eq name (codes "rank")) Rank _ tt (fits_either (FitsRows grow) (bytes_eq name (codes "rref")) Form End tt tt)))

-- where the first word is `row` or `in`, a line is of a script's form exactly where terms follow
pub terms_are_script : (p n : ℕ) (w : List ℕ) (ws : List (List ℕ)) → takes_terms w ≡ true → are_terms p n ws ≡ true → is_script p n (w ∷ ws) ≡ true
terms_are_script p n w [] takes are = rw takes refl
terms_are_script p n w (c ∷ ws) takes are = rw (takes, are) refl
