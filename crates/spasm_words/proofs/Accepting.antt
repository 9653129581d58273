-- Options that are known and given once are options that fit, and their rows give their values.
use Rattle.std.proofs.Common.{◌≡◌, ◌≢◌, ◌||◌, ◌++◌, ◌∙◌, zero, suc, Bool, true, false, List, [], ◌∷◌, map, Option, Some, None, refl, sym, ap, subst, arith}
use Rattle.std.specs.List.{Contains}
use Rattle.std.specs.Str.{bytes_eq}
use Rattle.std.proofs.lemmas.Slice.Eq.{bytes_eq-Decides}
use Rattle.std.proofs.lemmas.List.Folds.{list_any-append}
use Rattle.clap.specs.Walk.{Row, Text, first_of, has_row}
use Rattle.spasm_words.specs.Words.{AreKnown, Given, IsGivenAs, IsNumber, IsSetBy, Setting}
use Rattle.spasm_words.specs.Options.{RowsSet}
use Rattle.spasm_words.proofs.Reading.{Fits, row_of_given}

-- ---- places in a list

pub first_of_list : (g : Given) (gs : List Given) → Contains (g ∷ gs) g
first_of_list g gs = (0, omega arith, refl)

pub later_in_list : (h g : Given) (gs : List Given) → Contains gs h → Contains (g ∷ gs) h
later_in_list h g gs (k, lt, e) = (suc k, omega arith, e)

pub in_middle : (before : List Given) (g : Given) (after : List Given) → Contains (before ++ g ∷ after) g
in_middle [] g after = first_of_list g after
in_middle (b ∷ before) g after = later_in_list g b _ (in_middle before g after)

split_at : (gs : List Given) (h : Given) → Contains gs h → (before : List Given) × (after : List Given) × (gs ≡ before ++ h ∷ after)
split_at [] h (k, lt, e) = absurd (omega arith)
split_at (g ∷ gs) h (zero, lt, e) = ([], gs, ap (λ (x : Given). x ∷ gs) e)
split_at (g ∷ gs) h (suc k, lt, e) = let r = split_at gs h (k, omega arith, e) in (g ∷ r.0, r.1, ap (λ (l : List Given). g ∷ l) r.2)

-- ---- names that have no row

or_first : (a b : Bool) → (a || b) ≡ false → a ≡ false
or_first false b e = refl
or_first true b e = absurd (let f : true ≡ false = e in cc)

or_second : (a b : Bool) → (a || b) ≡ false → b ≡ false
or_second false b e = e
or_second true b e = absurd (let f : true ≡ false = e in cc)

neither : (a b : Bool) → a ≡ false → b ≡ false → (a || (b || false)) ≡ false
neither a b e f = rw (e, f) refl

pub differ : (a b : Text) → bytes_eq a b ≡ false → a ≢ b
differ a b e s = let f : false ≡ true = sym e ∙ (bytes_eq-Decides a b).1 s in absurd cc

differs : (a b : Text) → a ≢ b → bytes_eq a b ≡ false
differs a b h = go (bytes_eq a b) refl
  where
    go : (t : Bool) → bytes_eq a b ≡ t → bytes_eq a b ≡ false
    go true e = absurd (h ((bytes_eq-Decides a b).0 e))
    go false e = e

rows_more : (id : Text) (rows : List Row) (g : Given) → has_row id (rows ++ row_of_given g ∷ []) ≡ (has_row id rows || (bytes_eq g.name id || false))
rows_more id rows g = list_any-append (λ (r : Row). bytes_eq r.id id) rows (row_of_given g ∷ [])

fits_free : (names : List Text) (rows : List Row) (options : List Given) (g : Given) → Fits names rows options → Contains options g → has_row g.name rows ≡ false
fits_free names rows [] g f (k, lt, e) = absurd (omega arith)
fits_free names rows (h ∷ hs) g f (zero, lt, e) = subst (λ (x : Given). has_row x.name rows ≡ false) e f.1
fits_free names rows (h ∷ hs) g f (suc k, lt, e) = or_first _ _ (sym (rows_more g.name rows h) ∙ fits_free names (rows ++ row_of_given h ∷ []) hs g f.2 (k, omega arith, e))

later_differs : (names : List Text) (rows : List Row) (h g : Given) (hs : List Given) → Fits names rows (h ∷ hs) → Contains hs g → bytes_eq h.name g.name ≡ false
later_differs names rows h g hs f k =
    or_first _ false (or_second (has_row g.name rows) _ (sym (rows_more g.name rows h) ∙ fits_free names (rows ++ row_of_given h ∷ []) hs g f.2 k))

-- ---- known and given once, in both forms

fits_names : (names : List Text) (rows : List Row) (options : List Given) (g : Given) → Fits names rows options → Contains options g → Contains names g.name
fits_names names rows [] g f (k, lt, e) = absurd (omega arith)
fits_names names rows (h ∷ hs) g f (zero, lt, e) = subst (λ (x : Given). Contains names x.name) e f.0
fits_names names rows (h ∷ hs) g f (suc k, lt, e) = fits_names names (rows ++ row_of_given h ∷ []) hs g f.2 (k, omega arith, e)

fits_once : (names : List Text) (rows : List Row) (before : List Given) (g : Given) (between : List Given) (h : Given) (after : List Given)
    → Fits names rows (before ++ g ∷ between ++ h ∷ after) → g.name ≢ h.name
fits_once names rows [] g between h after f = differ g.name h.name (later_differs names rows g h (between ++ h ∷ after) f (in_middle between h after))
fits_once names rows (b ∷ before) g between h after f = fits_once names (rows ++ row_of_given b ∷ []) before g between h after f.2

pub fits_known : (names : List Text) (options : List Given) → Fits names [] options → AreKnown options names
fits_known names options f = record {
  known = λ g k. fits_names names [] options g f k;
  once = λ before g between h after e. fits_once names [] before g between h after (subst (Fits names []) e f);
}

known_from : (names : List Text) (rows : List Row) (options : List Given) → AreKnown options names → ((g : Given) → Contains options g → has_row g.name rows ≡ false) → Fits names rows options
known_from names rows [] k free = tt
known_from names rows (g ∷ gs) k free = (
  k.known g (first_of_list g gs),
  free g (first_of_list g gs),
  known_from names (rows ++ row_of_given g ∷ []) gs
      (record {
        known = λ h c. k.known h (later_in_list h g gs c);
        once = λ before a between b after e. k.once (g ∷ before) a between b after (ap (λ (l : List Given). g ∷ l) e);
      })
      (λ h c. let s = split_at gs h c in
      let other : g.name ≢ h.name = k.once [] g s.0 h s.1 (ap (λ (l : List Given). g ∷ l) s.2) in
      rows_more h.name rows g ∙ neither _ _ (free h (later_in_list h g gs c)) (differs g.name h.name other)),
)

pub known_fits : (names : List Text) (options : List Given) → AreKnown options names → Fits names [] options
known_fits names options k = known_from names [] options k (λ g c. refl)

-- ---- the value of an option, by its row

pub fits_first : (names : List Text) (rows : List Row) (options : List Given) (g : Given) → Fits names rows options → Contains options g → first_of g.name (map row_of_given options) ≡ Some g.value
fits_first names rows [] g f (k, lt, e) = absurd (omega arith)
fits_first names rows (h ∷ hs) g f (zero, lt, e) =
    let same : bytes_eq h.name g.name ≡ true = (bytes_eq-Decides h.name g.name).1 (ap (λ (x : Given). x.name) e) in
    rw same (ap (λ (x : Given). Some x.value) e)
fits_first names rows (h ∷ hs) g f (suc k, lt, e) =
    let other : bytes_eq h.name g.name ≡ false = later_differs names rows h g hs f (k, omega arith, e) in
    rw other (fits_first names (rows ++ row_of_given h ∷ []) hs g f.2 (k, omega arith, e))

none_first_of : (options : List Given) (name : Text) → ((g : Given) → Contains options g → g.name ≢ name) → first_of name (map row_of_given options) ≡ None
none_first_of [] name h = refl
none_first_of (g ∷ gs) name h =
    let other : bytes_eq g.name name ≡ false = differs g.name name (h g (first_of_list g gs)) in
    rw other (none_first_of gs name (λ x c. h x (later_in_list x g gs c)))

absent_more : (g : Given) (gs : List Given) (name : Text) → g.name ≢ name → ((h : Given) → Contains gs h → h.name ≢ name) → (h : Given) → Contains (g ∷ gs) h → h.name ≢ name
absent_more g gs name n rest h (zero, lt, e) = subst (λ (x : Given). x.name ≢ name) e n
absent_more g gs name n rest h (suc k, lt, e) = rest h (k, omega arith, e)

-- what the rows have by a name is given
first_here : (g : Given) (gs : List Given) (name : Text) → bytes_eq g.name name ≡ true → first_of name (map row_of_given (g ∷ gs)) ≡ Some g.value
first_here g gs name e = rw e refl

first_later : (g : Given) (gs : List Given) (name : Text) → bytes_eq g.name name ≡ false → first_of name (map row_of_given (g ∷ gs)) ≡ first_of name (map row_of_given gs)
first_later g gs name e = rw e refl

given_more : (g : Given) (gs : List Given) (name : Text) (text : Option Text) → g.name ≢ name → IsGivenAs gs name text → IsGivenAs (g ∷ gs) name text
given_more g gs name None n r = absent_more g gs name n r
given_more g gs name (Some w) n (joined, c) = (joined, later_in_list _ g gs c)

given_first : (g : Given) (gs : List Given) (name : Text) → g.name ≡ name → IsGivenAs (g ∷ gs) name (Some g.value)
given_first g gs name e = (g.joined, (0, omega arith, ap (λ (t : Text). record { name = t; value = g.value; joined = g.joined }) e))

pub given_text : (options : List Given) (name : Text) → IsGivenAs options name (first_of name (map row_of_given options))
given_text [] name = λ g (k, lt, e). absurd (omega arith)
given_text (g ∷ gs) name = go (bytes_eq g.name name) refl (given_text gs name)
  where
    go : (b : Bool) → bytes_eq g.name name ≡ b → IsGivenAs gs name (first_of name (map row_of_given gs)) → IsGivenAs (g ∷ gs) name (first_of name (map row_of_given (g ∷ gs)))
    go true e r = subst (IsGivenAs (g ∷ gs) name) (sym (first_here g gs name e)) (given_first g gs name ((bytes_eq-Decides g.name name).0 e))
    go false e r = subst (IsGivenAs (g ∷ gs) name) (sym (first_later g gs name e)) (given_more g gs name _ (differ g.name name e) r)

-- and what is given, the rows have
pub text_given : (names : List Text) (options : List Given) (name : Text) (text : Option Text) → Fits names [] options → IsGivenAs options name text → first_of name (map row_of_given options) ≡ text
text_given names options name None f absent = none_first_of options name absent
text_given names options name (Some w) f (joined, c) = fits_first names [] options _ f c

-- the rows set what the options set
pub set_rows : (names : List Text) (options : List Given) (s : Setting) → Fits names [] options → IsSetBy options s → RowsSet (map row_of_given options) s
set_rows names options s f (text, given, is) =
    subst (λ (o : Option Text). IsNumber s.rule o s.number) (sym (text_given names options s.rule.name text f given)) is

pub rows_set : (options : List Given) (s : Setting) → RowsSet (map row_of_given options) s → IsSetBy options s
rows_set options s h = (first_of s.rule.name (map row_of_given options), given_text options s.rule.name, h)
