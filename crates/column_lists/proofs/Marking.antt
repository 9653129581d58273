-- Bits that are set and cleared, and the first that is set.
use Rattle.std.proofs.Common.{ℕ, zero, suc, ◌≡◌, ◌≢◌, ◌+◌, ◌-◌, ◌*◌, ◌/◌, ◌%◌, ◌^◌, ◌<◌, ◌≤◌, List, length, replicate, slice_index, slice_set, w64, inl, inr, sym, refl, ap, subst, ◌∙◌, arith, bit_and, bit_or}
use Rattle.std.specs.Int.{bit_at}
use Rattle.std.proofs.lemmas.Nat.Bits.{bit_at-zero, bit_at-suc, bit_at_and, bit_at_lowest, bit_at_set_same, bit_at_set_other}
use Rattle.std.proofs.lemmas.List.{length-set, get_or-set_same, get_or-set_other, get_or_past, get_or-replicate, length-replicate}
use Rattle.std.proofs.lemmas.Bool.{cases_lt, cases_eq}
use Rattle.residue_words.specs.Matrix.{list_of}
use Rattle.residue_words.proofs.Vectors.{length_list_of, at_list_of, list_equal}
use Rattle.column_lists.specs.ColumnSet.{AllZero, AreTops, IsFirstWord, IsLowest, IsMarks, TakesFirst, bit, marks_of}

-- a word with one bit set, and without its lowest bit
abbrev pub with_bit : ℕ → ℕ → ℕ
with_bit word k = bit_or word (1 * 2 ^ k % 18446744073709551616)

abbrev pub without_lowest : ℕ → ℕ
without_lowest word = bit_and word (word - 1)

-- one less: the lowest bit is cleared
less_here : (k n : ℕ) → bit_at n k ≡ 1 → ((i : ℕ) → i < k → bit_at n i ≡ 0) → bit_at (n - 1) k ≡ 0
less_here zero n one none = omega (arith, bit_at_lowest n, bit_at_lowest (n - 1))
less_here (suc k) n one none =
    let even : n % 2 ≡ 0 = sym (bit_at_lowest n) ∙ none 0 (omega arith) in
    let half : (n - 1) / 2 ≡ n / 2 - 1 = omega arith in
    bit_at-suc (n - 1) k ∙ ap (λ x. bit_at x k) half ∙ less_here k (n / 2) (sym (bit_at-suc n k) ∙ one) (λ i l. sym (bit_at-suc n i) ∙ none (suc i) (omega arith))

-- and the bits above it are kept
less_above : (k n i : ℕ) → bit_at n k ≡ 1 → ((t : ℕ) → t < k → bit_at n t ≡ 0) → k < i → bit_at (n - 1) i ≡ bit_at n i
less_above zero n zero one none l = absurd (omega arith)
less_above zero n (suc i) one none l =
    let half : (n - 1) / 2 ≡ n / 2 = omega (arith, bit_at_lowest n) in
    bit_at-suc (n - 1) i ∙ ap (λ x. bit_at x i) half ∙ sym (bit_at-suc n i)
less_above (suc k) n zero one none l = absurd (omega arith)
less_above (suc k) n (suc i) one none l =
    let even : n % 2 ≡ 0 = sym (bit_at_lowest n) ∙ none 0 (omega arith) in
    let half : (n - 1) / 2 ≡ n / 2 - 1 = omega arith in
    bit_at-suc (n - 1) i ∙ ap (λ x. bit_at x i) half ∙ less_above k (n / 2) i (sym (bit_at-suc n k) ∙ one) (λ t lt. sym (bit_at-suc n t) ∙ none (suc t) (omega arith)) (omega arith) ∙ sym (bit_at-suc n i)

lowest_here : {word k : ℕ} → IsLowest word k → bit_at (without_lowest word) k ≡ 0
lowest_here {word} {k} low = omega (arith, bit_at_and word (word - 1) k, less_here k word low.one low.before)

lowest_other : {word k : ℕ} → IsLowest word k → (i : ℕ) → i ≢ k → bit_at (without_lowest word) i ≡ bit_at word i
lowest_other {word} {k} low i d = elim (cases_lt i k) [
  | inl l ↦ omega (arith, bit_at_and word (word - 1) i, low.before i l)
  | inr g ↦ (let above : bit_at (word - 1) i ≡ bit_at word i = less_above k word i low.one low.before (omega arith) in omega (arith, bit_at_and word (word - 1) i))
]

-- the words where one of them is another
replaced_bit : (xs : List ℕ) (w word k : ℕ) → k / 64 ≡ w → w < length xs → bit (slice_set xs w word) k ≡ bit_at word (k % 64)
replaced_bit xs w word k e l = ap (λ v. bit_at v (k % 64)) (ap (slice_index (slice_set xs w word)) e ∙ get_or-set_same xs w word 0 l)

kept_bit : (xs : List ℕ) (w word k : ℕ) → k / 64 ≢ w → bit (slice_set xs w word) k ≡ bit xs k
kept_bit xs w word k d = ap (λ v. bit_at v (k % 64)) (get_or-set_other xs w (k / 64) word 0 d)

-- bit j is set, and no other changes
abbrev marked_words : List ℕ → ℕ → List ℕ
marked_words words j = slice_set words (j / 64) (with_bit (slice_index words (j / 64)) (j % 64))

set_here : (xs : List ℕ) (j : ℕ) → j / 64 < length xs → bit (marked_words xs j) j ≡ 1
set_here xs j l = replaced_bit xs (j / 64) _ j refl l ∙ bit_at_set_same w64 (slice_index xs (j / 64)) (j % 64) (omega arith)

set_other : (xs : List ℕ) (j k : ℕ) → j / 64 < length xs → k ≢ j → bit (marked_words xs j) k ≡ bit xs k
set_other xs j k l d = elim (cases_eq (k / 64) (j / 64)) [
  | inl e ↦
      replaced_bit xs (j / 64) _ k e l ∙ bit_at_set_other w64 (slice_index xs (j / 64)) (j % 64) (omega arith) (k % 64) (λ z. d (omega arith))
      ∙ ap (λ w. bit_at (slice_index xs w) (k % 64)) (sym e)
  | inr n ↦ kept_bit xs (j / 64) _ k n
]

-- the lowest bit of word w is cleared, and no other changes
abbrev taken_words : List ℕ → ℕ → List ℕ
taken_words words w = slice_set words w (without_lowest (slice_index words w))

taken_here : (xs : List ℕ) (w k : ℕ) → w < length xs → IsLowest (slice_index xs w) k → bit (taken_words xs w) (64 * w + k) ≡ 0
taken_here xs w k l low =
    let place : (64 * w + k) % 64 ≡ k = omega (arith, low.below) in
    replaced_bit xs w _ (64 * w + k) (omega (arith, low.below)) l ∙ ap (bit_at (without_lowest (slice_index xs w))) place ∙ lowest_here low

taken_other : (xs : List ℕ) (w k j : ℕ) → w < length xs → IsLowest (slice_index xs w) k → j ≢ 64 * w + k → bit (taken_words xs w) j ≡ bit xs j
taken_other xs w k j l low d = elim (cases_eq (j / 64) w) [
  | inl e ↦ replaced_bit xs w _ j e l ∙ lowest_other low (j % 64) (λ z. d (omega arith)) ∙ ap (λ v. bit_at (slice_index xs v) (j % 64)) (sym e)
  | inr n ↦ kept_bit xs w _ j n
]

-- the lowest bit of word w is set, and none before it in the word
lowest_at : (xs : List ℕ) (w k : ℕ) → IsLowest (slice_index xs w) k → (bit xs (64 * w + k) ≡ 1) × ((i : ℕ) → 64 * w ≤ i → i < 64 * w + k → bit xs i ≡ 0)
lowest_at xs w k low =
    let word : (64 * w + k) / 64 ≡ w = omega (arith, low.below) in
    let place : (64 * w + k) % 64 ≡ k = omega (arith, low.below) in (
      ap (λ v. bit_at (slice_index xs v) ((64 * w + k) % 64)) word ∙ ap (bit_at (slice_index xs w)) place ∙ low.one,
      λ i g l. (let same : i / 64 ≡ w = omega (arith, low.below) in ap (λ v. bit_at (slice_index xs v) (i % 64)) same ∙ low.before (i % 64) (omega arith)),
    )

-- a word that is 0 has no bit, so one with a bit is not 0
zero_word : (xs : List ℕ) (j : ℕ) → slice_index xs (j / 64) ≡ 0 → bit xs j ≡ 0
zero_word xs j z = ap (λ v. bit_at v (j % 64)) z ∙ bit_at-zero (j % 64)

-- one mark more, or less
marks_set : (n : ℕ) (f g : ℕ → ℕ) (j v : ℕ) → j < n → g j ≡ v → ((k : ℕ) → k ≢ j → g k ≡ f k) → list_of n g ≡ slice_set (list_of n f) j v
marks_set n f g j v l here others =
    list_equal n _ _ (length_list_of n g) (length-set (list_of n f) j v ∙ length_list_of n f) (λ k lk. at_list_of n g k lk ∙
    elim (cases_eq k j) [
      | inl e ↦ ap g e ∙ here ∙ sym (ap (slice_index (slice_set (list_of n f) j v)) e ∙ get_or-set_same (list_of n f) j v 0 (omega (arith, length_list_of n f)))
      | inr d ↦ others k d ∙ sym (get_or-set_other (list_of n f) j k v 0 d ∙ at_list_of n f k lk)
    ])

pub marked : (n : ℕ) (words : List ℕ) (j word : ℕ) → n ≤ 64 * length words → j < n → word ≡ slice_index words (j / 64) →
    marks_of n (slice_set words (j / 64) (with_bit word (j % 64))) ≡ slice_set (marks_of n words) j 1
marked n words j word long l e = subst (λ v. marks_of n (slice_set words (j / 64) (with_bit v (j % 64))) ≡ slice_set (marks_of n words) j 1) (sym e)
    (marks_set n (bit words) (bit (marked_words words j)) j 1 l (set_here words j (omega arith)) (λ k d. set_other words j k (omega arith) d))

marked_inside : {n : ℕ} {words tops : List ℕ} {first : ℕ} → IsMarks n words tops first → (j : ℕ) → j < n → (k : ℕ) → bit (marked_words words j) k ≡ 1 → k < n
marked_inside {n} {words} m j l k one = elim (cases_eq k j) [
  | inl e ↦ omega arith
  | inr d ↦ m.inside k (sym (set_other words j k (omega (arith, m.long)) d) ∙ one)
]

-- a bit is set in a word that has one
pub mark_more : {n : ℕ} {words tops : List ℕ} {first : ℕ} → IsMarks n words tops first → (j word : ℕ) → j < n → word ≡ slice_index words (j / 64) → word ≢ 0 →
    IsMarks n (slice_set words (j / 64) (with_bit word (j % 64))) tops first
mark_more {n} {words} {tops} {first} m j word l e some = subst (λ v. IsMarks n (slice_set words (j / 64) (with_bit v (j % 64))) tops first) (sym e) (record {
  long = omega (arith, m.long, same);
  inside = marked_inside m j l;
  covered = record {
    long = omega (arith, m.covered.long, same);
    raised = λ w n. elim (cases_eq w (j / 64)) [
      | inl is ↦ m.covered.raised w (λ z. some (e ∙ ap (slice_index words) (sym is) ∙ z))
      | inr d ↦ m.covered.raised w (λ z. n (get_or-set_other words (j / 64) w _ 0 d ∙ z))
    ];
    inside = λ w one. omega (arith, m.covered.inside w one, same);
  };
  present = omega (arith, m.present, same);
  behind = λ w lw. get_or-set_other words (j / 64) w _ 0 (λ is. some (e ∙ ap (slice_index words) (sym is) ∙ m.behind w lw)) ∙ m.behind w lw;
})
  where
    same : length (marked_words words j) ≡ length words
    same = length-set words (j / 64) (with_bit (slice_index words (j / 64)) (j % 64))

-- the first bit of a word
pub mark_first : {n : ℕ} {words tops : List ℕ} {first : ℕ} → IsMarks n words tops first → (j word top start : ℕ) → j < n → word ≡ slice_index words (j / 64) →
    top ≡ slice_index tops (j / 64 / 64) → start ≤ first → start ≤ j / 64 →
    IsMarks n (slice_set words (j / 64) (with_bit word (j % 64))) (slice_set tops (j / 64 / 64) (with_bit top (j / 64 % 64))) start
mark_first {n} {words} {tops} {first} m j word top start l e f a b =
    subst (λ v. IsMarks n (slice_set words (j / 64) (with_bit v (j % 64))) (slice_set tops (j / 64 / 64) (with_bit top (j / 64 % 64))) start) (sym e)
    (subst (λ t. IsMarks n (marked_words words j) (slice_set tops (j / 64 / 64) (with_bit t (j / 64 % 64))) start) (sym f) (record {
      long = omega (arith, m.long, same);
      inside = marked_inside m j l;
      covered = record {
        long = omega (arith, m.covered.long, same, length-set tops (j / 64 / 64) (with_bit (slice_index tops (j / 64 / 64)) (j / 64 % 64)));
        raised = λ w n. elim (cases_eq w (j / 64)) [
          | inl is ↦ ap (bit (marked_words tops (j / 64))) is ∙ set_here tops (j / 64) top_in
          | inr d ↦ set_other tops (j / 64) w top_in d ∙ m.covered.raised w (λ z. n (get_or-set_other words (j / 64) w _ 0 d ∙ z))
        ];
        inside = λ w one. elim (cases_eq w (j / 64)) [
          | inl is ↦ omega (arith, m.long, same)
          | inr d ↦ omega (arith, m.covered.inside w (sym (set_other tops (j / 64) w top_in d) ∙ one), same)
        ];
      };
      present = omega (arith, m.long, same);
      behind = λ w lw. get_or-set_other words (j / 64) w _ 0 (λ z. absurd (omega arith)) ∙ m.behind w (omega arith);
    }))
  where
    same : length (marked_words words j) ≡ length words
    same = length-set words (j / 64) (with_bit (slice_index words (j / 64)) (j % 64))

    top_in : j / 64 / 64 < length tops
    top_in = omega (arith, m.long, m.covered.long)

-- from top t on the first word that is not 0 is looked for
pub record IsSeeking (words tops : List ℕ) (t : ℕ) : Type 0 where
  pub covered : AreTops words tops
  pub behind : (w : ℕ) → w < 64 * t → slice_index words w ≡ 0

-- the word of its lowest bit is there, and those before it are 0
pub sought : {words tops : List ℕ} {t : ℕ} → IsSeeking words tops t → (top k : ℕ) → top ≡ slice_index tops t → IsLowest top k →
    (64 * t + k < length words) × ((v : ℕ) → v < 64 * t + k → slice_index words v ≡ 0)
sought {words} {tops} {t} s top k e low = (
  s.covered.inside (64 * t + k) at.0,
  λ v l. elim (cases_lt v (64 * t)) [
    | inl less ↦ s.behind v less
    | inr ge ↦ elim (cases_eq (slice_index words v) 0) [
      | inl is ↦ is
      | inr some ↦ absurd (omega (arith, s.covered.raised v some, at.1 v ge l))
    ]
  ],
)
  where
    at : (bit tops (64 * t + k) ≡ 1) × ((i : ℕ) → 64 * t ≤ i → i < 64 * t + k → bit tops i ≡ 0)
    at = lowest_at tops t k (subst (λ v. IsLowest v k) e low)

-- if it is 0 the bit is cleared
pub cleared : {words tops : List ℕ} {t : ℕ} → IsSeeking words tops t → (top k : ℕ) → t < length tops → top ≡ slice_index tops t → IsLowest top k → slice_index words (64 * t + k) ≡ 0 →
    IsSeeking words (slice_set tops t (without_lowest top)) t
cleared {words} {tops} {t} s top k l e low z = subst (λ v. IsSeeking words (slice_set tops t (without_lowest v)) t) (sym e) (record {
  covered = record {
    long = omega (arith, s.covered.long, length-set tops t (without_lowest (slice_index tops t)));
    raised = λ w some. taken_other tops t k w l lowest (λ is. some (ap (slice_index words) is ∙ z)) ∙ s.covered.raised w some;
    inside = λ w one. elim (cases_eq w (64 * t + k)) [
      | inl is ↦ absurd (omega (arith, ap (bit (taken_words tops t)) is, taken_here tops t k l lowest, one))
      | inr d ↦ s.covered.inside w (sym (taken_other tops t k w l lowest d) ∙ one)
    ];
  };
  behind = s.behind;
})
  where
    lowest : IsLowest (slice_index tops t) k
    lowest = subst (λ v. IsLowest v k) e low

-- where it isn't it is the first
pub sought_first : {words tops : List ℕ} {t : ℕ} → IsSeeking words tops t → (top k : ℕ) → top ≡ slice_index tops t → IsLowest top k → slice_index words (64 * t + k) ≢ 0 → IsFirstWord words (64 * t + k)
sought_first s top k e low some = let found = sought s top k e low in record { inside = found.0; some = some; before = found.1 }

-- word w, which is 0 before, has its lowest mark in the first marked column
pub first_column : {words : List ℕ} {w : ℕ} → IsFirstWord words w → (word k : ℕ) → word ≡ slice_index words w → IsLowest word k →
    (bit words (64 * w + k) ≡ 1) × ((i : ℕ) → i < 64 * w + k → bit words i ≡ 0)
first_column {words} {w} f word k e low = (
  at.0,
  λ i l. elim (cases_lt i (64 * w)) [ inl less ↦ zero_word words i (f.before (i / 64) (omega arith)) | inr ge ↦ at.1 i ge l ],
)
  where
    at : (bit words (64 * w + k) ≡ 1) × ((i : ℕ) → 64 * w ≤ i → i < 64 * w + k → bit words i ≡ 0)
    at = lowest_at words w k (subst (λ v. IsLowest v k) e low)

-- it is taken
pub first_taken : {n w : ℕ} {words old : List ℕ} → marks_of n words ≡ old → ((j : ℕ) → bit words j ≡ 1 → j < n) → IsFirstWord words w → (word k : ℕ) → word ≡ slice_index words w → IsLowest word k →
    TakesFirst old (marks_of n (slice_set words w (without_lowest word))) (64 * w + k) 1
first_taken {n} {w} {words} {old} is_old inside f word k e low =
    subst (λ xs. TakesFirst xs (marks_of n (slice_set words w (without_lowest word))) j 1) is_old
    (subst (λ v. TakesFirst (marks_of n words) (marks_of n (slice_set words w (without_lowest v))) j 1) (sym e) (record {
      inside = omega (arith, length_list_of n (bit words), column);
      value = sym (at_list_of n (bit words) j column ∙ at.0);
      nonzero = λ z. absurd (omega arith);
      before = λ i l. at_list_of n (bit words) i (omega (arith, column)) ∙ at.1 i l;
      after = marks_set n (bit words) (bit (taken_words words w)) j 0 column (taken_here words w k f.inside lowest) (λ i d. taken_other words w k i f.inside lowest d);
    }))
  where
    j : ℕ
    j = 64 * w + k

    lowest : IsLowest (slice_index words w) k
    lowest = subst (λ v. IsLowest v k) e low

    at : (bit words j ≡ 1) × ((i : ℕ) → i < j → bit words i ≡ 0)
    at = first_column f word k e low

    column : j < n
    column = inside j at.0

pub marks_taken : {n w : ℕ} {words tops old : List ℕ} {first : ℕ} → IsMarks n words old first → AreTops words tops → IsFirstWord words w → (word k : ℕ) → word ≡ slice_index words w → IsLowest word k →
    IsMarks n (slice_set words w (without_lowest word)) tops w
marks_taken {n} {w} {words} {tops} m t f word k e low = subst (λ v. IsMarks n (slice_set words w (without_lowest v)) tops w) (sym e) (record {
  long = omega (arith, m.long, same);
  inside = λ j one. elim (cases_eq j (64 * w + k)) [
    | inl is ↦ absurd (omega (arith, ap (bit (taken_words words w)) is, taken_here words w k f.inside lowest, one))
    | inr d ↦ m.inside j (sym (taken_other words w k j f.inside lowest d) ∙ one)
  ];
  covered = record {
    long = omega (arith, t.long, same);
    raised = λ v some. elim (cases_eq v w) [
      | inl is ↦ t.raised v (λ z. f.some (ap (slice_index words) (sym is) ∙ z))
      | inr d ↦ t.raised v (λ z. some (get_or-set_other words w v _ 0 d ∙ z))
    ];
    inside = λ v one. omega (arith, t.inside v one, same);
  };
  present = omega (arith, f.inside, same);
  behind = λ v l. get_or-set_other words w v _ 0 (λ z. absurd (omega arith)) ∙ f.before v l;
})
  where
    lowest : IsLowest (slice_index words w) k
    lowest = subst (λ v. IsLowest v k) e low

    same : length (taken_words words w) ≡ length words
    same = length-set words w (without_lowest (slice_index words w))

-- where no word has a bit nothing is marked
pub none_marked : (n : ℕ) (words : List ℕ) → AllZero words → AllZero (marks_of n words)
none_marked n words none = λ j l. at_list_of n (bit words) j (omega (arith, length_list_of n (bit words))) ∙ zero_word words j (
    elim (cases_lt (j / 64) (length words)) [ inl inside ↦ none (j / 64) inside | inr past ↦ get_or_past words (j / 64) 0 past ])

-- zeros alone
zeros_read : (m k : ℕ) → slice_index (replicate m 0) k ≡ 0
zeros_read m k = elim (cases_lt k m) [ inl l ↦ get_or-replicate m k 0 0 l | inr g ↦ get_or_past (replicate m 0) k 0 (omega (arith, length-replicate {A = ℕ} m 0)) ]

pub no_marks_list : (n m : ℕ) (words : List ℕ) → words ≡ replicate m 0 → AllZero (marks_of n words)
no_marks_list n m words e = none_marked n words (λ w l. ap (λ xs. slice_index xs w) e ∙ zeros_read m w)

pub marks_length : (n : ℕ) (words : List ℕ) → length (marks_of n words) ≡ n
marks_length n words = length_list_of n (bit words)

pub new_marks : (n : ℕ) (words tops : List ℕ) → words ≡ replicate (n / 64 + 1) 0 → tops ≡ replicate (n / 64 / 64 + 1) 0 → IsMarks n words tops (n / 64)
new_marks n words tops e f = record {
  long = omega (arith, lw);
  inside = λ j one. absurd (omega (arith, zero_word words j (none (j / 64)), one));
  covered = record {
    long = omega (arith, lw, lt);
    raised = λ w some. absurd (some (none w));
    inside = λ w one. absurd (omega (arith, zero_word tops w (ap (λ xs. slice_index xs (w / 64)) f ∙ zeros_read (n / 64 / 64 + 1) (w / 64)), one));
  };
  present = omega (arith, lw);
  behind = λ w l. none w;
}
  where
    lw : length words ≡ n / 64 + 1
    lw = ap length e ∙ length-replicate {A = ℕ} (n / 64 + 1) 0

    lt : length tops ≡ n / 64 / 64 + 1
    lt = ap length f ∙ length-replicate {A = ℕ} (n / 64 / 64 + 1) 0

    none : (w : ℕ) → slice_index words w ≡ 0
    none w = ap (λ xs. slice_index xs w) e ∙ zeros_read (n / 64 + 1) w
