-- Sums that are reduced late.
use Rattle.std.proofs.Common.{Vec, ℕ, ◌≡◌, ◌≢◌, ◌+◌, ◌*◌, ◌/◌, ◌%◌, ◌<◌, ◌≤◌, ◌⊎◌, List, leb, length, replicate, slice_index, slice_set, inl, inr, sym, refl, ap, subst, ◌∙◌, arith, mod-eq_of_lt, one-mul}
use Rattle.std.specs.Vec.{with_items}
use native.Mathlib.Nat.{mod-mod}
use Rattle.std.proofs.Math.Nat.{add-mul-mod_self_right}
use Rattle.std.proofs.Math.Seq.{map-set_same}
use Rattle.std.proofs.lemmas.Nat.{le-div, mul-le, mul-lt}
use Rattle.std.proofs.lemmas.List.{length-set, length-map, get_or-map, get_or-set_same, get_or-set_other, get_or-replicate, length-replicate, map-set, with_items_is}
use Rattle.std.proofs.lemmas.Bool.{cases_eq, cases_lt, cond-true, cond-false, le-leb, lt-leb}
use Rattle.residue_words.specs.Matrix.{IsVector, zeros}
use Rattle.residue_words.proofs.Residues.{add_same}
use Rattle.residue_words.proofs.Vectors.{at_zeros, length_list_of, list_equal}
use Rattle.sparse_rows.specs.ColumnSet.{AllZero, TakesFirst}
use Rattle.sparse_rows.specs.Rows.{AddsAt, ResidueRow}
use Rattle.lead_rows.specs.Accumulator.{AddsBelow, AreLimited, AreTouched, IsAccumulator, limit_of, residues_of}
use Rattle.lead_rows.proofs.Touched.{IsTop, touched_mark, touched_set}

-- a row with its modulus
abbrev pub as_row : ℕ → List ℕ → ResidueRow
as_row p v = record { modulus = p; row = v }

-- the limit of a small p, and of another
limit_small : (p : ℕ) → p < 2147483648 → limit_of p ≡ 9223372036854775808 / p * p
limit_small p l = cond-false (leb 2147483648 p) p _ (lt-leb 2147483648 p l)

limit_large : (p : ℕ) → 2147483648 ≤ p → limit_of p ≡ p
limit_large p l = cond-true (leb 2147483648 p) p _ (le-leb 2147483648 p l)

pub limit_is : (p : ℕ) → (p < 2147483648 → 9223372036854775808 / p * p ≡ limit_of p) × (2147483648 ≤ p → p ≡ limit_of p)
limit_is p = ((λ l. sym (limit_small p l)), (λ l. sym (limit_large p l)))

-- it is a multiple of p
limit_multiple : (p : ℕ) → (q : ℕ) × (limit_of p ≡ q * p)
limit_multiple p = elim (cases_lt p 2147483648) [
  | inl l ↦ (9223372036854775808 / p, limit_small p l)
  | inr g ↦ (1, limit_large p (omega arith) ∙ sym (one-mul p))
]

-- within the room
pub limit_room : (p : ℕ) → 2 ≤ p → p < 281474976710656 → limit_of p ≤ 9223372036854775808
limit_room p two high = elim (cases_lt p 2147483648) [
  | inl l ↦ let small = limit_small p l in let most : 9223372036854775808 / p * p ≤ 9223372036854775808 = omega arith in omega arith
  | inr g ↦ let large = limit_large p (omega arith) in omega arith
]

-- above each residue
pub limit_above : (p : ℕ) → 2 ≤ p → p ≤ limit_of p
limit_above p two = elim (cases_lt p 2147483648) [
  | inl l ↦
      let fits : 1 ≤ 9223372036854775808 / p = le-div 1 9223372036854775808 p (omega arith) (omega arith) in
      let one : 1 * p ≤ 9223372036854775808 / p * p = mul-le 1 p (9223372036854775808 / p) p fits (omega arith) in
      let small = limit_small p l in omega arith
  | inr g ↦ let large = limit_large p (omega arith) in omega arith
]

-- and, for a small p, above products of residues
pub limit_products : (p a b : ℕ) → p < 2147483648 → a < p → b < p → a * b < limit_of p
limit_products p a b small la lb =
    let product : a * b < p * p = mul-lt a b p p la lb in
    let square : p * p < 2147483648 * 2147483648 = mul-lt p p 2147483648 2147483648 small small in
    let fits : p ≤ 9223372036854775808 / p = le-div p 9223372036854775808 p (omega arith) (omega arith) in
    let most : p * p ≤ 9223372036854775808 / p * p = mul-le p p (9223372036854775808 / p) p fits (omega arith) in
    let is = limit_small p small in
    omega arith

-- less the limit it is the same modulo p
lowered_same : (p sum total : ℕ) → (sum ≡ total) ⊎ (sum + limit_of p ≡ total) → sum % p ≡ total % p
lowered_same p sum total e = elim e [
  | inl same ↦ ap (λ t. t % p) same
  | inr less ↦ let m = limit_multiple p in sym (add-mul-mod_self_right sum m.0 p) ∙ ap (λ t. (sum + t) % p) (sym m.1) ∙ ap (λ t. t % p) less
]

-- the residue at a column
pub residue_at : (p : ℕ) (sums : List ℕ) (j : ℕ) → j < length sums → slice_index (residues_of p sums) j ≡ slice_index sums j % p
residue_at p sums j l = get_or-map (λ s. s % p) sums j 0 0 l

pub residues_length : (p : ℕ) (sums : List ℕ) → length (residues_of p sums) ≡ length sums
residues_length p sums = length-map sums (λ (s : ℕ). s % p)

pub residues_vector : (p : ℕ) (sums : List ℕ) → 0 < p → IsVector p (length (residues_of p sums)) (residues_of p sums)
residues_vector p sums pos = record {
  len = refl;
  residues = λ j l. let is : slice_index (residues_of p sums) j ≡ slice_index sums j % p = residue_at p sums j (omega (arith, residues_length p sums)) in omega arith;
}

-- a list of zeros alone is the zero row
pub all_zero : (n : ℕ) (xs : List ℕ) → length xs ≡ n → AllZero xs → xs ≡ zeros n
all_zero n xs e none = list_equal n xs (zeros n) e (length_list_of n (λ j. 0)) (λ j l. none j (omega arith) ∙ sym (at_zeros n j l))

-- sums of 0 have residues of 0
pub residues_zero : (p n : ℕ) (sums : List ℕ) → 0 < p → length sums ≡ n → AllZero sums → residues_of p sums ≡ zeros n
residues_zero p n sums pos e none = all_zero n (residues_of p sums) (residues_length p sums ∙ e) (λ j l.
    residue_at p sums j (omega (arith, residues_length p sums)) ∙ ap (λ x. x % p) (none j (omega (arith, residues_length p sums))) ∙ mod-eq_of_lt pos)

-- one sum is set
pub residues_set : (p : ℕ) (sums : List ℕ) (j sum r : ℕ) → sum % p ≡ r → residues_of p (slice_set sums j sum) ≡ slice_set (residues_of p sums) j r
residues_set p sums j sum r e = map-set (λ s. s % p) sums j sum ∙ ap (slice_set (residues_of p sums) j) e

-- a column of the row
pub column_inside : {p : ℕ} {old : ResidueRow} (sums : List ℕ) (j : ℕ) → as_row p (residues_of p sums) ≡ old → j < length old.row → j < length sums
column_inside {p} {old} sums j e l = omega (arith, l, ap (λ (r : ResidueRow). length r.row) e, residues_length p sums)

-- what an addition does to the residues
pub added : {p limit j v : ℕ} {old : ResidueRow} {sums next : List ℕ} → as_row p (residues_of p sums) ≡ old → AreLimited p limit sums → j < length sums → AddsBelow limit j v sums next →
    AddsAt j v old (as_row p (residues_of p next))
added {p} {limit} {j} {v} {old} {sums} {next} is_old limited l a = subst (λ r. AddsAt j v r (as_row p (residues_of p next))) is_old (record {
  modulus = refl;
  row = ap (residues_of p) a.after ∙ residues_set p sums j a.sum _
      (lowered_same p a.sum (slice_index sums j + v) (subst (λ m. (a.sum ≡ slice_index sums j + v) ⊎ (a.sum + m ≡ slice_index sums j + v)) limited.limit_is a.same) ∙ add_same p (slice_index sums j) (slice_index (residues_of p sums) j) v v
      (sym (mod-mod (slice_index sums j) p) ∙ ap (λ t. t % p) (sym (residue_at p sums j l))) refl);
})

-- the sums stay below the limit when one is set
pub limited_set : {p limit : ℕ} {sums : List ℕ} → AreLimited p limit sums → (j sum : ℕ) → sum < limit → AreLimited p limit (slice_set sums j sum)
limited_set {p} {limit} {sums} a j sum small = record {
  two_or_more = a.two_or_more;
  in_range = a.in_range;
  limit_is = a.limit_is;
  below = λ k l. elim (cases_eq k j) [
    | inl e ↦ let is : slice_index (slice_set sums j sum) k ≡ sum = ap (slice_index (slice_set sums j sum)) e ∙ get_or-set_same sums j sum 0 (omega (arith, length-set sums j sum)) in omega arith
    | inr d ↦
        let is : slice_index (slice_set sums j sum) k ≡ slice_index sums k = get_or-set_other sums j k sum 0 d in
        let low : slice_index sums k < limit = a.below k (omega (arith, length-set sums j sum)) in omega arith
  ];
}

-- or taken away
pub limited_zero : {p limit : ℕ} {sums : List ℕ} → AreLimited p limit sums → (c : ℕ) → AreLimited p limit (slice_set sums c 0)
limited_zero {p} {limit} {sums} a c = limited_set a c 0 (omega (arith, a.limit_is, a.two_or_more, limit_above p a.two_or_more))

-- or added to
pub limited_added : {p limit j v : ℕ} {sums next : List ℕ} → AreLimited p limit sums → AddsBelow limit j v sums next → AreLimited p limit next
limited_added {p} {limit} {j} {v} {sums} {next} a b = subst (AreLimited p limit) (sym b.after) (limited_set a j b.sum b.below)

-- as the sums stand in their Vec
pub added_in : {Z : Type 0} {limit j v : ℕ} {lent next : List ℕ} (sums : Vec ℕ Z) → lent ≡ sums.items → AddsBelow limit j v lent next → AddsBelow limit j v sums.items (with_items sums next).items
added_in {Z} {limit} {j} {v} {lent} {next} sums e a =
    let below : AddsBelow limit j v sums.items next = subst (λ xs. AddsBelow limit j v xs next) e a in
    subst (AddsBelow limit j v sums.items) (sym (with_items_is sums next (omega (arith, ap length below.after, length-set sums.items j below.sum, sums.ok.0)))) below

-- an entry is added at a column that was touched, or is touched now
pub accumulator_added : {p limit j v : ℕ} {sums marks next new : List ℕ} → IsAccumulator p limit sums marks → j < length sums → AddsBelow limit j v sums next →
    (new ≡ slice_set marks j 1) ⊎ ((slice_index sums j ≢ 0) × (new ≡ marks)) → IsAccumulator p limit next new
accumulator_added {p} {limit} {j} {v} {sums} {marks} {next} {new} a l b marked = record {
  limited = limited_added a.limited b;
  touched = subst (λ s. AreTouched s new) (sym b.after) (elim marked [
    | inl e ↦ let t = touched_mark a.touched j l in subst (AreTouched (slice_set sums j b.sum)) (sym e) (touched_set t.0 j b.sum l t.1)
    | inr m ↦ subst (AreTouched (slice_set sums j b.sum)) (sym m.1) (touched_set a.touched j b.sum l (a.touched.covers j l m.0))
  ]);
}

-- the first sum that is not 0 modulo p is taken
pub first_taken : {sums new : List ℕ} {c : ℕ} (p v : ℕ) → 0 < p → IsTop sums new c → v ≡ slice_index sums c % p → v ≢ 0 →
    TakesFirst (residues_of p sums) (residues_of p (slice_set sums c 0)) c v
first_taken {sums} {new} {c} p v pos top e some = record {
  inside = omega (arith, top.inside, residues_length p sums);
  value = e ∙ sym (residue_at p sums c top.inside);
  nonzero = some;
  before = λ j l. residue_at p sums j (omega (arith, top.inside)) ∙ ap (λ x. x % p) (top.before j l) ∙ mod-eq_of_lt pos;
  after = residues_set p sums c 0 0 (mod-eq_of_lt pos);
}

-- one that is 0 modulo p is left out
pub skipped : (sums : List ℕ) (c p v : ℕ) → 0 < p → v ≡ slice_index sums c % p → v ≡ 0 → residues_of p (slice_set sums c 0) ≡ residues_of p sums
skipped sums c p v pos e none = map-set_same (λ s. s % p) sums c 0 0 (mod-eq_of_lt pos ∙ sym none ∙ e)

-- and is 0 then
pub accumulator_zero : {p limit : ℕ} {sums marks new : List ℕ} → IsAccumulator p limit sums marks → (c : ℕ) → AreTouched (slice_set sums c 0) new → IsAccumulator p limit (slice_set sums c 0) new
accumulator_zero {p} {limit} {sums} {marks} {new} a c touched = record { limited = limited_zero a.limited c; touched = touched }

-- where all sums are 0 the residues are
pub residues_none : {p limit : ℕ} {sums : List ℕ} → AreLimited p limit sums → AllZero sums → AllZero (residues_of p sums)
residues_none {p} {limit} {sums} a none = λ j l.
    let inside : j < length sums = omega (arith, residues_length p sums) in
    residue_at p sums j inside ∙ ap (λ x. x % p) (none j inside) ∙ mod-eq_of_lt (omega (arith, a.two_or_more))

-- and they are the zero row
pub cleared : {p limit : ℕ} {sums : List ℕ} (old : ResidueRow) → AreLimited p limit sums → AllZero sums → p ≡ old.modulus → length sums ≡ length old.row →
    as_row p (residues_of p sums) ≡ as_row old.modulus (zeros (length old.row))
cleared {p} {limit} {sums} old a none e long =
    ap (as_row p) (residues_zero p (length old.row) sums (omega (arith, a.two_or_more)) long none) ∙ ap (λ q. as_row q (zeros (length old.row))) e

-- new sums are 0
pub new_zero : (n : ℕ) (sums : List ℕ) → sums ≡ replicate n 0 → (length sums ≡ n) × AllZero sums
new_zero n sums e = (long, λ j l. ap (λ xs. slice_index xs j) e ∙ get_or-replicate n j 0 0 (omega (arith, long)))
  where
    long : length sums ≡ n
    long = ap length e ∙ length-replicate {A = ℕ} n 0

pub new_limited : (p n : ℕ) (sums : List ℕ) → 2 ≤ p → p < 281474976710656 → sums ≡ replicate n 0 → AreLimited p (limit_of p) sums
new_limited p n sums two high e = record {
  two_or_more = two;
  in_range = high;
  limit_is = refl;
  below = λ j l. let z : slice_index sums j ≡ 0 = (new_zero n sums e).1 j l in let some : p ≤ limit_of p = limit_above p two in omega arith;
}

pub new_accumulator : (p n : ℕ) (sums marks : List ℕ) → 2 ≤ p → p < 281474976710656 → sums ≡ replicate n 0 → length marks ≡ n → IsAccumulator p (limit_of p) sums marks
new_accumulator p n sums marks two high e long = record {
  limited = new_limited p n sums two high e;
  touched = record { long = long ∙ sym (new_zero n sums e).0; covers = λ j l d. absurd (d ((new_zero n sums e).1 j l)) };
}

pub new_residues : (p n : ℕ) (sums : List ℕ) → 2 ≤ p → sums ≡ replicate n 0 → as_row p (residues_of p sums) ≡ as_row p (zeros n)
new_residues p n sums two e = let new = new_zero n sums e in ap (as_row p) (residues_zero p n sums (omega arith) new.0 new.1)
