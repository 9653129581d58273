-- A row that is divided by its first entry, and cleared behind it or at the taken columns.
use Rattle.std.proofs.Common.{ℕ, ◌≡◌, ◌≢◌, ◌+◌, ◌*◌, ◌%◌, ◌<◌, ◌≤◌, Bool, true, false, inl, inr, List, length, slice_index, slice_index_or, slice_set, sym, refl, ap, ◌∙◌, arith, subst, one-mul, mul-zero, zero-add, mod-eq_of_lt, mod-lt}
use Rattle.std.proofs.lemmas.Bool.{cases_eq, cases_lt}
use Rattle.std.proofs.lemmas.List.{get_or-set_same, get_or-set_other}
use Rattle.std.proofs.lemmas.Nat.{mul-mod_second}
use Rattle.residue_words.specs.Matrix.{IsVector, zeros}
use Rattle.residue_words.specs.Residues.{IsPrime}
use Rattle.residue_words.proofs.Residues.{mul_same}
use Rattle.residue_words.proofs.Vectors.{at_zeros, length_list_of}
use Rattle.dense_rows.specs.Dense.{ClearsTaken, IsFirstFree, IsPivotOf, KeepsCoefficients}
use Rattle.dense_rows.specs.Multiples.{IsChangedFrom, plus_at}
use Rattle.dense_rows.proofs.TakingOut.{vector_set}

-- w is v, cleared before column j
pub record IsClearing (p n c : ℕ) (taken : List Bool) (v : List ℕ) (j : ℕ) (w : List ℕ) : Type 0 where
  pub vector : IsVector p n w
  pub lead : slice_index w c ≡ slice_index v c
  pub kept : (x : ℕ) → x < n → slice_index_or taken x false ≡ true → slice_index w x ≡ slice_index v x
  pub clear : (x : ℕ) → x < j → x ≢ c → slice_index_or taken x false ≡ false → slice_index w x ≡ 0

pub clearing_none : {p n c : ℕ} {taken : List Bool} {v : List ℕ} → IsVector p n v → IsFirstFree v taken c → IsClearing p n c taken v (c + 1) v
clearing_none vector first = record {
  vector = vector;
  lead = refl;
  kept = λ x l t. refl;
  clear = λ x l d f. first.before x (omega arith) f;
}

-- column j is cleared, which is not taken
pub clearing_more : {p n c : ℕ} {taken : List Bool} {v : List ℕ} {j : ℕ} {w : List ℕ} → 0 < p → c < j → j < n → IsClearing p n c taken v j w → slice_index_or taken j false ≡ false →
    IsClearing p n c taken v (j + 1) (slice_set w j 0)
clearing_more {p} {n} {c} {taken} {v} {j} {w} pos past inside h free = record {
  vector = vector_set j 0 pos h.vector;
  lead = get_or-set_other w j c 0 0 (omega arith) ∙ h.lead;
  kept = λ x l t. get_or-set_other w j x 0 0 (λ same. let no : true ≡ false = sym t ∙ ap (λ k. slice_index_or taken k false) same ∙ free in cc) ∙ h.kept x l t;
  clear = λ x l d f. elim (cases_eq x j) [
    | inl e ↦ ap (slice_index (slice_set w j 0)) e ∙ get_or-set_same w j 0 0 (omega (arith, h.vector.len))
    | inr o ↦ get_or-set_other w j x 0 0 o ∙ h.clear x (omega arith) d f
  ];
}

-- or left, which is taken
pub clearing_over : {p n c : ℕ} {taken : List Bool} {v : List ℕ} {j : ℕ} {w : List ℕ} → IsClearing p n c taken v j w → slice_index_or taken j false ≡ true → IsClearing p n c taken v (j + 1) w
clearing_over {p} {n} {c} {taken} {v} {j} {w} h taken_here = record {
  vector = h.vector;
  lead = h.lead;
  kept = h.kept;
  clear = λ x l d f. elim (cases_eq x j) [
    | inl e ↦ let no : true ≡ false = sym taken_here ∙ ap (λ k. slice_index_or taken k false) (sym e) ∙ f in cc
    | inr o ↦ h.clear x (omega arith) d f
  ];
}

pub clearing_all : {p c : ℕ} {taken : List Bool} {v : List ℕ} {j : ℕ} {w : List ℕ} → length v ≤ j → IsClearing p (length v) c taken v j w → KeepsCoefficients p c taken v w
clearing_all le h = record {
  vector = h.vector;
  lead = h.lead;
  kept = h.kept;
  clear = λ x l d f. h.clear x (omega arith) d f;
}

-- no column from `from` on is taken
pub clears_none : {p from : ℕ} {taken : List Bool} {v : List ℕ} → IsVector p (length v) v → ((j : ℕ) → from ≤ j → slice_index_or taken j false ≡ false) → ClearsTaken p from taken v v
clears_none {p} {from} {taken} {v} vector none = record {
  vector = vector;
  clear = λ j le l t. let no : true ≡ false = sym t ∙ none j le in cc;
  before = λ j l. refl;
  free = λ j f. refl;
}

-- or none behind column c, so that all there are cleared
pub kept_alone : {p c : ℕ} {taken : List Bool} {v w : List ℕ} → 0 < p → IsVector p (length v) v → IsFirstFree v taken c → ((j : ℕ) → c + 1 ≤ j → slice_index_or taken j false ≡ false) →
    IsChangedFrom (λ j. 0) v (c + 1) w → KeepsCoefficients p c taken v w
kept_alone {p} {c} {taken} {v} {w} pos residues first none h = record {
  vector = record {
    len = h.long;
    residues = λ j l. elim (cases_lt j (c + 1)) [
      | inl less ↦ omega (arith, h.kept j less, residues.residues j l)
      | inr more ↦ omega (arith, h.changed j more l)
    ];
  };
  lead = h.kept c (omega arith);
  kept = λ j l t. elim (cases_lt j (c + 1)) [
    | inl less ↦ h.kept j less
    | inr more ↦ let no : true ≡ false = sym t ∙ none j more in cc
  ];
  clear = λ j l d f. elim (cases_lt j (c + 1)) [
    | inl less ↦ h.kept j less ∙ first.before j (omega arith) f
    | inr more ↦ h.changed j more l
  ];
}

-- w is v, cleared at the taken columns from `from` on and before column j
pub record IsClearingTaken (p from : ℕ) (taken : List Bool) (v : List ℕ) (j : ℕ) (w : List ℕ) : Type 0 where
  pub vector : IsVector p (length v) w
  pub clear : (x : ℕ) → from ≤ x → x < j → slice_index_or taken x false ≡ true → slice_index w x ≡ 0
  pub before : (x : ℕ) → x < from → slice_index w x ≡ slice_index v x
  pub free : (x : ℕ) → slice_index_or taken x false ≡ false → slice_index w x ≡ slice_index v x

pub clearing_taken_none : {p from : ℕ} {taken : List Bool} {v : List ℕ} → IsVector p (length v) v → IsClearingTaken p from taken v from v
clearing_taken_none vector = record { vector = vector; clear = λ x le l t. absurd (omega arith); before = λ x l. refl; free = λ x f. refl }

pub clearing_taken_more : {p from : ℕ} {taken : List Bool} {v : List ℕ} {j : ℕ} {w : List ℕ} → 0 < p → from ≤ j → j < length v → IsClearingTaken p from taken v j w → slice_index_or taken j false ≡ true →
    IsClearingTaken p from taken v (j + 1) (slice_set w j 0)
clearing_taken_more {p} {from} {taken} {v} {j} {w} pos past inside h here = record {
  vector = vector_set j 0 pos h.vector;
  clear = λ x le l t. elim (cases_eq x j) [
    | inl e ↦ ap (slice_index (slice_set w j 0)) e ∙ get_or-set_same w j 0 0 (omega (arith, h.vector.len))
    | inr o ↦ get_or-set_other w j x 0 0 o ∙ h.clear x le (omega arith) t
  ];
  before = λ x l. get_or-set_other w j x 0 0 (omega arith) ∙ h.before x l;
  free = λ x f. get_or-set_other w j x 0 0 (λ same. let no : true ≡ false = sym here ∙ ap (λ k. slice_index_or taken k false) (sym same) ∙ f in cc) ∙ h.free x f;
}

pub clearing_taken_over : {p from : ℕ} {taken : List Bool} {v : List ℕ} {j : ℕ} {w : List ℕ} → IsClearingTaken p from taken v j w → slice_index_or taken j false ≡ false → IsClearingTaken p from taken v (j + 1) w
clearing_taken_over {p} {from} {taken} {v} {j} {w} h free = record {
  vector = h.vector;
  clear = λ x le l t. elim (cases_eq x j) [
    | inl e ↦ let no : true ≡ false = sym t ∙ ap (λ k. slice_index_or taken k false) e ∙ free in cc
    | inr o ↦ h.clear x le (omega arith) t
  ];
  before = h.before;
  free = h.free;
}

pub clearing_taken_all : {p from : ℕ} {taken : List Bool} {v : List ℕ} {j : ℕ} {w : List ℕ} → length v ≤ j → IsClearingTaken p from taken v j w → ClearsTaken p from taken v w
clearing_taken_all le h = record { vector = h.vector; clear = λ x past l t. h.clear x past (omega arith) t; before = h.before; free = h.free }

-- q is 1 at column c, 0 before it, and v times `factor` behind it
pub record IsScaledFrom (p c factor : ℕ) (v q : List ℕ) : Type 0 where
  pub vector : IsVector p (length v) q
  pub one : slice_index q c ≡ 1
  pub before : (x : ℕ) → x < c → slice_index q x ≡ 0
  pub scaled : (x : ℕ) → c < x → x < length v → slice_index q x ≡ (factor * slice_index v x) % p

-- v times `factor` is added to zeros
pub scaled_from : {p c factor n : ℕ} {v z q w : List ℕ} → 2 ≤ p → c < length v → n ≡ length v → z ≡ zeros n → IsChangedFrom (plus_at p factor z v) z c q → w ≡ slice_set q c 1 → IsScaledFrom p c factor v w
scaled_from {p} {c} {factor} {n} {v} {z} {q} {w} two inside wide none h is =
    let size : length z ≡ length v = ap length none ∙ length_list_of n (λ j. 0) ∙ wide in
    let zero_at : (x : ℕ) → x < length v → slice_index z x ≡ 0 = λ x l. ap (λ l. slice_index l x) none ∙ at_zeros n x (omega arith) in
    let below : (x : ℕ) → x < c → slice_index q x ≡ 0 = λ x l. h.kept x l ∙ zero_at x (omega arith) in
    let times : (x : ℕ) → c ≤ x → x < length v → slice_index q x ≡ (factor * slice_index v x) % p =
    λ x le l. h.changed x le (omega arith) ∙ ap (λ t. (t + factor * slice_index v x) % p) (zero_at x l) ∙ ap (λ t. t % p) (zero-add (factor * slice_index v x)) in
    let vector : IsVector p (length v) q = record {
      len = h.long ∙ size;
      residues = λ x l. elim (cases_lt x c) [
        | inl less ↦ omega (arith, below x less)
        | inr more ↦ let rest : (factor * slice_index v x) % p < p = mod-lt (factor * slice_index v x) (omega arith) in omega (arith, times x more l)
      ];
    } in
    record {
      vector = rw is (vector_set c 1 (omega arith) vector);
      one = ap (λ l. slice_index l c) is ∙ get_or-set_same q c 1 0 (omega (arith, vector.len));
      before = λ x l. ap (λ l. slice_index l x) is ∙ get_or-set_other q c x 1 0 (omega arith) ∙ below x l;
      scaled = λ x past l. ap (λ l. slice_index l x) is ∙ get_or-set_other q c x 1 0 (omega arith) ∙ times x (omega arith) l;
    }

-- a times f x is x where a f is one
divided_back : (p a f x : ℕ) → 2 ≤ p → (a * f) % p ≡ 1 → x % p ≡ (a * ((f * x) % p)) % p
divided_back p a f x two one =
    let turn : a * (f * x) ≡ (a * f) * x = omega arith in
    sym (mul-mod_second a (f * x) p ∙ ap (λ t. t % p) turn ∙ mul_same p (a * f) 1 x x (one ∙ sym (mod-eq_of_lt (omega arith))) refl ∙ ap (λ t. t % p) (one-mul x))

-- and cleared at the taken columns behind c
pub divided : {p c factor : ℕ} {taken : List Bool} {v q w : List ℕ} → 2 ≤ p → IsFirstFree v taken c → (IsPrime p → (slice_index v c * factor) % p ≡ 1) → IsScaledFrom p c factor v q →
    ClearsTaken p (c + 1) taken q w → IsPivotOf p c taken v w
divided {p} {c} {factor} {taken} {v} {q} {w} two first inverse h e = record {
  vector = subst (λ n. IsVector p n w) h.vector.len e.vector;
  one = e.free c first.free ∙ h.one;
  before = λ j l. e.before j (omega arith) ∙ h.before j l;
  clear = λ j l t. elim (cases_lt j (c + 1)) [
    | inl less ↦ elim (cases_eq j c) [
      | inl same ↦ let no : true ≡ false = sym t ∙ ap (λ k. slice_index_or taken k false) same ∙ first.free in cc
      | inr o ↦ e.before j less ∙ h.before j (omega arith)
    ]
    | inr more ↦ e.clear j more (omega (arith, h.vector.len)) t
  ];
  scaled = λ prime j l d f. elim (cases_lt j c) [
    | inl less ↦
        ap (λ t. t % p) (first.before j less f) ∙ sym (ap (λ t. (slice_index v c * t) % p) (e.free j f ∙ h.before j less) ∙ ap (λ t. t % p) (mul-zero (slice_index v c)))
    | inr more ↦
        divided_back p (slice_index v c) factor (slice_index v j) two (inverse prime)
        ∙ ap (λ t. (slice_index v c * t) % p) (sym (e.free j f ∙ h.scaled j (omega arith) l))
  ];
}
