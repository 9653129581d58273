-- Values that are put into a zero row, at ascending places.
use Rattle.std.proofs.Common.{ℕ, ◌≡◌, ◌+◌, ◌-◌, ◌<◌, ◌≤◌, inl, inr, List, length, slice_index, slice_set, sym, ap, ◌∙◌, arith}
use Rattle.std.proofs.lemmas.Bool.{cases_eq, cases_lt}
use Rattle.std.proofs.lemmas.List.{get_or-set_same, get_or-set_other, length-set}
use Rattle.residue_words.specs.Matrix.{zeros}
use Rattle.residue_words.proofs.Vectors.{at_zeros, length_list_of}
use Rattle.dense_rows.specs.Dense.{IsPut}

pub put_none : {n : ℕ} (name value : ℕ → ℕ) {v : List ℕ} → v ≡ zeros n → IsPut n 0 name value v
put_none {n} name value {v} is = record {
  long = ap length is ∙ length_list_of n (λ j. 0);
  put = λ k l. absurd (omega arith);
  others = λ x l no. ap (λ u. slice_index u x) is ∙ at_zeros n x l;
}

-- the first values are 0
pub put_zeros : (n m : ℕ) (name value : ℕ → ℕ) {v : List ℕ} → v ≡ zeros n → ((k : ℕ) → k < m → name k < n) → ((k : ℕ) → k < m → value k ≡ 0) → IsPut n m name value v
put_zeros n m name value {v} is inside none = record {
  long = ap length is ∙ length_list_of n (λ j. 0);
  put = λ k l. ap (λ u. slice_index u (name k)) is ∙ at_zeros n (name k) (inside k l) ∙ sym (none k l);
  others = λ x l no. ap (λ u. slice_index u x) is ∙ at_zeros n x l;
}

-- the row is 0 from the next place on
pub put_behind : {n m : ℕ} (name value : ℕ → ℕ) {v : List ℕ} → ((k : ℕ) → k < m → name k < name m) → IsPut n m name value v → (x : ℕ) → name m ≤ x → x < length v → slice_index v x ≡ 0
put_behind name value rising h x le l = h.others x (omega (arith, h.long)) (λ k lk same. omega (arith, rising k lk))

-- a value at the next place
pub put_more : {n m : ℕ} (name value : ℕ → ℕ) {v : List ℕ} (x : ℕ) → name m < n → ((k : ℕ) → k < m → name k < name m) → x ≡ value m → IsPut n m name value v →
    IsPut n (m + 1) name value (slice_set v (name m) x)
put_more {n} {m} name value {v} x inside rising is h = record {
  long = length-set v (name m) x ∙ h.long;
  put = λ k l. elim (cases_eq k m) [
    | inl e ↦ ap (λ t. slice_index (slice_set v (name m) x) (name t)) e ∙ get_or-set_same v (name m) x 0 (omega (arith, h.long)) ∙ is ∙ ap value (sym e)
    | inr d ↦ get_or-set_other v (name m) (name k) x 0 (λ same. omega (arith, rising k (omega arith))) ∙ h.put k (omega arith)
  ];
  others = λ y l no. get_or-set_other v (name m) y x 0 (λ same. no m (omega arith) (sym same)) ∙ h.others y l (λ k lk. no k (omega arith));
}

-- or 0, which stands there already
pub put_over : {n m : ℕ} (name value : ℕ → ℕ) {v : List ℕ} → name m < n → ((k : ℕ) → k < m → name k < name m) → value m ≡ 0 → IsPut n m name value v → IsPut n (m + 1) name value v
put_over {n} {m} name value {v} inside rising is h = record {
  long = h.long;
  put = λ k l. elim (cases_eq k m) [
    | inl e ↦ ap (λ t. slice_index v (name t)) e ∙ put_behind name value rising h (name m) (omega arith) (omega (arith, h.long)) ∙ sym is ∙ ap value (sym e)
    | inr d ↦ h.put k (omega arith)
  ];
  others = λ y l no. h.others y l (λ k lk. no k (omega arith));
}

-- the first places hold zeros, and those behind them what was put
pub put_from : {n m : ℕ} (from : ℕ) (name value : ℕ → ℕ) {v : List ℕ} → ((k t : ℕ) → k < t → t < from + m → name k < name t) → ((k : ℕ) → k < from → name k < n) →
    ((k : ℕ) → k < from → value k ≡ 0) → IsPut n m (λ k. name (from + k)) (λ k. value (from + k)) v → IsPut n (from + m) name value v
put_from {n} {m} from name value {v} rising inside none h = record {
  long = h.long;
  put = λ k l. elim (cases_lt k from) [
    | inl less ↦ h.others (name k) (inside k less) (λ j lj same. omega (arith, rising k (from + j) (omega arith) (omega arith))) ∙ sym (none k less)
    | inr past ↦
        let back : from + (k - from) ≡ k = omega arith in
        ap (λ t. slice_index v (name t)) (sym back) ∙ h.put (k - from) (omega arith) ∙ ap value back
  ];
  others = λ x l no. h.others x l (λ k lk. no (from + k) (omega arith));
}

-- the same places and values, told otherwise
pub put_same : {n m : ℕ} {name value : ℕ → ℕ} (other other_value : ℕ → ℕ) {v : List ℕ} → ((k : ℕ) → k < m → name k ≡ other k) → ((k : ℕ) → k < m → value k ≡ other_value k) →
    IsPut n m name value v → IsPut n m other other_value v
put_same other other_value {v} names values h = record {
  long = h.long;
  put = λ k l. ap (slice_index v) (sym (names k l)) ∙ h.put k l ∙ values k l;
  others = λ x l no. h.others x l (λ k lk same. no k lk (sym (names k lk) ∙ same));
}
