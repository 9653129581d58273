-- What the steps of the plain elimination do, over lists.
use Rattle.std.proofs.Common.{ℕ, ◌≡◌, ◌+◌, ◌*◌, ◌-◌, ◌%◌, ◌<◌, ◌≤◌, inl, inr, List, [], ◌∷◌, ◌++◌, length, get_or, set, slice_index, slice_index_or, Vec, Global, ap, sym, refl, subst, ◌∙◌, arith, mod-eq_of_lt, mul-zero, below_more, get_or-set_same, get_or-set_other, length-append}
use native.Mathlib.Nat.{mod-mod, mod_self}
use Rattle.std.proofs.lemmas.Bool.{cases_eq}
use Rattle.std.proofs.lemmas.List.{get_or-map, length-map, length-set, map-append}
use Rattle.std.proofs.Math.ListN.{get_or-append}
use Rattle.std.proofs.Math.Seq.{get_or-append_seam}
use Rattle.residue_words.specs.Residues.{IsPrime}
use Rattle.residue_words.specs.Matrix.{IsVector, IsMatrix, entry}
use Rattle.residue_words.proofs.Residues.{add_same, add_cancel, right_zero, residue_equal}
use Rattle.row_space.specs.Rows.{DiffersBy, HasSteps, of_rows}
use Rattle.row_space.proofs.Rows.{differs_by_none, differs_by_zero, differs_more, matrix_with_row, span_with_old, span_with_scaled, steps_more}
use Rattle.plain_elimination.specs.Plain.{AreKept, AreReduced, lists, plain_matrix}

-- a difference and what was taken make the whole
pub taken_back : (p r m x t : ℕ) → r < p → m < p → m ≡ t % p → x ≡ (r + (p - m)) % p → r ≡ (x + t) % p
taken_back p r m x t low less e f =
    let same : (x + t) % p ≡ (r + (p - m) + m) % p = add_same p x (r + (p - m)) t m (ap (λ u. u % p) f ∙ mod-mod (r + (p - m)) p) (sym (mod-mod t p) ∙ ap (λ u. u % p) (sym e)) in
    let whole : r + (p - m) + m ≡ r + p = omega arith in
    sym (same ∙ ap (λ u. u % p) whole ∙ right_zero p r p (mod_self p) ∙ mod-eq_of_lt low)

-- a vector stays one where a residue is written
pub written_vector : (p n : ℕ) (v : List ℕ) (j x : ℕ) → IsVector p n v → j < n → x < p → IsVector p n (set v j x)
written_vector p n v j x h l low = record {
  len = length-set v j x ∙ h.len;
  residues = λ k lk. elim (cases_eq k j) [
    | inl e ↦ let inside : j < length v = omega (arith, h.len) in subst (λ t. get_or (set v j x) t 0 < p) (sym e) (rw get_or-set_same low)
    | inr d ↦ rw get_or-set_other (h.residues k lk)
  ];
}

-- the list of a row that is read
pub list_at : (rows : List (Vec ℕ Global)) (k : ℕ) (r : Vec ℕ Global) → k < length rows → r ≡ get_or rows k r → slice_index_or (lists rows) k [] ≡ r.items
list_at rows k r l e = get_or-map (λ v. v.items) rows k r [] l ∙ ap (λ v. v.items) (sym e)

-- as many lists as rows
pub lists_length : (rows : List (Vec ℕ Global)) → length (lists rows) ≡ length rows
lists_length rows = length-map rows (λ v. v.items)

-- a row more is a list more
pub lists_more : (rows : List (Vec ℕ Global)) (r : Vec ℕ Global) → lists (rows ++ r ∷ []) ≡ lists rows ++ r.items ∷ []
lists_more rows r = map-append (λ v. v.items) rows (r ∷ [])

-- the row w is left of v by the first k kept rows
pub record IsReducing (p n : ℕ) (kept : List (List ℕ)) (leads v w : List ℕ) (k : ℕ) : Type 0 where
  pub vector : IsVector p n w
  pub value : IsPrime p → DiffersBy p (of_rows n kept) v w
  pub cleared : IsPrime p → HasSteps (length kept) n (entry (of_rows n kept)) (slice_index leads) → (t : ℕ) → t < k → slice_index w (slice_index leads t) ≡ 0

-- at first it is v
pub reducing_none : (p n : ℕ) (kept : List (List ℕ)) (leads v : List ℕ) → IsVector p n v → IsReducing p n kept leads v v 0
reducing_none p n kept leads v vector = record {
  vector = vector;
  value = λ prime. differs_by_none p (of_rows n kept) v prime.two_or_more vector;
  cleared = λ prime steps t l. absurd (omega arith);
}

-- nothing is taken where it is 0 at the lead
pub reducing_same : (p n : ℕ) (kept : List (List ℕ)) (leads v w : List ℕ) (k : ℕ) → IsReducing p n kept leads v w k → slice_index w (slice_index leads k) ≡ 0 →
    IsReducing p n kept leads v w (k + 1)
reducing_same p n kept leads v w k h zero_here = record {
  vector = h.vector;
  value = h.value;
  cleared = λ prime steps. below_more (λ t. slice_index w (slice_index leads t) ≡ 0) k (h.cleared prime steps) zero_here;
}

-- what is left of 0 where nothing is taken, and of a where a is, is 0
left_of_none : (p w x a c : ℕ) → x < p → c ≡ 0 → w ≡ (x + a * c) % p → w ≡ 0 → x ≡ 0
left_of_none p w x a c low none e z =
    let plain : x + a * c ≡ x = omega (arith, ap (λ t. a * t) none) in
    sym (mod-eq_of_lt low) ∙ ap (λ t. t % p) (sym plain) ∙ sym e ∙ z

left_of_all : (p w x c : ℕ) → 2 ≤ p → w < p → x < p → c ≡ 1 → w ≡ (x + w * c) % p → x ≡ 0
left_of_all p w x c two high low one e =
    let plain : x + w * c ≡ x + w = omega (arith, ap (λ t. w * t) one) in
    let none : 0 + w ≡ w = omega arith in
    residue_equal p x 0 low (omega arith) (add_cancel p x 0 w two (ap (λ t. t % p) (sym plain) ∙ sym e ∙ sym (mod-eq_of_lt high) ∙ ap (λ t. t % p) (sym none)))

-- the multiple of the row k by w's entry at the lead is taken
pub reducing_more : (p n : ℕ) (kept : List (List ℕ)) (leads v w x : List ℕ) (k : ℕ) → AreKept p n kept leads → IsReducing p n kept leads v w k → k < length kept →
    IsVector p n x → ((j : ℕ) → j < n → slice_index w j ≡ (slice_index x j + slice_index w (slice_index leads k) * entry (of_rows n kept) k j) % p) →
    IsReducing p n kept leads v x (k + 1)
reducing_more p n kept leads v w x k are h l vector step =
    let a : ℕ = slice_index w (slice_index leads k) in
    let lead : (t : ℕ) → t < length kept → slice_index leads t < n = λ t lt. are.inside t (omega (arith, are.len)) in record {
      vector = vector;
      value = λ prime. differs_more p (of_rows n kept) v w x a k prime.two_or_more are.matrix l (h.value prime) step;
      cleared = λ prime steps. below_more (λ t. slice_index x (slice_index leads t) ≡ 0) k
          (λ t lt. let j : ℕ = slice_index leads t in
          let inside : j < n = lead t (omega arith) in
          left_of_none p (slice_index w j) (slice_index x j) a (entry (of_rows n kept) k j) (vector.residues j inside) (steps.later t k lt l) (step j inside) (h.cleared prime steps t lt))
          (let j : ℕ = slice_index leads k in
          let inside : j < n = lead k l in
          left_of_all p a (slice_index x j) (entry (of_rows n kept) k j) prime.two_or_more (h.vector.residues j inside) (vector.residues j inside) (steps.one k l) (step j inside));
    }

-- a row more with its lead is kept
pub kept_more : (p n : ℕ) (kept : List (List ℕ)) (leads x : List ℕ) (j : ℕ) → AreKept p n kept leads → IsVector p n x → j < n → AreKept p n (kept ++ x ∷ []) (leads ++ j ∷ [])
kept_more p n kept leads x j h vector inside = record {
  matrix = matrix_with_row p n kept x h.matrix vector;
  len = omega (arith, length-append leads (j ∷ []), length-append kept (x ∷ []), h.len);
  inside = λ k l. elim (cases_eq k (length leads)) [
    | inl e ↦ subst (λ t. t < n) (sym (ap (slice_index (leads ++ j ∷ [])) e ∙ get_or-append_seam leads j [] 0)) inside
    | inr d ↦ let less : k < length leads = omega (arith, length-append leads (j ∷ [])) in subst (λ t. t < n) (sym (get_or-append leads (j ∷ []) 0 k less)) (h.inside k less)
  ];
}

-- where something is left of v, which x is when scaled, x is kept
pub reduced_more : (p n : ℕ) (rows kept : List (List ℕ)) (leads v w x : List ℕ) (j b : ℕ) → IsPrime p → IsMatrix p (of_rows n rows) → AreKept p n kept leads →
    AreReduced p n rows kept leads → IsVector p n v → IsVector p n x → DiffersBy p (of_rows n kept) v w →
    ((k : ℕ) → k < length leads → slice_index w (slice_index leads k) ≡ 0) → j < n → (slice_index w j * b) % p ≡ 1 →
    ((i : ℕ) → i < n → slice_index x i ≡ (b * slice_index w i) % p) → AreReduced p n (rows ++ v ∷ []) (kept ++ x ∷ []) (leads ++ j ∷ [])
reduced_more p n rows kept leads v w x j b prime mr are h vector other differs clear inside one scaled =
    let two : 2 ≤ p = prime.two_or_more in
    let here : slice_index (leads ++ j ∷ []) (length kept) ≡ j = ap (slice_index (leads ++ j ∷ [])) (sym are.len) ∙ get_or-append_seam leads j [] 0 in
    let turn : b * slice_index w j ≡ slice_index w j * b = omega arith in
    let unit : slice_index x j ≡ 1 = scaled j inside ∙ ap (λ t. t % p) turn ∙ one in
    record {
      steps = steps_more n kept x (slice_index leads) (slice_index (leads ++ j ∷ [])) h.steps
          (λ k l. get_or-append leads (j ∷ []) 0 k (omega (arith, are.len)))
          (subst (λ t. t < n) (sym here) inside)
          (ap (slice_index x) here ∙ unit)
          (λ k l. let low : k < length leads = omega (arith, are.len) in
          let lead : slice_index leads k < n = are.inside k low in
          scaled (slice_index leads k) lead ∙ ap (λ t. (b * t) % p) (clear k low) ∙ ap (λ t. t % p) (mul-zero b) ∙ mod-eq_of_lt (omega arith));
      span = span_with_scaled p n (slice_index w j) b rows kept v w x two one mr are.matrix vector other h.span differs scaled;
    }

-- where nothing is left of v, the kept rows stay as they are
pub reduced_same : (p n : ℕ) (rows kept : List (List ℕ)) (leads v w : List ℕ) → IsPrime p → IsMatrix p (of_rows n rows) → AreKept p n kept leads →
    AreReduced p n rows kept leads → IsVector p n v → DiffersBy p (of_rows n kept) v w → ((j : ℕ) → j < n → slice_index w j ≡ 0) → AreReduced p n (rows ++ v ∷ []) kept leads
reduced_same p n rows kept leads v w prime mr are h vector differs none =
    let two : 2 ≤ p = prime.two_or_more in record {
      steps = h.steps;
      span = span_with_old p n rows kept v two mr are.matrix vector h.span (differs_by_zero p (of_rows n kept) v w two vector differs none);
    }

-- of rows that make a matrix, those passed so far make one, and the next is a vector
pub passed_matrix : (p n : ℕ) (rows before after : List (Vec ℕ Global)) → IsMatrix p (plain_matrix n rows) → before ++ after ≡ rows → IsMatrix p (plain_matrix n before)
passed_matrix p n rows before after m e =
    let all : lists before ++ lists after ≡ lists rows = sym (map-append (λ v. v.items) before after) ∙ ap lists e in record {
      len = refl;
      each = λ i l. subst (IsVector p n) (ap (λ u. slice_index_or u i []) (sym all) ∙ get_or-append (lists before) (lists after) [] i l)
          (m.each i (omega (arith, ap length all, length-append (lists before) (lists after))));
    }

pub passed_row : (p n : ℕ) (rows before after : List (Vec ℕ Global)) (r : Vec ℕ Global) → IsMatrix p (plain_matrix n rows) → before ++ r ∷ after ≡ rows → IsVector p n r.items
passed_row p n rows before after r m e =
    let all : lists before ++ r.items ∷ lists after ≡ lists rows = sym (map-append (λ v. v.items) before (r ∷ after)) ∙ ap lists e in
    subst (IsVector p n) (ap (λ u. slice_index_or u (length (lists before)) []) (sym all) ∙ get_or-append_seam (lists before) r.items (lists after) [])
    (m.each (length (lists before)) (omega (arith, ap length all, length-append (lists before) (r.items ∷ lists after))))
