-- Sums with a list of the columns touched, and what is gathered of them in any order.
use Rattle.std.proofs.Common.{Bool, true, false, eqb, not, if◌then◌else◌, ℕ, ◌≡◌, ◌≢◌, ◌+◌, ◌*◌, ◌%◌, ◌<◌, ◌≤◌, ◌⊎◌, List, [], ◌∷◌, ◌++◌, length, replicate, slice_index, slice_set, inl, inr, sym, refl, ap, subst, ◌∙◌, arith, mod-eq_of_lt}
use Rattle.std.specs.List.{Contains}
use Rattle.std.proofs.lemmas.Bool.{cases_eq, eq-eqb, ne_eqb}
use Rattle.std.proofs.lemmas.List.{append_assoc, get_or_append_left, get_or_push, get_or-set_other, get_or-set_same, length-set, length_push}
use Rattle.std.proofs.lemmas.List.Elements.{Contains-append_cases, Contains-append_left, Contains-append_right}
use Rattle.residue_words.proofs.Lists.{contains_at, place_in}
use Rattle.residue_words.proofs.Vectors.{list_equal}
use Rattle.sparse_rows.specs.ColumnSet.{AllZero}
use Rattle.sparse_rows.specs.Rows.{ResidueRow}
use Rattle.sparse_rows.specs.Stored.{entry_at, spread}
use Rattle.sparse_rows.proofs.Adding.{IsAddingTo, adding_none}
use Rattle.sparse_rows.proofs.Spread.{at_spread, entry_cover, length_spread}
use Rattle.lead_rows.specs.Accumulator.{AddsBelow, AreLimited, limit_of, residues_of}
use Rattle.lead_rows.specs.Scattered.{IsScattered, IsTouched}
use Rattle.lead_rows.proofs.Accumulating.{added, as_row, limited_set, limited_zero, new_limited, new_zero, residue_at, residues_length, residues_set, residues_vector, skipped}
use Rattle.lead_rows.proofs.Scattered.{entry_listed, scattered_step}

-- a sum below the limit is set at a column that is touched already or now
touched_set : {p limit : ℕ} {sums touched next : List ℕ} → IsTouched p limit sums touched → (j v : ℕ) → j < length sums → v < limit →
    ((next ≡ touched) × (slice_index sums j ≢ 0)) ⊎ (next ≡ touched ++ j ∷ []) → IsTouched p limit (slice_set sums j v) next
touched_set {p} {limit} {sums} {touched} {next} s j v l small way = record {
  limited = limited_set s.limited j v small;
  below = λ t lt. elim way [
    | inl (e, d) ↦ omega (arith, length-set sums j v, ap (λ xs. slice_index xs t) e, s.below t (omega (arith, ap length e)))
    | inr e ↦ elim (cases_eq t (length touched)) [
      | inl same ↦ omega (arith, length-set sums j v, ap (λ xs. slice_index xs t) e, get_or_push touched j 0 t (sym same))
      | inr d ↦
          let low : t < length touched = omega (arith, ap length e, length_push touched j) in
          omega (arith, length-set sums j v, ap (λ xs. slice_index xs t) e, get_or_append_left touched (j ∷ []) 0 t low, s.below t low)
    ]
  ];
  covers = λ i li d. elim (cases_eq i j) [
    | inl same ↦ elim way [
      | inl (e, dj) ↦ subst (λ xs. Contains xs i) (sym e) (subst (Contains touched) (sym same) (s.covers j l dj))
      | inr e ↦ subst (λ xs. Contains xs i) (sym e) (subst (Contains (touched ++ j ∷ [])) (sym same) (Contains-append_right touched (j ∷ []) j (contains_at (j ∷ []) 0 j (omega arith) refl)))
    ]
    | inr dj ↦
        let has : Contains touched i = s.covers i (omega (arith, length-set sums j v)) (λ z. d (get_or-set_other sums j i v 0 dj ∙ z)) in
        elim way [
          | inl (e, dj) ↦ subst (λ xs. Contains xs i) (sym e) has
          | inr e ↦ subst (λ xs. Contains xs i) (sym e) (Contains-append_left touched (j ∷ []) i has)
        ]
  ];
}

-- an entry is added
pub touched_added : {p limit j v : ℕ} {sums next touched columns : List ℕ} → IsTouched p limit sums touched → j < length sums → AddsBelow limit j v sums next →
    ((columns ≡ touched) × (slice_index sums j ≢ 0)) ⊎ (columns ≡ touched ++ j ∷ []) → IsTouched p limit next columns
touched_added {p} {limit} {j} {v} {sums} {next} {touched} {columns} s l a way = subst (λ xs. IsTouched p limit xs columns) (sym a.after) (touched_set s j a.sum l a.below way)

-- the column touched last
pub touched_last : {p limit : ℕ} {sums all : List ℕ} {c : ℕ} (touched : List ℕ) → IsTouched p limit sums all → all ≡ touched ++ c ∷ [] → c < length sums
touched_last {p} {limit} {sums} {all} {c} touched s e =
    let at : slice_index all (length touched) ≡ c = ap (λ xs. slice_index xs (length touched)) e ∙ get_or_push touched c 0 (length touched) refl in
    omega (arith, at, s.below (length touched) (omega (arith, ap length e, length_push touched c)))

-- its sum is taken away
pub touched_less : {p limit : ℕ} {sums all : List ℕ} (c : ℕ) (touched : List ℕ) → IsTouched p limit sums all → all ≡ touched ++ c ∷ [] → IsTouched p limit (slice_set sums c 0) touched
touched_less {p} {limit} {sums} {all} c touched s e = record {
  limited = limited_zero s.limited c;
  below = λ t l. omega (arith, length-set sums c 0, ap (λ xs. slice_index xs t) e, get_or_append_left touched (c ∷ []) 0 t l, s.below t (omega (arith, ap length e, length_push touched c)));
  covers = λ i l d. elim (cases_eq i c) [
    | inl is ↦ absurd (d (ap (slice_index (slice_set sums c 0)) is ∙ get_or-set_same sums c 0 0 (touched_last touched s e)))
    | inr dc ↦
        elim (Contains-append_cases touched (c ∷ []) i (subst (λ xs. Contains xs i) e (s.covers i (omega (arith, length-set sums c 0)) (λ z. d (get_or-set_other sums c i 0 0 dc ∙ z))))) [
          | inl has ↦ has
          | inr is ↦ let t = place_in (c ∷ []) i is in absurd (dc (sym t.2 ∙ ap (slice_index (c ∷ [])) (let z : t.0 ≡ 0 = omega (arith, t.1) in z)))
        ]
  ];
}

-- no column is touched
pub touched_none : {p limit : ℕ} {sums touched : List ℕ} → IsTouched p limit sums touched → length touched ≡ 0 → AllZero sums
touched_none {p} {limit} {sums} {touched} s e j l =
    elim (cases_eq (slice_index sums j) 0) [ inl z ↦ z | inr d ↦ let t = place_in touched j (s.covers j l d) in absurd (omega (arith, t.1)) ]

-- as of new sums
pub new_touched : (p n : ℕ) (sums : List ℕ) → 2 ≤ p → p < 281474976710656 → sums ≡ replicate n 0 → IsTouched p (limit_of p) sums []
new_touched p n sums two high e = record {
  limited = new_limited p n sums two high e;
  below = λ t l. absurd (omega arith);
  covers = λ j l d. absurd (d ((new_zero n sums e).1 j l));
}

-- a multiple of a row is added entry by entry: at first nothing is
pub adding_begins : {p by : ℕ} {cols vals : List ℕ} {old : ResidueRow} (sums : List ℕ) → 0 < p → as_row p (residues_of p sums) ≡ old → IsAddingTo by cols vals 0 old (as_row p (residues_of p sums))
adding_begins {p} {by} {cols} {vals} {old} sums pos e = subst (λ r. IsAddingTo by cols vals 0 r (as_row p (residues_of p sums))) e (record {
  modulus = refl;
  positive = pos;
  vector = residues_vector p sums pos;
  adding = adding_none (residues_vector p sums pos);
})

-- the column of the next entry
pub adding_inside : {p by k : ℕ} {cols vals : List ℕ} {old : ResidueRow} (sums : List ℕ) → IsScattered old.modulus (length old.row) cols vals → IsAddingTo by cols vals k old (as_row p (residues_of p sums)) → k < length cols →
    slice_index cols k < length sums
adding_inside {p} {by} {k} {cols} {vals} {old} sums row a l = omega (arith, row.below k l, a.adding.len, residues_length p sums)

-- which is added
pub adding_goes : {p limit by k v : ℕ} {cols vals sums next : List ℕ} {old : ResidueRow} → IsScattered old.modulus (length old.row) cols vals → IsAddingTo by cols vals k old (as_row p (residues_of p sums)) → k < length cols →
    AreLimited p limit sums → v % old.modulus ≡ (by * slice_index vals k) % old.modulus → AddsBelow limit (slice_index cols k) v sums next → IsAddingTo by cols vals (k + 1) old (as_row p (residues_of p next))
adding_goes {p} {limit} {by} {k} {v} {cols} {vals} {sums} {next} {old} row a l limited e below = scattered_step row a l v e (added refl limited (adding_inside sums row a l) below)

-- v, which is not 0, stands at c and is taken away
record TakesSome (p : ℕ) (old new : List ℕ) (c v : ℕ) : Type 0 where
  inside : c < length old
  value : v ≡ slice_index old c
  nonzero : v ≢ 0
  residue : v < p
  after : new ≡ slice_set old c 0

takes_some : (sums : List ℕ) {p c v : ℕ} → 0 < p → c < length sums → v ≡ slice_index sums c % p → v ≢ 0 → TakesSome p (residues_of p sums) (residues_of p (slice_set sums c 0)) c v
takes_some sums {p} {c} {v} pos inside is d = record {
  inside = omega (arith, residues_length p sums);
  value = is ∙ sym (residue_at p sums c inside);
  nonzero = d;
  residue = omega arith;
  after = residues_set p sums c 0 0 (mod-eq_of_lt pos);
}

-- some of the entries were taken, each once
pub record IsGathering (p : ℕ) (whole left cs vs : List ℕ) : Type 0 where
  pub wide : length left ≡ length whole
  pub scattered : IsScattered p (length whole) cs vs
  pub gone : (t : ℕ) → t < length cs → slice_index left (slice_index cs t) ≡ 0
  pub there : (t : ℕ) → t < length cs → slice_index whole (slice_index cs t) ≡ slice_index vs t
  pub others : (j : ℕ) → ((t : ℕ) → t < length cs → slice_index cs t ≢ j) → slice_index left j ≡ slice_index whole j

pub gathering_none : {p : ℕ} {whole left : List ℕ} → left ≡ whole → IsGathering p whole left [] []
gathering_none {p} {whole} {left} e = record {
  wide = ap length e;
  scattered = record {
    long = refl;
    distinct = λ k t a l. absurd (omega arith);
    below = λ k l. absurd (omega arith);
    positive = λ k l. absurd (omega arith);
    residues = λ k l. absurd (omega arith);
  };
  gone = λ t l. absurd (omega arith);
  there = λ t l. absurd (omega arith);
  others = λ j none. ap (λ xs. slice_index xs j) e;
}

module _ {p : ℕ} {whole left next cs vs : List ℕ} {c v : ℕ} (g : IsGathering p whole left cs vs) (t : TakesSome p left next c v) where
  old : (k : ℕ) → k < length cs → slice_index (cs ++ c ∷ []) k ≡ slice_index cs k
  old k l = get_or_append_left cs (c ∷ []) 0 k l

  new : (k : ℕ) → k ≡ length cs → slice_index (cs ++ c ∷ []) k ≡ c
  new k e = get_or_push cs c 0 k (sym e)

  old_value : (k : ℕ) → k < length vs → slice_index (vs ++ v ∷ []) k ≡ slice_index vs k
  old_value k l = get_or_append_left vs (v ∷ []) 0 k l

  new_value : (k : ℕ) → k ≡ length vs → slice_index (vs ++ v ∷ []) k ≡ v
  new_value k e = get_or_push vs v 0 k (sym e)

  at_end : (k : ℕ) → k < length (cs ++ c ∷ []) → (k < length cs) ⊎ (k ≡ length cs)
  at_end k l = elim (cases_eq k (length cs)) [ inl e ↦ inr e | inr d ↦ inl (omega (arith, length_push cs c)) ]

  at_end_value : (k : ℕ) → k < length (vs ++ v ∷ []) → (k < length vs) ⊎ (k ≡ length vs)
  at_end_value k l = elim (cases_eq k (length vs)) [ inl e ↦ inr e | inr d ↦ inl (omega (arith, length_push vs v)) ]

  fresh : (k : ℕ) → k < length cs → slice_index cs k ≢ c
  fresh k l e = t.nonzero (t.value ∙ sym (ap (slice_index left) e) ∙ g.gone k l)

  gathering_more : IsGathering p whole next (cs ++ c ∷ []) (vs ++ v ∷ [])
  gathering_more = record {
    wide = ap length t.after ∙ length-set left c 0 ∙ g.wide;
    scattered = record {
      long = omega (arith, length_push cs c, length_push vs v, g.scattered.long);
      distinct = λ k i a l e. elim (at_end i l) [
        | inl b ↦ g.scattered.distinct k i a b (sym (old k (omega arith)) ∙ e ∙ old i b)
        | inr b ↦ fresh k (omega arith) (sym (old k (omega arith)) ∙ e ∙ new i b)
      ];
      below = λ k l. elim (at_end k l) [
        | inl b ↦ omega (arith, old k b, g.scattered.below k b)
        | inr b ↦ omega (arith, new k b, t.inside, g.wide)
      ];
      positive = λ k l. elim (at_end_value k l) [
        | inl b ↦ omega (arith, old_value k b, g.scattered.positive k b)
        | inr b ↦ omega (arith, new_value k b, t.nonzero)
      ];
      residues = λ k l. elim (at_end_value k l) [
        | inl b ↦ omega (arith, old_value k b, g.scattered.residues k b)
        | inr b ↦ omega (arith, new_value k b, t.residue)
      ];
    };
    gone = λ k l. ap (λ xs. slice_index xs (slice_index (cs ++ c ∷ []) k)) t.after ∙ elim (at_end k l) [
      | inl b ↦ ap (slice_index (slice_set left c 0)) (old k b) ∙ get_or-set_other left c (slice_index cs k) 0 0 (fresh k b) ∙ g.gone k b
      | inr b ↦ ap (slice_index (slice_set left c 0)) (new k b) ∙ get_or-set_same left c 0 0 t.inside
    ];
    there = λ k l. elim (at_end k l) [
      | inl b ↦ ap (slice_index whole) (old k b) ∙ g.there k b ∙ sym (old_value k (omega (arith, g.scattered.long)))
      | inr b ↦ ap (slice_index whole) (new k b) ∙ sym (g.others c fresh) ∙ sym t.value ∙ sym (new_value k (b ∙ g.scattered.long))
    ];
    others = λ j none.
        let apart : j ≢ c = λ e. none (length cs) (omega (arith, length_push cs c)) (new (length cs) refl ∙ sym e) in
        ap (λ xs. slice_index xs j) t.after ∙ get_or-set_other left c j 0 0 apart ∙ g.others j (λ k l e. none k (omega (arith, length_push cs c)) (old k l ∙ e));
  }

-- an item that stands behind a list if it stays
pub behind_if : {X : Type 0} {now new : List X} (old more : List X) (x : X) (stays : Bool) → now ≡ old ++ more → new ≡ (if stays then now ++ x ∷ [] else now) → new ≡ old ++ (if stays then more ++ x ∷ [] else more)
behind_if {X} {now} {new} old more x true e is = is ∙ ap (λ xs. xs ++ x ∷ []) e ∙ append_assoc old more (x ∷ [])
behind_if {X} {now} {new} old more x false e is = is ∙ e

-- an entry is one of those that were taken if it is not 0
pub gathering_next : {p c v : ℕ} {whole cs vs : List ℕ} (sums : List ℕ) → 0 < p → IsGathering p whole (residues_of p sums) cs vs → c < length sums → v ≡ slice_index sums c % p →
    IsGathering p whole (residues_of p (slice_set sums c 0)) (if not (eqb v 0) then cs ++ c ∷ [] else cs) (if not (eqb v 0) then vs ++ v ∷ [] else vs)
gathering_next {p} {c} {v} {whole} {cs} {vs} sums pos g inside is = elim (cases_eq v 0) [
  | inl z ↦ rw (eq-eqb v 0 z, skipped sums c p v pos is z) g
  | inr d ↦ rw (ne_eqb v 0 d) (gathering_more g (takes_some sums pos inside is d))
]

-- all of them were
pub gathering_all : {p : ℕ} {whole left cs vs : List ℕ} → IsGathering p whole left cs vs → AllZero left → spread (length whole) cs vs ≡ whole
gathering_all {p} {whole} {left} {cs} {vs} g none = list_equal (length whole) (spread (length whole) cs vs) whole (length_spread (length whole) cs vs) refl (λ j l.
    at_spread (length whole) cs vs j l ∙ elim (entry_cover cs vs j) [
      | inl z ↦
          let away : (k : ℕ) → k < length cs → slice_index cs k ≢ j = λ k lk e.
          let v : entry_at cs vs (slice_index cs k) ≡ slice_index vs k = entry_listed cs vs g.scattered.long g.scattered.distinct k lk in
          let pos : 0 < slice_index vs k = g.scattered.positive k (omega (arith, g.scattered.long)) in
          absurd (omega (arith, sym v ∙ ap (entry_at cs vs) e ∙ z)) in
          z ∙ sym (none j (omega (arith, g.wide))) ∙ g.others j away
      | inr (k, lk, e) ↦ ap (entry_at cs vs) (sym e) ∙ entry_listed cs vs g.scattered.long g.scattered.distinct k lk ∙ sym (g.there k lk) ∙ ap (slice_index whole) e
    ])
