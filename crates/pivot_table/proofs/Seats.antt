-- The seats of a core, as one of them is written; marks, as one of them is written.
use Rattle.std.proofs.Common.{◌≡◌, ◌≢◌, ℕ, zero, suc, ◌-◌, ◌≤◌, ◌⊎◌, List, [], ◌∷◌, ◌++◌, length, set, sym, refl, ap, ◌∙◌, inl, inr, ⊎_elim, subst, arith, append_assoc, length-append}
use Rattle.std.specs.Prelude.{Option, None, Some}
use native.Mathlib.Decide.{ℕ_discrete}
use Rattle.std.specs.List.{Contains}
use Rattle.std.proofs.lemmas.List.{append-nil}
use Rattle.std.proofs.lemmas.List.Elements.{Contains-push_cases, Contains-append_cases}
use Rattle.atomic_table.proofs.Lists.{at_set, set_here, set_else, at_longer}
use Rattle.residue_words.specs.declared.plain.Pair.{Pair}
use Rattle.pivot_table.specs.History.{HasRow, StartsWith}
use Rattle.pivot_table.specs.Core.{Mark, free, held, done, PublishedPlace, Chair, HasSeat, HasMark, StandsAt, Carries, longer, longer_by, shorter, shorter_by}
use Rattle.pivot_table.specs.Lawful.{HaveDistinctPlaces, Sound, Apart}
use Rattle.residue_words.proofs.Lists.{not_in_nil, in_head, in_tail}
use Rattle.pivot_table.proofs.Listed.{within, same_at, at_contains}
use Rattle.pivot_table.proofs.Growth.{row_more, row_cases}

abbrev pub Seats : Type 0
Seats = List (Option Chair)

pub same_seat : (seats : Seats) (i : ℕ) (s t : Chair) → HasSeat seats i s → HasSeat seats i t → s ≡ t
same_seat seats i s t a b = let e : Some s ≡ Some t = same_at seats i (Some s) (Some t) a b in cc

pub seat_set : (seats : Seats) (i j : ℕ) (w t : Chair) → HasSeat (set seats i (Some w)) j t → ((j ≡ i) × (w ≡ t)) ⊎ ((j ≢ i) × HasSeat seats j t)
seat_set seats i j w t at = ⊎_elim (λ e. inl (e.0, (let f : Some w ≡ Some t = e.1 in cc))) (λ e. inr e) (at_set seats i j (Some w) (Some t) at)

pub seat_gone : (seats : Seats) (i j : ℕ) (t : Chair) → HasSeat (set seats i None) j t → (j ≢ i) × HasSeat seats j t
seat_gone seats i j t at = ⊎_elim (λ e. absurd (let f : None ≡ Some t = e.1 in cc)) (λ e. e) (at_set seats i j None (Some t) at)

-- what holds of the seat that was written and of each other one holds of each
pub each_seat : (P : ℕ → Chair → Type 0) (seats : Seats) (i : ℕ) (w : Chair) → P i w → ((j : ℕ) (t : Chair) → HasSeat seats j t → j ≢ i → P j t)
    → (j : ℕ) (t : Chair) → HasSeat (set seats i (Some w)) j t → P j t
each_seat P seats i w here others j t at = ⊎_elim
    (λ e. subst (λ (k : ℕ). P k t) (sym e.0) (subst (λ (u : Chair). P i u) e.1 here))
    (λ n. others j t n.1 n.0)
    (seat_set seats i j w t at)

pub apart_sym : (s t : Chair) → Apart s t → Apart t s
apart_sym s t x = record { hands = λ r e f. x.hands r f e; places = λ n m c d e. x.places m n d c (sym e) }

-- two seats of which one was written
pub apart_set : (seats : Seats) (i : ℕ) (w : Chair) → ((j k : ℕ) (s t : Chair) → HasSeat seats j s → HasSeat seats k t → j ≢ k → Apart s t)
    → ((j : ℕ) (t : Chair) → HasSeat seats j t → j ≢ i → Apart w t)
    → (j k : ℕ) (s t : Chair) → HasSeat (set seats i (Some w)) j s → HasSeat (set seats i (Some w)) k t → j ≢ k → Apart s t
apart_set seats i w old new j k s t at au ne = ⊎_elim
    (λ e. ⊎_elim
    (λ f. absurd (ne (e.0 ∙ sym f.0)))
    (λ f. subst (λ (x : Chair). Apart x t) e.1 (new k t f.1 f.0))
    (seat_set seats i k w t au))
    (λ e. ⊎_elim
    (λ f. subst (λ (x : Chair). Apart s x) f.1 (apart_sym w s (new j s e.1 e.0)))
    (λ f. old j k s t e.1 f.1 ne)
    (seat_set seats i k w t au))
    (seat_set seats i j w s at)

pub kept_hand : (seats : Seats) (i : ℕ) (s w : Chair) → HasSeat seats i s → w.hand ≡ s.hand → (r : ℕ) (t : (k : ℕ) × (t : Chair) × HasSeat seats k t × (t.hand ≡ Some r)) → Dec (t.0 ≡ i)
    → (k : ℕ) × (t : Chair) × HasSeat (set seats i (Some w)) k t × (t.hand ≡ Some r)
kept_hand seats i s w at same r t (yes e) = (i, w, set_here seats i (Some w) (within seats i (Some s) at), (same ∙ ap (λ (z : Chair). z.hand) (same_seat seats i s t.1 at (subst (λ (n : ℕ). HasSeat seats n t.1) e t.2))) ∙ t.3)
kept_hand seats i s w at same r t (no ne) = (t.0, t.1, set_else seats i t.0 (Some w) ne ∙ t.2, t.3)

-- a seat that has another row in hand is not the one that is written
pub other_hand : (seats : Seats) (i : ℕ) (s w : Chair) (r : ℕ) → HasSeat seats i s → s.hand ≢ Some r → (t : (k : ℕ) × (t : Chair) × HasSeat seats k t × (t.hand ≡ Some r))
    → (k : ℕ) × (t : Chair) × HasSeat (set seats i (Some w)) k t × (t.hand ≡ Some r)
other_hand seats i s w r at not t = (t.0, t.1, set_else seats i t.0 (Some w) (λ e. not (ap (λ (z : Chair). z.hand) (same_seat seats i s t.1 at (subst (λ (n : ℕ). HasSeat seats n t.1) e t.2)) ∙ t.3)) ∙ t.2, t.3)

pub row_at : (h : List Pair) (k : ℕ) (q : Pair) → StandsAt h k q → HasRow h q.row
row_at h k q at = (q, at_contains h k q at, refl)

-- what rows of the history carry stays
abbrev pub KeepsStarts : List Pair → List Mark → List Mark → Type 0
KeepsStarts h rows rows' = (r n : ℕ) → HasRow h r → Carries rows r n → Carries rows' r n

pub carries_else : (rows : List Mark) (r : ℕ) (y : Mark) (q n : ℕ) → q ≢ r → Carries rows q n → Carries (set rows r y) q n
carries_else rows r y q n ne c = ⊎_elim (λ m. inl (set_else rows r q y ne ∙ m)) (λ m. inr (set_else rows r q y ne ∙ m)) c

pub fresh_keeps : (h : List Pair) (rows : List Mark) (r : ℕ) (y : Mark) → ¬ HasRow h r → KeepsStarts h rows (set rows r y)
fresh_keeps h rows r y fresh q n t c = carries_else rows r y q n (λ e. fresh (subst (λ (k : ℕ). HasRow h k) e t)) c

done_after : (rows : List Mark) (r n q k : ℕ) → HasMark rows r (held n) → Carries rows q k → Dec (q ≡ r) → Carries (set rows r (done n)) q k
done_after rows r n q k m c (no ne) = carries_else rows r (done n) q k ne c
done_after rows r n q k m c (yes e) = ⊎_elim
    (λ x. let f : held n ≡ held k = same_at rows r (held n) (held k) m (subst (λ (z : ℕ). HasMark rows z (held k)) e x) in let g : n ≡ k = cc in
    inr (subst (λ (z : ℕ). HasMark (set rows r (done n)) z (done k)) (sym e) (subst (λ (z : ℕ). HasMark (set rows r (done n)) r (done z)) g (set_here rows r (done n) (within rows r (held n) m)))))
    (λ x. absurd (let f : held n ≡ done k = same_at rows r (held n) (done k) m (subst (λ (z : ℕ). HasMark rows z (done k)) e x) in cc))
    c

pub done_keeps : (h : List Pair) (rows : List Mark) (r n : ℕ) → HasMark rows r (held n) → KeepsStarts h rows (set rows r (done n))
done_keeps h rows r n m q k t c = done_after rows r n q k m c (ℕ_discrete q r)

-- a row that is not this seat's gets another mark: it was not done, and does not become free
pub sound_mark : (h : List Pair) (rows : List Mark) (s : Chair) (r : ℕ) (x y : Mark) → Sound h rows s → HasMark rows r x → ¬ (s.hand ≡ Some r) → ((n : ℕ) → x ≢ done n) → ¬ (y ≡ free)
    → KeepsStarts h rows (set rows r y) → Sound h (set rows r y) s
sound_mark h rows s r x y so m not_mine not_done not_free keeps = record {
  seen_first = so.seen_first;
  hand_start = so.hand_start;
  hand_in = so.hand_in;
  hand_out = so.hand_out;
  places_below = so.places_below;
  places_distinct = so.places_distinct;
  hand_held = λ q e. set_else rows r q y (λ f. not_mine (e ∙ ap (λ (n : ℕ). Some n) f)) ∙ so.hand_held q e;
  met_not_free = λ q e n. ⊎_elim (λ c. not_free c.1) (λ c. so.met_not_free q e c.1) (at_set rows r q y free n);
  finished_done = λ q e. let t = so.finished_done q e in (t.0, set_else rows r q y (λ f. not_done t.0 (same_at rows r x (done t.0) m (subst (λ (n : ℕ). HasMark rows n (done t.0)) f t.1))) ∙ t.1);
  places_start = λ z c. let t = so.places_start z c in (t.0, t.1, keeps t.0.row z.start (row_at h z.place t.0 t.1) t.2);
}

-- the history grows by a row that this seat does not have in hand
pub sound_more : (h : List Pair) (rows : List Mark) (s : Chair) (q : Pair) → Sound h rows s → ¬ (s.hand ≡ Some q.row) → Sound (h ++ q ∷ []) rows s
sound_more h rows s q so not_mine = record {
  hand_held = so.hand_held;
  hand_start = so.hand_start;
  met_not_free = so.met_not_free;
  finished_done = so.finished_done;
  places_below = so.places_below;
  places_distinct = so.places_distinct;
  seen_first = (so.seen_first.0 ++ q ∷ [], ap (λ (l : List Pair). l ++ q ∷ []) so.seen_first.1 ∙ append_assoc s.seen so.seen_first.0 (q ∷ []));
  hand_in = λ r e p. row_more h (q ∷ []) r (so.hand_in r e p);
  hand_out = λ r e p t. ⊎_elim (so.hand_out r e p) (λ f. not_mine (e ∙ ap (λ (n : ℕ). Some n) (sym f))) (row_cases h q r t);
  places_start = λ z c. let t = so.places_start z c in (t.0, at_longer h (q ∷ []) z.place t.0 t.1, t.2);
}

pub distinct_push : (xs : List PublishedPlace) (x : PublishedPlace) → HaveDistinctPlaces xs → ((y : PublishedPlace) → Contains xs y → y.place ≢ x.place) → HaveDistinctPlaces (xs ++ x ∷ [])
distinct_push [] x d n = ((λ y c. absurd (not_in_nil y c)), tt)
distinct_push (y ∷ ys) x d n = (
  (λ z c. ⊎_elim (d.0 z) (λ e. subst (λ (u : PublishedPlace). y.place ≢ u.place) e (n y (in_head y ys))) (Contains-push_cases ys x z c)),
  distinct_push ys x d.1 (λ z c. n z (in_tail y ys z c)),
)

pub distinct_append : (xs ys : List PublishedPlace) → HaveDistinctPlaces xs → HaveDistinctPlaces ys → ((x y : PublishedPlace) → Contains xs x → Contains ys y → x.place ≢ y.place) → HaveDistinctPlaces (xs ++ ys)
distinct_append [] ys d e apart = e
distinct_append (x ∷ xs) ys d e apart = (
  (λ z c. ⊎_elim (d.0 z) (λ t. apart x z (in_head x xs) t) (Contains-append_cases xs ys z c)),
  distinct_append xs ys d.1 e (λ u v t w. apart u v (in_tail x xs u t) w),
)

pub seen_short : (h seen : List Pair) → StartsWith h seen → length seen ≤ length h
seen_short h seen s = let e : length h ≡ length (seen ++ s.0) = ap length s.1 in omega (arith, length-append seen s.0)

-- of two beginnings of one list, the longer begins with the shorter
first_of : (h xs ys : List Pair) → StartsWith h xs → StartsWith h ys → length xs ≤ length ys → StartsWith ys xs
first_of h [] ys s t le = (ys, refl)
first_of h (x ∷ xs) [] s t le = absurd (omega arith)
first_of [] (x ∷ xs) (y ∷ ys) s t le = absurd (cc)
first_of (z ∷ zs) (x ∷ xs) (y ∷ ys) s t le =
    let es : z ∷ zs ≡ x ∷ (xs ++ s.0) = s.1 in
    let et : z ∷ zs ≡ y ∷ (ys ++ t.0) = t.1 in
    let a : zs ≡ xs ++ s.0 = cc in
    let b : zs ≡ ys ++ t.0 = cc in
    let more = first_of zs xs ys (s.0, a) (t.0, b) (omega arith) in
    let same : y ≡ x = cc in
    (more.0, (let e = more.1 in cc))

shorter_by_first : (n : ℕ) (h xs ys : List Pair) → n ≡ length ys - length xs → StartsWith h xs → StartsWith h ys → StartsWith (longer_by n xs ys) (shorter_by n xs ys)
shorter_by_first zero h xs ys e s t = first_of h ys xs t s (omega arith)
shorter_by_first (suc n) h xs ys e s t = first_of h xs ys s t (omega arith)

pub shorter_first : (h xs ys : List Pair) → StartsWith h xs → StartsWith h ys → StartsWith (longer xs ys) (shorter xs ys)
shorter_first h xs ys = shorter_by_first (length ys - length xs) h xs ys refl

both_by_first : (n : ℕ) (xs ys : List Pair) → StartsWith (longer_by n xs ys) (shorter_by n xs ys) → StartsWith (longer_by n xs ys) xs × StartsWith (longer_by n xs ys) ys
both_by_first zero xs ys s = (([], sym (append-nil xs)), s)
both_by_first (suc n) xs ys s = (s, ([], sym (append-nil ys)))

-- so the longer begins with each of them
pub both_first : (xs ys : List Pair) → StartsWith (longer xs ys) (shorter xs ys) → StartsWith (longer xs ys) xs × StartsWith (longer xs ys) ys
both_first xs ys = both_by_first (length ys - length xs) xs ys
