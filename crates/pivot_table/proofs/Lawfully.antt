-- Each event and move of the core keeps what is lawful.
use Rattle.std.proofs.Common.{◌≡◌, ◌≢◌, ℕ, zero, suc, ◌-◌, ◌<◌, ◌≤◌, ◌⊎◌, false, List, [], ◌∷◌, ◌++◌, length, set, sym, refl, ap, ◌∙◌, inl, inr, ⊎_elim, subst, arith, length-append}
use Rattle.std.specs.Prelude.{None, Some}
use native.Mathlib.Decide.{ℕ_discrete}
use Rattle.std.proofs.lemmas.List.{append-nil}
use Rattle.std.proofs.lemmas.List.Elements.{Contains-push_cases, Contains-append_cases}
use Rattle.atomic_table.proofs.Lists.{at_set, set_here, set_else, at_longer, at_last, at_snoc}
use Rattle.residue_words.specs.Matrix.{Matrix}
use Rattle.residue_words.specs.declared.plain.Pair.{Pair}
use Rattle.pivot_table.specs.History.{pair, HasRow, Alive, Dead, StartsWith}
use Rattle.pivot_table.specs.Core.{Mark, free, held, done, PublishedPlace, published_place, Chair, Core, core, HasSeat, HasMark, StandsAt, Carries, claiming, meeting, seeing, publishing, finishing, parting, splitting, joining, longer, longer_by}
use Rattle.pivot_table.specs.Lawful.{Sound, Apart, Lawful}
use Rattle.residue_words.proofs.Lists.{not_in_nil}
use Rattle.pivot_table.proofs.Listed.{within, same_at, at_push, set_swap}
use Rattle.pivot_table.proofs.Growth.{row_push, row_cases, settled_later, grown_push}
use Rattle.pivot_table.proofs.Seats.{Seats, same_seat, seat_gone, each_seat, apart_sym, apart_set, kept_hand, other_hand, row_at, KeepsStarts, fresh_keeps, done_keeps, sound_mark, sound_more, distinct_push, distinct_append, seen_short}

module _ (A : Matrix) (c : Core) (law : Lawful A c) (i : ℕ) (s : Chair) (at : HasSeat c.seats i s) where
  it : Sound c.history c.rows s
  it = law.each i s at

  here_seat : (w : Chair) → HasSeat (set c.seats i (Some w)) i w
  here_seat w = set_here c.seats i (Some w) (within c.seats i (Some s) at)

  no_other : (j : ℕ) (t : Chair) → HasSeat c.seats j t → j ≢ i → (r : ℕ) → s.hand ≡ Some r → ¬ (t.hand ≡ Some r)
  no_other j t au ne r e = (law.apart i j s t at au (λ f. ne (sym f))).hands r e

  -- the starts stay as rows are marked
  started_by : (rows : List Mark) → KeepsStarts c.history c.rows rows → (k : ℕ) (q : Pair) → StandsAt c.history k q → (n : ℕ) × Carries rows q.row n × (n ≤ k)
  started_by rows keeps k q ak = let t = law.started k q ak in (t.0, keeps q.row t.0 (row_at c.history k q ak) t.1, t.2)

  pub claims : (r : ℕ) → s.hand ≡ None → HasMark c.rows r free → Lawful A (core c.history (set c.rows r (held (length s.seen))) (set c.seats i (Some (claiming s r))))
  claims r idle is_free =
      let n : ℕ = length s.seen in
      let rows : List Mark = c.rows in
      let others : (j : ℕ) (t : Chair) → HasSeat c.seats j t → ¬ (t.hand ≡ Some r) = λ j t au e. let m : HasMark rows r (held t.start) = (law.each j t au).hand_held r e in let f : free ≡ held t.start = same_at rows r free (held t.start) is_free m in cc in
      let here : r < length rows = within rows r free is_free in
      let keeps = fresh_keeps c.history rows r (held n) (law.free_is_fresh r is_free) in
      record {
        grown = law.grown;
        free_is_fresh = λ q m. ⊎_elim (λ c. absurd (let e : held n ≡ free = c.1 in cc)) (λ c. law.free_is_fresh q c.1) (at_set rows r q (held n) free m);
        done_is_settled = λ q k m. ⊎_elim (λ c. absurd (let e : held n ≡ done k = c.1 in cc)) (λ c. law.done_is_settled q k c.1) (at_set rows r q (held n) (done k) m);
        held_in_hand = λ q k m. ⊎_elim
            (λ c. (i, claiming s r, here_seat (claiming s r), ap (λ (n : ℕ). Some n) (sym c.0)))
            (λ d. other_hand c.seats i s (claiming s r) q at (λ e. cc) (law.held_in_hand q k d.1))
            (at_set rows r q (held n) (held k) m);
        started = started_by (set rows r (held n)) keeps;
        each = each_seat (λ _ t. Sound c.history (set rows r (held n)) t) c.seats i (claiming s r)
            (record {
              seen_first = it.seen_first;
              hand_held = λ q e. let f : r ≡ q = cc in subst (λ (k : ℕ). HasMark (set rows r (held n)) k (held n)) f (set_here rows r (held n) here);
              hand_start = λ q e. omega arith;
              hand_in = λ q e p. absurd (cc);
              hand_out = λ q e p. let f : r ≡ q = cc in subst (λ (k : ℕ). ¬ HasRow c.history k) f (law.free_is_fresh r is_free);
              met_not_free = λ q e m. ⊎_elim (λ c. let f : held n ≡ free = c.1 in cc) (λ c. it.met_not_free q e c.1) (at_set rows r q (held n) free m);
              finished_done = λ q e. let t = it.finished_done q e in (t.0, set_else rows r q (held n) (λ f. let g : free ≡ done t.0 = same_at rows r free (done t.0) is_free (subst (λ (k : ℕ). HasMark rows k (done t.0)) f t.1) in cc) ∙ t.1);
              places_below = it.places_below;
              places_distinct = it.places_distinct;
              places_start = λ z d. let t = it.places_start z d in (t.0, t.1, keeps t.0.row z.start (row_at c.history z.place t.0 t.1) t.2);
            })
            (λ j t au ne. sound_mark c.history rows t r free (held n) (law.each j t au) is_free (others j t au) (λ k e. cc) (λ e. cc) keeps);
        apart = apart_set c.seats i (claiming s r) law.apart
            (λ j t au ne. record { hands = λ q e f. let g : r ≡ q = cc in others j t au (f ∙ ap (λ (n : ℕ). Some n) (sym g)); places = (law.apart i j s t at au (λ f. ne (sym f))).places });
      }

  -- the seat is replaced, with the same row in hand
  pub replaces : (w : Chair) → w.hand ≡ s.hand → Sound c.history c.rows w → ((j : ℕ) (t : Chair) → HasSeat c.seats j t → j ≢ i → Apart w t) → Lawful A (core c.history c.rows (set c.seats i (Some w)))
  replaces w same sound others = record {
    grown = law.grown;
    free_is_fresh = law.free_is_fresh;
    done_is_settled = law.done_is_settled;
    held_in_hand = λ r n m. let t = law.held_in_hand r n m in kept_hand c.seats i s w at same r t (ℕ_discrete t.0 i);
    started = law.started;
    each = each_seat (λ _ t. Sound c.history c.rows t) c.seats i w sound (λ j t au ne. law.each j t au);
    apart = apart_set c.seats i w law.apart others;
  }

  pub meets : (r : ℕ) → ¬ HasMark c.rows r free → Lawful A (core c.history c.rows (set c.seats i (Some (meeting s r))))
  meets r busy = replaces (meeting s r) refl
      (record {
        seen_first = it.seen_first;
        hand_held = it.hand_held;
        hand_start = it.hand_start;
        hand_in = it.hand_in;
        hand_out = it.hand_out;
        met_not_free = λ q e n. let f : r ≡ q = cc in busy (subst (λ (k : ℕ). HasMark c.rows k free) (sym f) n);
        finished_done = it.finished_done;
        places_below = it.places_below;
        places_distinct = it.places_distinct;
        places_start = it.places_start;
      })
      (λ j t au ne. let x = law.apart i j s t at au (λ f. ne (sym f)) in record { hands = x.hands; places = x.places })

  pub sees : (q : Pair) → StartsWith c.history (s.seen ++ q ∷ []) → Lawful A (core c.history c.rows (set c.seats i (Some (seeing s q))))
  sees q first = replaces (seeing s q) refl
      (record {
        seen_first = first;
        hand_held = it.hand_held;
        hand_start = λ r e. let b : s.start ≤ length s.seen = it.hand_start r e in omega (arith, length-append s.seen (q ∷ []));
        hand_in = it.hand_in;
        hand_out = it.hand_out;
        met_not_free = it.met_not_free;
        finished_done = it.finished_done;
        places_below = λ x d. let b : x.place < length s.seen = it.places_below x d in omega (arith, length-append s.seen (q ∷ []));
        places_distinct = it.places_distinct;
        places_start = it.places_start;
      })
      (λ j t au ne. let x = law.apart i j s t at au (λ f. ne (sym f)) in record { hands = x.hands; places = x.places })

  pub finishes : (r : ℕ) → s.hand ≡ Some r → HasRow c.history r ⊎ Dead A c.history r → Lawful A (core c.history (set c.rows r (done s.start)) (set c.seats i (Some (finishing s r))))
  finishes r mine settled =
      let rows : List Mark = c.rows in
      let n : ℕ = s.start in
      let is_held : HasMark rows r (held n) = it.hand_held r mine in
      let here : r < length rows = within rows r (held n) is_held in
      let keeps = done_keeps c.history rows r n is_held in
      record {
        grown = law.grown;
        free_is_fresh = λ q m. ⊎_elim (λ c. absurd (let e : done n ≡ free = c.1 in cc)) (λ c. law.free_is_fresh q c.1) (at_set rows r q (done n) free m);
        done_is_settled = λ q k m. ⊎_elim (λ d. subst (λ (z : ℕ). HasRow c.history z ⊎ Dead A c.history z) (sym d.0) settled) (λ d. law.done_is_settled q k d.1) (at_set rows r q (done n) (done k) m);
        held_in_hand = λ q k m. ⊎_elim
            (λ c. absurd (let e : done n ≡ held k = c.1 in cc))
            (λ d. let ne : q ≢ r = d.0 in other_hand c.seats i s (finishing s r) q at (λ e. let f : q ≡ r = cc in ne f) (law.held_in_hand q k d.1))
            (at_set rows r q (done n) (held k) m);
        started = started_by (set rows r (done n)) keeps;
        each = each_seat (λ _ t. Sound c.history (set rows r (done n)) t) c.seats i (finishing s r)
            (record {
              seen_first = it.seen_first;
              hand_held = λ q e. absurd (cc);
              hand_start = λ q e. absurd (cc);
              hand_in = λ q e p. absurd (cc);
              hand_out = λ q e p. absurd (cc);
              met_not_free = λ q e m. ⊎_elim (λ c. let f : done n ≡ free = c.1 in cc) (λ c. it.met_not_free q e c.1) (at_set rows r q (done n) free m);
              finished_done = λ q c. ⊎_elim
                  (λ d. let t = it.finished_done q d in (t.0, set_else rows r q (done n) (λ f. let g : held n ≡ done t.0 = same_at rows r (held n) (done t.0) is_held (subst (λ (k : ℕ). HasMark rows k (done t.0)) f t.1) in cc) ∙ t.1))
                  (λ f. (n, subst (λ (k : ℕ). HasMark (set rows r (done n)) k (done n)) f (set_here rows r (done n) here)))
                  (Contains-push_cases s.finished r q c);
              places_below = it.places_below;
              places_distinct = it.places_distinct;
              places_start = λ z d. let t = it.places_start z d in (t.0, t.1, keeps t.0.row z.start (row_at c.history z.place t.0 t.1) t.2);
            })
            (λ j t au ne. sound_mark c.history rows t r (held n) (done n) (law.each j t au) is_held (no_other j t au ne r mine) (λ k e. cc) (λ e. cc) keeps);
        apart = apart_set c.seats i (finishing s r) law.apart (λ j t au ne. record { hands = λ q e f. absurd (cc); places = (law.apart i j s t at au (λ f. ne (sym f))).places });
      }

  pub publishes : (r j : ℕ) → s.hand ≡ Some r → s.published ≡ false → c.history ≡ s.seen → Alive A c.history r j
      → Lawful A (core (c.history ++ pair r j ∷ []) c.rows (set c.seats i (Some (publishing s (pair r j)))))
  publishes r j mine unpub whole alive =
      let h : List Pair = c.history in
      let rows : List Mark = c.rows in
      let q : Pair = pair r j in
      let is_held : HasMark rows r (held s.start) = it.hand_held r mine in
      let long : length h ≡ length s.seen = ap length whole in
      let begun : s.start ≤ length s.seen = it.hand_start r mine in
      let last : StandsAt (h ++ q ∷ []) (length s.seen) q = at_last h q (length s.seen) long in
      record {
        grown = grown_push A h q law.grown alive;
        free_is_fresh = λ p m t. ⊎_elim (law.free_is_fresh p m) (λ f. let e : r ≡ p = f in let g : held s.start ≡ free = same_at rows r (held s.start) free is_held (subst (λ (n : ℕ). HasMark rows n free) (sym e) m) in cc) (row_cases h q p t);
        done_is_settled = λ p k m. settled_later A h q p (law.done_is_settled p k m);
        held_in_hand = λ p k m. let t = law.held_in_hand p k m in kept_hand c.seats i s (publishing s q) at refl p t (ℕ_discrete t.0 i);
        started = λ k p ak. ⊎_elim
            (λ e. law.started k p e)
            (λ e. (s.start, inl (subst (λ (z : Pair). HasMark rows z.row (held s.start)) e.1 is_held), (let f : k ≡ length h = e.0 in omega arith)))
            (at_push h q p k ak);
        each = each_seat (λ _ t. Sound (h ++ q ∷ []) rows t) c.seats i (publishing s q)
            (record {
              seen_first = ([], ap (λ (l : List Pair). l ++ q ∷ []) whole ∙ sym (append-nil (s.seen ++ q ∷ [])));
              hand_held = it.hand_held;
              hand_start = λ p e. omega (arith, length-append s.seen (q ∷ []));
              hand_in = λ p e n. let f : r ≡ p = cc in subst (λ (k : ℕ). HasRow (h ++ q ∷ []) k) f (row_push h q);
              hand_out = λ p e n. absurd (cc);
              met_not_free = it.met_not_free;
              finished_done = it.finished_done;
              places_below = λ x d. ⊎_elim
                  (λ d. let b : x.place < length s.seen = it.places_below x d in omega (arith, length-append s.seen (q ∷ [])))
                  (λ e. let b : length s.seen ≡ x.place = ap (λ (z : PublishedPlace). z.place) e in omega (arith, length-append s.seen (q ∷ [])))
                  (Contains-push_cases s.places (published_place (length s.seen) s.start) x d);
              places_distinct = distinct_push s.places (published_place (length s.seen) s.start) it.places_distinct (λ y d e. let b : y.place < length s.seen = it.places_below y d in let f : y.place ≡ length s.seen = e in omega arith);
              places_start = λ x d. ⊎_elim
                  (λ d. let t = it.places_start x d in (t.0, at_longer h (q ∷ []) x.place t.0 t.1, t.2))
                  (λ e. subst (λ (z : PublishedPlace). (p : Pair) × StandsAt (h ++ q ∷ []) z.place p × Carries rows p.row z.start) e (q, last, inl is_held))
                  (Contains-push_cases s.places (published_place (length s.seen) s.start) x d);
            })
            (λ k t au ne. sound_more h rows t q (law.each k t au) (no_other k t au ne r mine));
        apart = apart_set c.seats i (publishing s q) law.apart (λ k t au ne. let x = law.apart i k s t at au (λ f. ne (sym f)) in record {
          hands = x.hands;
          places = λ n m d u. ⊎_elim
              (λ d. x.places n m d u)
              (λ e f. let so = law.each k t au in let b : m.place < length t.seen = so.places_below m u in let l : length t.seen ≤ length h = seen_short h t.seen so.seen_first in let g : length s.seen ≡ n.place = ap (λ (z : PublishedPlace). z.place) e in let f' : n.place ≡ m.place = f in omega arith)
              (Contains-push_cases s.places (published_place (length s.seen) s.start) n d);
        });
      }

  -- a new seat, which has seen what this one has
  adds : Lawful A (core c.history c.rows (c.seats ++ Some (splitting s) ∷ []))
  adds = let w : Chair = splitting s in
      let sound : Sound c.history c.rows w = record {
        seen_first = it.seen_first;
        hand_held = λ r e. absurd (cc);
        hand_start = λ r e. absurd (cc);
        hand_in = λ r e p. absurd (cc);
        hand_out = λ r e p. absurd (cc);
        met_not_free = λ r e. absurd (cc);
        finished_done = λ r d. absurd (not_in_nil r d);
        places_below = λ x d. absurd (not_in_nil x d);
        places_distinct = tt;
        places_start = λ x d. absurd (not_in_nil x d);
      } in
      let lone : (t : Chair) → Apart w t = λ t. record { hands = λ r e f. absurd (cc); places = λ x y d e f. not_in_nil x d } in
      let which : (j : ℕ) (t : Chair) → HasSeat (c.seats ++ Some w ∷ []) j t → HasSeat c.seats j t ⊎ (w ≡ t) = λ j t au. ⊎_elim (λ e. inl e) (λ e. inr (let f : Some w ≡ Some t = e in cc)) (at_snoc c.seats (Some w) (Some t) j au) in
      record {
        grown = law.grown;
        free_is_fresh = law.free_is_fresh;
        done_is_settled = law.done_is_settled;
        held_in_hand = λ r n m. let t = law.held_in_hand r n m in (t.0, t.1, at_longer c.seats (Some w ∷ []) t.0 (Some t.1) t.2, t.3);
        started = law.started;
        each = λ j t au. ⊎_elim (λ e. law.each j t e) (λ e. subst (λ (x : Chair). Sound c.history c.rows x) e sound) (which j t au);
        apart = λ j k t u aj ak ne. ⊎_elim
            (λ e. ⊎_elim (λ f. law.apart j k t u e f ne) (λ f. subst (λ (x : Chair). Apart t x) f (apart_sym w t (lone t))) (which k u ak))
            (λ e. subst (λ (x : Chair). Apart x u) e (lone u))
            (which j t aj);
      }

  -- the seat was split once more
  parts : Lawful A (core c.history c.rows (set c.seats i (Some (parting s))))
  parts = replaces (parting s) refl (record {
    seen_first = it.seen_first;
    hand_held = it.hand_held;
    hand_start = it.hand_start;
    hand_in = it.hand_in;
    hand_out = it.hand_out;
    met_not_free = it.met_not_free;
    finished_done = it.finished_done;
    places_below = it.places_below;
    places_distinct = it.places_distinct;
    places_start = it.places_start;
  }) (λ j t au ne. let x = law.apart i j s t at au (λ f. ne (sym f)) in record { hands = x.hands; places = x.places })

  -- a seat that holds no row is spent
  pub leaves : s.hand ≡ None → Lawful A (core c.history c.rows (set c.seats i None))
  leaves idle = record {
    grown = law.grown;
    free_is_fresh = law.free_is_fresh;
    done_is_settled = law.done_is_settled;
    held_in_hand = λ r n m. let t = law.held_in_hand r n m in (t.0, t.1, set_else c.seats i t.0 None (λ e. let f : s ≡ t.1 = same_seat c.seats i s t.1 at (subst (λ (k : ℕ). HasSeat c.seats k t.1) e t.2) in let g : s.hand ≡ t.1.hand = ap (λ (z : Chair). z.hand) f in let v : t.1.hand ≡ Some r = t.3 in cc) ∙ t.2, t.3);
    started = law.started;
    each = λ j t au. law.each j t (seat_gone c.seats i j t au).1;
    apart = λ j k t u aj ak ne. law.apart j k t u (seat_gone c.seats i j t aj).1 (seat_gone c.seats i k u ak).1 ne;
  }

pub splits : (A : Matrix) (c : Core) → Lawful A c → (i : ℕ) (s : Chair) → HasSeat c.seats i s
    → Lawful A (core c.history c.rows (set c.seats i (Some (parting s)) ++ Some (splitting s) ∷ []))
splits A c law i s at = adds A (core c.history c.rows (set c.seats i (Some (parting s)))) (parts A c law i s at) i (parting s) (here_seat A c law i s at (parting s))

pub longer_either : (n : ℕ) (xs ys : List Pair) → n ≡ length ys - length xs → (P : List Pair → Type 0) → P xs → P ys → P (longer_by n xs ys) × (length xs ≤ length (longer_by n xs ys)) × (length ys ≤ length (longer_by n xs ys))
longer_either zero xs ys e P p q = (p, omega arith, omega arith)
longer_either (suc n) xs ys e P p q = (q, omega arith, omega arith)

pub longer_length : (n : ℕ) (xs ys : List Pair) → n ≡ length ys - length xs → (length (longer_by n xs ys) ≡ length xs) ⊎ (length xs < length ys)
longer_length zero xs ys e = inl refl
longer_length (suc n) xs ys e = inr (omega arith)

pub joins : (A : Matrix) (c : Core) → Lawful A c → (i j : ℕ) (s t : Chair) → HasSeat c.seats i s → HasSeat c.seats j t → j ≢ i → t.hand ≡ None
    → Lawful A (core c.history c.rows (set (set c.seats i (Some (joining s t))) j None))
joins A c law i j s t at au ne idle =
    let w : Chair = joining s t in
    let so = law.each i s at in let to = law.each j t au in
    let both = law.apart i j s t at au (λ e. ne (sym e)) in
    let gone : Core = core c.history c.rows (set c.seats j None) in
    let law' : Lawful A gone = leaves A c law j t au idle in
    let at' : HasSeat gone.seats i s = set_else c.seats j i None (λ e. ne (sym e)) ∙ at in
    let l = longer_either (length t.seen - length s.seen) s.seen t.seen refl (λ x. StartsWith c.history x) so.seen_first to.seen_first in
    let sound : Sound c.history c.rows w = record {
      seen_first = l.0;
      hand_held = so.hand_held;
      hand_start = λ r e. let b : s.start ≤ length s.seen = so.hand_start r e in let m : length s.seen ≤ length (longer s.seen t.seen) = l.1 in omega arith;
      hand_in = so.hand_in;
      hand_out = so.hand_out;
      met_not_free = so.met_not_free;
      finished_done = λ r d. ⊎_elim (so.finished_done r) (to.finished_done r) (Contains-append_cases s.finished t.finished r d);
      places_below = λ x d. ⊎_elim
          (λ d. let b : x.place < length s.seen = so.places_below x d in let m : length s.seen ≤ length (longer s.seen t.seen) = l.1 in omega arith)
          (λ d. let b : x.place < length t.seen = to.places_below x d in let m : length t.seen ≤ length (longer s.seen t.seen) = l.2 in omega arith)
          (Contains-append_cases s.places t.places x d);
      places_distinct = distinct_append s.places t.places so.places_distinct to.places_distinct both.places;
      places_start = λ x d. ⊎_elim (so.places_start x) (to.places_start x) (Contains-append_cases s.places t.places x d);
    } in
    let others : (k : ℕ) (u : Chair) → HasSeat gone.seats k u → k ≢ i → Apart w u = λ k u av nk.
    let e = seat_gone c.seats j k u av in
    let x = law.apart i k s u at e.1 (λ f. nk (sym f)) in let y = law.apart j k t u au e.1 (λ f. e.0 (sym f)) in record {
      hands = x.hands;
      places = λ n m d v. ⊎_elim (λ b. x.places n m b v) (λ b. y.places n m b v) (Contains-append_cases s.places t.places n d);
    } in
    subst (λ (x : Seats). Lawful A (core c.history c.rows x)) (set_swap c.seats j i None (Some w) ne) (replaces A gone law' i s at' w refl sound others)
