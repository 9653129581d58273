-- Runs of the core: the opening is lawful, each turn keeps what is lawful, and the history only grows.
use Rattle.std.proofs.Common.{◌≡◌, ◌≢◌, ℕ, zero, suc, ◌≤◌, ◌⊎◌, List, [], ◌∷◌, ◌++◌, length, set, sym, refl, ap, ◌∙◌, inl, inr, ⊎_elim, subst, arith, length-set, length-append, append_assoc}
use Rattle.std.specs.Prelude.{Some, replicate}
use mathlib.Core.Option.{some, some-injective, some-ne-none}
use lib.ListN.{get_elem?}
use Rattle.std.specs.List.{Contains}
use Rattle.std.proofs.lemmas.List.{append-nil, length-replicate}
use Rattle.std.proofs.lemmas.List.Elements.{Contains-push_cases, Contains-append_cases}
use Rattle.atomic_table.proofs.Lists.{at_set, at_snoc}
use Rattle.residue_words.specs.Matrix.{Matrix}
use Rattle.residue_words.specs.declared.plain.Pair.{Pair}
use Rattle.pivot_table.specs.History.{pair, HasRow, Grown, StartsWith}
use Rattle.pivot_table.specs.Core.{Mark, free, held, done, PublishedPlace, published_place, Chair, Core, HasSeat, HasMark, Turn, claim, see, publish, finish, meet, split, join, Goes, IsRun, Reached, opening, opened, rows_of, with_done, opening_marks, claiming, seeing, publishing, finishing, meeting, parting, splitting, joining}
use Rattle.pivot_table.specs.Lawful.{Sound, Lawful, After, IsSameOrOneMore}
use Rattle.residue_words.proofs.Lists.{not_in_nil, in_head, in_tail, in_cases, cut_at}
use Rattle.pivot_table.proofs.Listed.{at_within}
use Rattle.pivot_table.proofs.Growth.{dead_later}
use Rattle.pivot_table.proofs.Seats.{Seats, seat_gone, each_seat, row_at}
use Rattle.pivot_table.proofs.Lawfully.{claims, meets, sees, finishes, publishes, splits, joins}

-- The opening

nil_row : (r : ℕ) → ¬ HasRow [] r
nil_row r t = not_in_nil t.0 t.1

row_here : (q : Pair) (qs : List Pair) (r : ℕ) → r ≡ q.row → HasRow (q ∷ qs) r
row_here q qs r e = (q, in_head q qs, sym e)

row_there : (q : Pair) (qs : List Pair) (r : ℕ) → HasRow qs r → HasRow (q ∷ qs) r
row_there q qs r t = (t.0, in_tail q qs t.0 t.1, t.2)

row_split : (q : Pair) (qs : List Pair) (r : ℕ) → HasRow (q ∷ qs) r → (q.row ≡ r) ⊎ HasRow qs r
row_split q qs r t = ⊎_elim
    (λ e. inl (ap (λ (x : Pair). x.row) e ∙ t.2))
    (λ c. inr (t.0, c, t.2))
    (in_cases q qs t.0 t.1)

pub marked_cases : (h : List Pair) (rows : List Mark) (r : ℕ) (x : Mark) → HasMark (with_done h rows) r x → (HasRow h r × (x ≡ done 0)) ⊎ ((¬ HasRow h r) × HasMark rows r x)
marked_cases [] rows r x m = inr (nil_row r, m)
marked_cases (q ∷ qs) rows r x m = ⊎_elim
    (λ t. inl (row_there q qs r t.0, t.1))
    (λ t. ⊎_elim
    (λ e. inl (row_here q qs r e.0, sym e.1))
    (λ e. let ne : r ≢ q.row = e.0 in inr ((λ u. ⊎_elim (λ f. ne (sym f)) t.0 (row_split q qs r u)), e.1))
    (at_set rows q.row r (done 0) x t.1))
    (marked_cases qs (set rows q.row (done 0)) r x m)

pub length-marked : (h : List Pair) (rows : List Mark) → length (with_done h rows) ≡ length rows
length-marked [] rows = refl
length-marked (q ∷ qs) rows = length-marked qs (set rows q.row (done 0)) ∙ length-set rows q.row (done 0)

pub length-opening_marks : (A : Matrix) (h : List Pair) → length (opening_marks A h) ≡ A.height
length-opening_marks A h = length-marked h (replicate A.height free) ∙ length-replicate A.height free

pub free_at : (n r : ℕ) (x : Mark) → HasMark (replicate n free) r x → free ≡ x
free_at zero r x m = absurd (some-ne-none x (sym m))
free_at (suc n) zero x m = some-injective free x m
free_at (suc n) (suc r) x m = free_at n r x m

contains_rows : (h : List Pair) (r : ℕ) → Contains (rows_of h) r → HasRow h r
contains_rows [] r c = absurd (not_in_nil r c)
contains_rows (q ∷ qs) r c = ⊎_elim
    (λ e. row_here q qs r (sym e))
    (λ d. row_there q qs r (contains_rows qs r d))
    (in_cases q.row (rows_of qs) r c)

pub lone : {A : Type 0} (a b : A) (i : ℕ) → get_elem? (a ∷ []) i ≡ some b → (i ≡ 0) × (a ≡ b)
lone a b zero e = (refl, some-injective a b e)
lone a b (suc i) e = absurd (some-ne-none b (sym e))

module _ (A : Matrix) (h : List Pair) (grown : Grown A h) where
  pub row_done : (r : ℕ) → HasRow h r → HasMark (opening_marks A h) r (done 0)
  row_done r t =
      let c = cut_at h t.0 t.1 in let al = (grown c.0 t.0 c.1 c.2).entry.0 in let e : t.0.row ≡ r = t.2 in
      let long = length-opening_marks A h in
      let m = at_within (opening_marks A h) r (omega arith) in
      ⊎_elim (λ d. subst (λ (x : Mark). HasMark (opening_marks A h) r x) d.1 m.1) (λ n. absurd (n.0 t)) (marked_cases h (replicate A.height free) r m.0 m.1)

  pub the_one : (i : ℕ) (s : Chair) → HasSeat (opening A h).seats i s → (i ≡ 0) × (opened h ≡ s)
  the_one i s at = let e = lone (Some (opened h)) (Some s) i at in (e.0, (let f : Some (opened h) ≡ Some s = e.1 in cc))

  pub opens : Lawful A (opening A h)
  opens = record {
    grown = grown;
    free_is_fresh = λ r m. ⊎_elim (λ d. let e : free ≡ done 0 = d.1 in absurd (cc)) (λ n. n.0) (marked_cases h (replicate A.height free) r free m);
    done_is_settled = λ r k m. ⊎_elim (λ d. inl d.0) (λ n. absurd (let e : free ≡ done k = free_at A.height r (done k) n.1 in cc)) (marked_cases h (replicate A.height free) r (done k) m);
    held_in_hand = λ r k m. absurd (⊎_elim (λ d. let e : held k ≡ done 0 = d.1 in cc) (λ n. let e : free ≡ held k = free_at A.height r (held k) n.1 in cc) (marked_cases h (replicate A.height free) r (held k) m));
    started = λ k q at. (0, inr (row_done q.row (row_at h k q at)), omega arith);
    each = λ i s at. subst (λ (x : Chair). Sound h (opening_marks A h) x) (the_one i s at).1 (record {
      seen_first = ([], sym (append-nil h));
      hand_held = λ r e. absurd (cc);
      hand_start = λ r e. absurd (cc);
      hand_in = λ r e p. absurd (cc);
      hand_out = λ r e p. absurd (cc);
      met_not_free = λ r e. absurd (cc);
      finished_done = λ r c. (0, row_done r (contains_rows h r c));
      places_below = λ x c. absurd (not_in_nil x c);
      places_distinct = tt;
      places_start = λ x c. absurd (not_in_nil x c);
    });
    apart = λ i j s t at au ne. absurd (ne ((the_one i s at).0 ∙ sym (the_one j t au).0));
  }

  pub opens_after : After h (opening A h)
  opens_after = record {
    begins = ([], sym (append-nil h));
    behind = λ i s x at c. absurd (not_in_nil x (subst (λ (u : Chair). Contains u.places x) (sym (the_one i s at).1) c));
  }

-- Turns

pub goes_lawful : (A : Matrix) (c d : Core) (e : Turn) → Lawful A c → Goes A c e d → Lawful A d
goes_lawful A c d (claim i r) law g = subst (λ (x : Core). Lawful A x) (sym g.4) (claims A c law i g.0 g.1 r g.2 g.3)
goes_lawful A c d (see i) law g = subst (λ (x : Core). Lawful A x) (sym g.4) (sees A c law i g.0 g.2 g.1 g.3)
goes_lawful A c d (publish i j) law g = subst (λ (x : Core). Lawful A x) (sym g.7) (publishes A c law i g.0 g.2 g.1 j g.3 g.4 g.5 g.6.0)
goes_lawful A c d (finish i) law g =
    let so = law.each i g.0 g.2 in
    subst (λ (x : Core). Lawful A x) (sym g.5) (finishes A c law i g.0 g.2 g.1 g.3
    (⊎_elim (λ p. inl (so.hand_in g.1 g.3 p)) (λ d. inr (dead_later A c.history g.0.seen g.1 so.seen_first d)) g.4))
goes_lawful A c d (meet i r) law g = subst (λ (x : Core). Lawful A x) (sym g.3) (meets A c law i g.0 g.1 r g.2)
goes_lawful A c d (split i) law g = subst (λ (x : Core). Lawful A x) (sym g.2) (splits A c law i g.0 g.1)
goes_lawful A c d (join i j) law g = subst (λ (x : Core). Lawful A x) (sym g.6) (joins A c law i j g.0 g.1 g.2 g.3 g.4 g.5)

pub grows : (A : Matrix) (c d : Core) (e : Turn) → Goes A c e d → IsSameOrOneMore c.history d.history
grows A c d (claim i r) g = inl (ap (λ (x : Core). x.history) g.4)
grows A c d (see i) g = inl (ap (λ (x : Core). x.history) g.4)
grows A c d (publish i j) g = inr (pair g.1 j, ap (λ (x : Core). x.history) g.7, g.6.0.fresh_row, g.6.0.fresh_col)
grows A c d (finish i) g = inl (ap (λ (x : Core). x.history) g.5)
grows A c d (meet i r) g = inl (ap (λ (x : Core). x.history) g.3)
grows A c d (split i) g = inl (ap (λ (x : Core). x.history) g.2)
grows A c d (join i j) g = inl (ap (λ (x : Core). x.history) g.6)

starts_more : (h g seen more : List Pair) → StartsWith g h → StartsWith (g ++ more) h
starts_more h g seen more s = (s.0 ++ more, ap (λ (l : List Pair). l ++ more) s.1 ∙ append_assoc h s.0 more)

abbrev Behind : List Pair → Seats → Type 0
Behind h seats = (i : ℕ) (s : Chair) (x : PublishedPlace) → HasSeat seats i s → Contains s.places x → length h ≤ x.place

behind_set : (h : List Pair) (seats : Seats) (i : ℕ) (s w : Chair) → HasSeat seats i s → Behind h seats → ((x : PublishedPlace) → Contains w.places x → Contains s.places x ⊎ (length h ≤ x.place)) → Behind h (set seats i (Some w))
behind_set h seats i s w at b new j t x au c = each_seat (λ _ u. (y : PublishedPlace) → Contains u.places y → length h ≤ y.place) seats i w (λ y d. ⊎_elim (λ o. b i s y at o) (λ n. n) (new y d)) (λ k u av _ y d. b k u y av d) j t au x c

pub goes_after : (A : Matrix) (h : List Pair) (c d : Core) (e : Turn) → After h c → Goes A c e d → After h d
goes_after A h c d (claim i r) a g = subst (λ (x : Core). After h x) (sym g.4) (record { begins = a.begins; behind = behind_set h c.seats i g.0 (claiming g.0 r) g.1 a.behind (λ x m. inl m) })
goes_after A h c d (see i) a g = subst (λ (x : Core). After h x) (sym g.4) (record { begins = a.begins; behind = behind_set h c.seats i g.0 (seeing g.0 g.1) g.2 a.behind (λ x m. inl m) })
goes_after A h c d (publish i j) a g =
    let s : Chair = g.0 in
    let whole : c.history ≡ s.seen = g.5 in
    let long : length c.history ≡ length s.seen = ap length whole in
    let most : length c.history ≡ length (h ++ a.begins.0) = ap length a.begins.1 in
    subst (λ (x : Core). After h x) (sym g.7) (record {
      begins = starts_more h c.history s.seen (pair g.1 j ∷ []) a.begins;
      behind = behind_set h c.seats i s (publishing s (pair g.1 j)) g.2 a.behind (λ x m. ⊎_elim (λ o. inl o)
          (λ e. let f : length s.seen ≡ x.place = ap (λ (z : PublishedPlace). z.place) e in inr (omega (arith, length-append h a.begins.0)))
          (Contains-push_cases s.places (published_place (length s.seen) s.start) x m));
    })
goes_after A h c d (finish i) a g = subst (λ (x : Core). After h x) (sym g.5) (record { begins = a.begins; behind = behind_set h c.seats i g.0 (finishing g.0 g.1) g.2 a.behind (λ x m. inl m) })
goes_after A h c d (meet i r) a g = subst (λ (x : Core). After h x) (sym g.3) (record { begins = a.begins; behind = behind_set h c.seats i g.0 (meeting g.0 r) g.1 a.behind (λ x m. inl m) })
goes_after A h c d (split i) a g = subst (λ (x : Core). After h x) (sym g.2) (record {
  begins = a.begins;
  behind = λ j t x au m. ⊎_elim
      (λ e. behind_set h c.seats i g.0 (parting g.0) g.1 a.behind (λ y n. inl n) j t x e m)
      (λ e. let f : Some (splitting g.0) ≡ Some t = e in let k : splitting g.0 ≡ t = cc in absurd (not_in_nil x (subst (λ (u : Chair). Contains u.places x) (sym k) m)))
      (at_snoc (set c.seats i (Some (parting g.0))) (Some (splitting g.0)) (Some t) j au);
})
goes_after A h c d (join i j) a g =
    let s : Chair = g.0 in let t : Chair = g.1 in
    subst (λ (x : Core). After h x) (sym g.6) (record {
      begins = a.begins;
      behind = λ k u x au m. behind_set h c.seats i s (joining s t) g.2 a.behind
          (λ y b. ⊎_elim (λ o. inl o) (λ o. inr (a.behind j t y g.3 o)) (Contains-append_cases s.places t.places y b))
          k u x (seat_gone (set c.seats i (Some (joining s t))) j k u au).1 m;
    })

-- Runs

run_lawful : (A : Matrix) (es : List Turn) (c d : Core) → Lawful A c → IsRun A c es d → Lawful A d
run_lawful A [] c d law r = subst (λ (x : Core). Lawful A x) r law
run_lawful A (e ∷ es) c d law r = run_lawful A es r.0 d (goes_lawful A c r.0 e law r.1) r.2

run_after : (A : Matrix) (h : List Pair) (es : List Turn) (c d : Core) → After h c → IsRun A c es d → After h d
run_after A h [] c d a r = subst (λ (x : Core). After h x) r a
run_after A h (e ∷ es) c d a r = run_after A h es r.0 d (goes_after A h c r.0 e a r.1) r.2

run_snoc : (A : Matrix) (es : List Turn) (c b d : Core) (e : Turn) → IsRun A c es b → Goes A b e d → IsRun A c (es ++ e ∷ []) d
run_snoc A [] c b d e r g = (d, subst (λ (x : Core). Goes A x e d) (sym r) g, refl)
run_snoc A (f ∷ es) c b d e r g = (r.0, r.1, run_snoc A es r.0 b d e r.2 g)

pub reached_lawful : (A : Matrix) (h : List Pair) (c : Core) → Reached A h c → Lawful A c
reached_lawful A h c r = run_lawful A r.1.0 (opening A h) c (opens A h r.0) r.1.1

pub reached_after : (A : Matrix) (h : List Pair) (c : Core) → Reached A h c → After h c
reached_after A h c r = run_after A h r.1.0 (opening A h) c (opens_after A h r.0) r.1.1

pub reached_next : (A : Matrix) (h : List Pair) (b d : Core) (e : Turn) → Reached A h b → Goes A b e d → Reached A h d
reached_next A h b d e r g = (r.0, (r.1.0 ++ e ∷ [], run_snoc A r.1.0 (opening A h) b d e r.1.1 g))
