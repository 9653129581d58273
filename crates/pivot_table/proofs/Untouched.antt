-- A board on which nothing was done yet: the first seat tells it, since each of its turns leaves a trace on it.
use Rattle.std.proofs.Common.{◌≡◌, ℕ, ◌+◌, ◌-◌, ◌*◌, ◌<◌, ◌≤◌, List, [], ◌∷◌, ◌++◌, length, set, sym, refl, ap, ◌∙◌, ⊎_elim, subst, arith, length-append, length-set}
use Rattle.std.specs.Prelude.{Option, None, Some, replicate}
use Rattle.residue_words.specs.Matrix.{Matrix}
use Rattle.residue_words.specs.declared.plain.Pair.{Pair}
use Rattle.pivot_table.specs.History.{pair, Grown, HasRow}
use Rattle.pivot_table.specs.Core.{Mark, free, done, Chair, Core, HasSeat, HasMark, Turn, claim, see, publish, finish, meet, split, join, Goes, IsRun, Reached, opening, opened, opening_marks, claiming, seeing, publishing, finishing, meeting, parting, splitting, joining}
use Rattle.pivot_table.proofs.Listed.{within, at_within, at_push}
use Rattle.pivot_table.proofs.Lawfully.{longer_either}
use Rattle.pivot_table.proofs.Seats.{Seats, seat_set, seat_gone}
use Rattle.pivot_table.proofs.Runs.{the_one, row_done, marked_cases, free_at, length-opening_marks}

abbrev some_count : Option ℕ → ℕ
some_count None = 0
some_count (Some r) = 1

-- how much a seat did: no turn lowers it
abbrev worth : Chair → ℕ
worth s = length s.seen + 2 * length s.finished + s.parted + some_count s.hand + some_count s.met

-- the first seat did more than n, if it isn't spent
abbrev DidMore : ℕ → Seats → Type 0
DidMore n seats = (s : Chair) → HasSeat seats 0 s → n < worth s

more_set : (n : ℕ) (seats : Seats) (i : ℕ) (s w : Chair) → HasSeat seats i s → worth s ≤ worth w → DidMore n seats → DidMore n (set seats i (Some w))
more_set n seats i s w at le old t au = ⊎_elim
    (λ e. let b = old s (subst (λ (k : ℕ). HasSeat seats k s) (sym e.0) at) in let f = ap worth e.1 in omega arith)
    (λ m. old t m.1)
    (seat_set seats i 0 w t au)

some_low : (o : Option ℕ) → some_count o ≤ 1
some_low None = omega arith
some_low (Some r) = omega arith

-- what each turn makes of the seat
claims_more : (s : Chair) (r : ℕ) → s.hand ≡ None → worth s < worth (claiming s r)
claims_more s r idle = let e : some_count s.hand ≡ 0 = ap some_count idle in omega arith

sees_more : (s : Chair) (q : Pair) → worth s < worth (seeing s q)
sees_more s q = omega (arith, length-append s.seen (q ∷ []))

publishes_more : (s : Chair) (q : Pair) → worth s < worth (publishing s q)
publishes_more s q = omega (arith, length-append s.seen (q ∷ []))

finishes_more : (s : Chair) (r : ℕ) → worth s < worth (finishing s r)
finishes_more s r = let e = some_low s.hand in omega (arith, length-append s.finished (r ∷ []))

meets_more : (s : Chair) (r : ℕ) → worth s ≤ worth (meeting s r)
meets_more s r = let e = some_low s.met in omega arith

joins_more : (s t : Chair) → worth s ≤ worth (joining s t)
joins_more s t = let l = (longer_either (length t.seen - length s.seen) s.seen t.seen refl (λ _. Unit {0}) tt tt).1 in omega (arith, length-append s.finished t.finished)

more_snoc : (n : ℕ) (seats : Seats) (i : ℕ) (s w t : Chair) → HasSeat seats i s → DidMore n (set seats i (Some w)) → DidMore n (set seats i (Some w) ++ Some t ∷ [])
more_snoc n seats i s w t at more u au = ⊎_elim
    (λ e. more u e)
    (λ e. absurd (let l = within seats i (Some s) at in let z = e.0 in omega (arith, length-set seats i (Some w))))
    (at_push (set seats i (Some w)) (Some t) (Some u) 0 au)

more_gone : (n : ℕ) (seats : Seats) (j : ℕ) → DidMore n seats → DidMore n (set seats j None)
more_gone n seats j more u au = more u (seat_gone seats j 0 u au).1

goes_more : (A : Matrix) (n : ℕ) (c d : Core) (e : Turn) → DidMore n c.seats → Goes A c e d → DidMore n d.seats
goes_more A n c d (claim i r) m g = subst (λ (x : Core). DidMore n x.seats) (sym g.4) (more_set n c.seats i g.0 (claiming g.0 r) g.1 (let b = claims_more g.0 r g.2 in omega arith) m)
goes_more A n c d (see i) m g = subst (λ (x : Core). DidMore n x.seats) (sym g.4) (more_set n c.seats i g.0 (seeing g.0 g.1) g.2 (let b = sees_more g.0 g.1 in omega arith) m)
goes_more A n c d (publish i j) m g = subst (λ (x : Core). DidMore n x.seats) (sym g.7) (more_set n c.seats i g.0 (publishing g.0 (pair g.1 j)) g.2 (let b = publishes_more g.0 (pair g.1 j) in omega arith) m)
goes_more A n c d (finish i) m g = subst (λ (x : Core). DidMore n x.seats) (sym g.5) (more_set n c.seats i g.0 (finishing g.0 g.1) g.2 (let b = finishes_more g.0 g.1 in omega arith) m)
goes_more A n c d (meet i r) m g = subst (λ (x : Core). DidMore n x.seats) (sym g.3) (more_set n c.seats i g.0 (meeting g.0 r) g.1 (meets_more g.0 r) m)
goes_more A n c d (split i) m g = subst (λ (x : Core). DidMore n x.seats) (sym g.2) (more_snoc n c.seats i g.0 (parting g.0) (splitting g.0) g.1 (more_set n c.seats i g.0 (parting g.0) g.1 (omega arith) m))
goes_more A n c d (join i j) m g = subst (λ (x : Core). DidMore n x.seats) (sym g.6) (more_gone n (set c.seats i (Some (joining g.0 g.1))) j (more_set n c.seats i g.0 (joining g.0 g.1) g.2 (joins_more g.0 g.1) m))

run_more : (A : Matrix) (n : ℕ) (es : List Turn) (c d : Core) → DidMore n c.seats → IsRun A c es d → DidMore n d.seats
run_more A n [] c d m r = subst (λ (x : Core). DidMore n x.seats) r m
run_more A n (e ∷ es) c d m r = run_more A n es r.0 d (goes_more A n c r.0 e m r.1) r.2

module _ (A : Matrix) (h : List Pair) (grown : Grown A h) where
  abbrev start : ℕ
  start = worth (opened h)

  -- the seat of the opening that is written did more than at first
  first_set : (i : ℕ) (s w : Chair) → HasSeat (opening A h).seats i s → worth s < worth w → DidMore start (set (opening A h).seats i (Some w))
  first_set i s w at lt t au =
      let it = the_one A h grown i s at in
      let b = ap worth it.1 in
      ⊎_elim (λ e. let f = ap worth e.1 in omega arith) (λ m. absurd (m.0 (sym it.0))) (seat_set (opening A h).seats i 0 w t au)

  first_more : (d : Core) (e : Turn) → Goes A (opening A h) e d → DidMore start d.seats
  first_more d (claim i r) g = subst (λ (x : Core). DidMore start x.seats) (sym g.4) (first_set i g.0 (claiming g.0 r) g.1 (claims_more g.0 r g.2))
  first_more d (see i) g = subst (λ (x : Core). DidMore start x.seats) (sym g.4) (first_set i g.0 (seeing g.0 g.1) g.2 (sees_more g.0 g.1))
  first_more d (publish i j) g = subst (λ (x : Core). DidMore start x.seats) (sym g.7) (first_set i g.0 (publishing g.0 (pair g.1 j)) g.2 (publishes_more g.0 (pair g.1 j)))
  first_more d (finish i) g = subst (λ (x : Core). DidMore start x.seats) (sym g.5) (first_set i g.0 (finishing g.0 g.1) g.2 (finishes_more g.0 g.1))
  first_more d (meet i r) g =
      let it = the_one A h grown i g.0 g.1 in
      let e : some_count g.0.met ≡ 0 = sym (ap (λ (s : Chair). some_count s.met) it.1) in
      subst (λ (x : Core). DidMore start x.seats) (sym g.3) (first_set i g.0 (meeting g.0 r) g.1 (omega arith))
  first_more d (split i) g = subst (λ (x : Core). DidMore start x.seats) (sym g.2) (more_snoc start (opening A h).seats i g.0 (parting g.0) (splitting g.0) g.1 (first_set i g.0 (parting g.0) g.1 (omega arith)))
  first_more d (join i j) g = absurd (g.4 ((the_one A h grown j g.1 g.3).0 ∙ sym (the_one A h grown i g.0 g.2).0))

  none_done : (c : Core) → HasSeat c.seats 0 (opened h) → (es : List Turn) → IsRun A (opening A h) es c → c ≡ opening A h
  none_done c at [] e = sym e
  none_done c at (e ∷ es) t = absurd (let m = run_more A start es t.0 c (first_more t.0 e t.1) t.2 (opened h) at in omega arith)

pub untouched : (A : Matrix) (h : List Pair) (c : Core) → Reached A h c → HasSeat c.seats 0 (opened h) → c ≡ opening A h
untouched A h c r at = none_done A h r.0 c at r.1.0 r.1.1

pub opening_free : (A : Matrix) (h : List Pair) (r : ℕ) → Grown A h → r < A.height → (HasRow h r → HasMark (opening_marks A h) r (done 0)) × (¬ HasRow h r → HasMark (opening_marks A h) r free)
opening_free A h r grown low = (
  row_done A h grown r,
  λ not.
      let long = length-opening_marks A h in
      let m = at_within (opening_marks A h) r (omega arith) in
      ⊎_elim (λ t. absurd (not t.0))
      (λ t. subst (λ (x : Mark). HasMark (opening_marks A h) r x) (sym (free_at A.height r m.0 t.1)) m.1)
      (marked_cases h (replicate A.height free) r m.0 m.1),
)
