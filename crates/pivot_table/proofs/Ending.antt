-- What follows of the last state of a board.
use Rattle.std.proofs.Common.{◌≡◌, ℕ, zero, suc, ◌+◌, ◌-◌, ◌<◌, ◌≤◌, ◌⊎◌, Bool, true, false, cond, ltb, List, [], ◌∷◌, ◌++◌, length, map, drop, get_or, sym, refl, ap, ◌∙◌, ⊎_elim, subst, arith, length-append}
use Rattle.std.specs.Prelude.{Option, None, Some, replicate}
use mathlib.Core.Option.{some}
use Rattle.std.specs.List.{Contains}
use Rattle.std.proofs.lemmas.Bool.{ltb-false, ltb-true, le-ltb, lt-ltb}
use Rattle.std.proofs.lemmas.List.{get_or-map, get_or-drop, length-map, length-drop}
use Rattle.residue_words.specs.Matrix.{Matrix}
use Rattle.residue_words.specs.declared.plain.Pair.{Pair}
use Rattle.pivot_table.specs.History.{pair, HasRow, Dead, StartsWith}
use Rattle.pivot_table.specs.Core.{Mark, free, held, done, PublishedPlace, Chair, Core, HasSeat, HasMark, StandsAt, Carries, opened, opening}
use Rattle.pivot_table.specs.Board.{SeatState}
use Rattle.pivot_table.specs.Lawful.{Lawful, After, Sound}
use Rattle.pivot_table.specs.Closing.{StartsState, start_at, IsDone, AreStartsFrom, is_done, start_of, start_in}
use Rattle.pivot_table.specs.Last.{IsLast}
use Rattle.pivot_table.specs.declared.closed_board.Closed.{Closed}
use Rattle.pivot_table.proofs.Listed.{within, at_get, read_at}
use Rattle.pivot_table.proofs.Runs.{reached_lawful, reached_after, marked_cases, free_at}
use Rattle.pivot_table.proofs.Untouched.{untouched}

done_mark : (x : Mark) → is_done x ≡ true → (n : ℕ) × (x ≡ done n)
done_mark free e = absurd (cc)
done_mark (held n) e = absurd (cc)
done_mark (done n) e = (n, refl)

marked_of : (rows : List Mark) (r n : ℕ) → get_or rows r free ≡ done n → HasMark rows r (done n)
marked_of [] r n e = absurd (cc)
marked_of (x ∷ xs) zero n e = ap some e
marked_of (x ∷ xs) (suc r) n e = marked_of xs r n e

read_done : (rows : List Mark) (r : ℕ) → get_or (map is_done rows) r false ≡ is_done (get_or rows r free)
read_done [] r = refl
read_done (x ∷ xs) zero = refl
read_done (x ∷ xs) (suc r) = read_done xs r

carried : (rows : List Mark) (r n : ℕ) → Carries rows r n → start_of (get_or rows r free) ≡ n
carried rows r n c = ⊎_elim (λ m. ap start_of (read_at rows r (held n) free m)) (λ m. ap start_of (read_at rows r (done n) free m)) c

-- a start that is told
abbrev told : Bool → Bool → ℕ → Option ℕ
told x y v = cond x None (cond y (Some v) None)

tells : (x y : Bool) (v n : ℕ) → told x y v ≡ Some n → (x ≡ false) × (y ≡ true) × (v ≡ n)
tells true y v n e = absurd (cc)
tells false true v n e = (refl, refl, cc)
tells false false v n e = absurd (cc)

start_there : (b : StartsState) (k : ℕ) → b.first ≤ k → k - b.first < length b.starts → start_at b k ≡ Some (get_or b.starts (k - b.first) 0)
start_there b k le lt = ap (λ (x : Bool). told x (ltb (k - b.first) (length b.starts)) (get_or b.starts (k - b.first) 0)) (le-ltb k b.first le)
    ∙ ap (λ (y : Bool). told false y (get_or b.starts (k - b.first) 0)) (lt-ltb (k - b.first) (length b.starts) lt)

module _ (A : Matrix) (h0 : List Pair) (s : SeatState) (left : Closed) (l : IsLast A h0 s left) where
  law : Lawful A l.last
  law = reached_lawful A h0 l.last l.reached

  after : After h0 l.last
  after = reached_after A h0 l.last l.reached

  it : Sound l.last.history l.last.rows s.chair
  it = law.each s.number s.chair l.seat

  pub last_begins : StartsWith left.book.pairs h0
  last_begins = subst (λ (x : List Pair). StartsWith x h0) l.history after.begins

  pub last_seen : StartsWith left.book.pairs s.chair.seen
  last_seen = subst (λ (x : List Pair). StartsWith x s.chair.seen) l.history it.seen_first

  pub last_tall : length left.done ≡ A.height
  last_tall = ap length l.done ∙ length-map l.last.rows is_done ∙ l.tall

  done_is : (r : ℕ) → get_or left.done r false ≡ is_done (get_or l.last.rows r free)
  done_is r = ap (λ (m : List Bool). get_or m r false) l.done ∙ read_done l.last.rows r

  pub last_settled : (r : ℕ) → IsDone left.done r → HasRow left.book.pairs r ⊎ Dead A left.book.pairs r
  last_settled r d = let t = done_mark (get_or l.last.rows r free) (sym (done_is r) ∙ d) in
      subst (λ (x : List Pair). HasRow x r ⊎ Dead A x r) l.history (law.done_is_settled r t.0 (marked_of l.last.rows r t.0 t.1))

  pub last_finished : (r : ℕ) → Contains s.chair.finished r → IsDone left.done r
  last_finished r c = let t = it.finished_done r c in done_is r ∙ ap is_done (read_at l.last.rows r (done t.0) free t.1)

  -- where the first seat did nothing
  pub last_untouched : s.number ≡ 0 → s.chair ≡ opened h0 → (r : ℕ) → IsDone left.done r → HasRow h0 r
  last_untouched first same r d =
      let seat : HasSeat l.last.seats 0 (opened h0) = subst (λ (c : Chair). HasSeat l.last.seats 0 c) same (subst (λ (n : ℕ). HasSeat l.last.seats n s.chair) first l.seat) in
      let still : l.last ≡ opening A h0 = untouched A h0 l.last l.reached seat in
      let t = done_mark (get_or l.last.rows r free) (sym (done_is r) ∙ d) in
      let m = subst (λ (c : Core). HasMark c.rows r (done t.0)) still (marked_of l.last.rows r t.0 t.1) in
      ⊎_elim (λ c. c.0)
      (λ c. absurd (let e : free ≡ done t.0 = free_at A.height r (done t.0) c.1 in cc))
      (marked_cases h0 (replicate A.height free) r (done t.0) m)

  long : length left.starts.starts + length h0 ≡ length left.book.pairs
  long = let n : length left.book.pairs ≡ length (h0 ++ last_begins.0) = ap length last_begins.1 in
      let e : length left.starts.starts ≡ length (map (start_in l.last.rows) (drop (length h0) left.book.pairs)) = ap length l.starts in
      omega (arith, length-append h0 last_begins.0, length-map (drop (length h0) left.book.pairs) (start_in l.last.rows), length-drop (length h0) left.book.pairs)

  -- the start at a place is the one that the row there carries
  start_is : (k n : ℕ) (q : Pair) → length h0 ≤ k → StandsAt left.book.pairs k q → Carries l.last.rows q.row n → start_at left.starts k ≡ Some n
  start_is k n q le at c =
      let lt : k < length left.book.pairs = within left.book.pairs k q at in
      let all = long in
      let first = l.first in
      let i : ℕ = k - left.starts.first in
      let place : length h0 + i ≡ k = omega arith in
      let d : Pair = pair 0 0 in
      let rest : List Pair = drop (length h0) left.book.pairs in
      let short : i < length rest = omega (arith, length-drop (length h0) left.book.pairs) in
      let one : get_or left.starts.starts i 0 ≡ n = ap (λ (x : List ℕ). get_or x i 0) l.starts
      ∙ get_or-map (start_in l.last.rows) rest i d 0 short
      ∙ ap (start_in l.last.rows) (get_or-drop (length h0) left.book.pairs i d ∙ ap (λ (j : ℕ). get_or left.book.pairs j d) place ∙ read_at left.book.pairs k q d at)
      ∙ carried l.last.rows q.row n c in
      start_there left.starts k (omega arith) (omega arith) ∙ ap (λ (x : ℕ). Some x) one

  pub last_places : (x : PublishedPlace) → Contains s.chair.places x → start_at left.starts x.place ≡ Some x.start
  last_places x c = let t = it.places_start x c in
      start_is x.place x.start t.0 (after.behind s.number s.chair x l.seat c) (subst (λ (y : List Pair). StandsAt y x.place t.0) l.history t.1) t.2

  pub last_starts : AreStartsFrom (length h0) (length left.book.pairs) left.starts
  last_starts = record {
    first = l.first;
    long = let a = long in let f = l.first in omega arith;
    low = λ k n e.
        let t = tells (ltb k left.starts.first) (ltb (k - left.starts.first) (length left.starts.starts)) (get_or left.starts.starts (k - left.starts.first) 0) n e in
        let le : left.starts.first ≤ k = ltb-false k left.starts.first t.0 in
        let lt : k - left.starts.first < length left.starts.starts = ltb-true (k - left.starts.first) (length left.starts.starts) t.1 in
        let f = l.first in
        let a = long in
        let d : Pair = pair 0 0 in
        let inside : k < length left.book.pairs = omega arith in
        let at : StandsAt left.book.pairs k (get_or left.book.pairs k d) = at_get left.book.pairs k d inside in
        let u = law.started k (get_or left.book.pairs k d) (subst (λ (y : List Pair). StandsAt y k (get_or left.book.pairs k d)) (sym l.history) at) in
        let v : start_at left.starts k ≡ Some u.0 = start_is k u.0 (get_or left.book.pairs k d) (omega arith) at u.1 in
        let same : Some n ≡ Some u.0 = sym e ∙ v in
        let w : n ≡ u.0 = cc in
        let low = u.2 in
        omega arith;
  }
