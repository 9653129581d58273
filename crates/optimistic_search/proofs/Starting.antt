-- From the starts that a board left to the versions of a history.
use Rattle.std.proofs.Common.{◌≡◌, ◌<◌, ◌≤◌, ◌-◌, ◌+◌, ℕ, Bool, false, cond, ltb, List, [], ◌∷◌, ◌++◌, length, drop, map, get_or, slice_index, Some, None, ⊎_elim, sym, refl, subst, ap, ◌∙◌, arith, append_assoc, length-append}
use Rattle.std.specs.Prelude.{Option}
use Rattle.std.proofs.lemmas.Bool.{le-ltb, lt-ltb}
use Rattle.std.proofs.lemmas.List.{get_or-map, get_or-drop, length-drop}
use Rattle.residue_words.specs.Matrix.{Matrix}
use Rattle.residue_words.specs.declared.plain.Pair.{Pair}
use Rattle.pivot_table.specs.Closing.{AreStartsFrom, StartsState, start_at, start_in, start_of}
use Rattle.pivot_table.specs.Core.{Carries, Mark, StandsAt, done, free, held, opening}
use Rattle.pivot_table.specs.History.{Grown, StartsWith, pair}
use Rattle.pivot_table.proofs.Ending.{last_starts}
use Rattle.pivot_table.proofs.Listed.{read_at, within}
use Rattle.pivot_table.proofs.Runs.{reached_lawful}
use Rattle.optimistic_search.specs.Versions.{AreOwnPlaces, AreStarted, AreStartsOf, TellsStarts, start_or}

-- the start at a place, by what is asked of it first
abbrev told : Bool → Bool → ℕ → Option ℕ
told x y v = cond x None (cond y (Some v) None)

module _ (b : StartsState) (k : ℕ) where
  abbrev value : ℕ
  value = get_or b.starts (k - b.first) 0

  start_before : k < b.first → start_at b k ≡ None
  start_before lt = ap (λ (x : Bool). told x (ltb (k - b.first) (length b.starts)) value) (lt-ltb k b.first lt)

  start_there : b.first ≤ k → k - b.first < length b.starts → start_at b k ≡ Some value
  start_there le lt = ap (λ (x : Bool). told x (ltb (k - b.first) (length b.starts)) value) (le-ltb k b.first le)
      ∙ ap (λ (y : Bool). told false y value) (lt-ltb (k - b.first) (length b.starts) lt)

  start_behind : b.first ≤ k → length b.starts ≤ k - b.first → start_at b k ≡ None
  start_behind le behind = ap (λ (x : Bool). told x (ltb (k - b.first) (length b.starts)) value) (le-ltb k b.first le)
      ∙ ap (λ (y : Bool). told false y value) (le-ltb (k - b.first) (length b.starts) behind)

carried : (rows : List Mark) (r n : ℕ) → Carries rows r n → start_of (get_or rows r free) ≡ n
carried rows r n c = ⊎_elim (λ m. ap start_of (read_at rows r (held n) free m)) (λ m. ap start_of (read_at rows r (done n) free m)) c

-- the start that is listed for a place is the one that the row there carries
listed : (rows : List Mark) (h : List Pair) (first k n : ℕ) (q : Pair) → first ≤ k → StandsAt h k q → Carries rows q.row n →
    get_or (map (start_in rows) (drop first h)) (k - first) 0 ≡ n
listed rows h first k n q le at c =
    let inside = within h k q at in
    let d : Pair = pair 0 0 in
    let rest : List Pair = drop first h in
    let place : first + (k - first) ≡ k = omega arith in
    get_or-map (start_in rows) rest (k - first) d 0 (omega (arith, length-drop first h))
    ∙ ap (start_in rows) (get_or-drop first h (k - first) d ∙ ap (λ (j : ℕ). get_or h j d) place ∙ read_at h k q d at)
    ∙ carried rows q.row n c

start_low : (k : ℕ) (o : Option ℕ) → ((n : ℕ) → o ≡ Some n → n ≤ k) → start_or k o ≤ k
start_low k None low = omega arith
start_low k (Some n) low = low n refl

pub tells_started : (A : Matrix) (first history : List Pair) (starts : StartsState) (versions : List ℕ) → AreStartsOf A first history starts → AreStarted starts (length history) versions → TellsStarts A first history versions
tells_started A first history starts versions s v =
    let l = s.last in
    let from : AreStartsFrom (length first) (length s.left.book.pairs) s.left.starts = last_starts A first s.seat s.left l in
    let all : length history ≡ length s.left.book.pairs + length s.begins.0 = ap length s.begins.1 ∙ length-append s.left.book.pairs s.begins.0 in
    let board : length l.last.history ≡ length s.left.book.pairs = ap length l.history in
    let begun = from.first in
    let long = from.long in
    let at_place : (k : ℕ) → k < length history → slice_index versions k ≡ start_or k (start_at s.left.starts k) =
    λ k lt. v.each k lt ∙ ap (λ (b : StartsState). start_or k (start_at b k)) s.is in
    record {
      last = l.last;
      reached = l.reached;
      begins = subst (λ (h : List Pair). StartsWith history h) (sym l.history) s.begins;
      long = v.long;
      low = λ k lt. subst (λ n. n ≤ k) (sym (at_place k lt)) (start_low k (start_at s.left.starts k) (from.low k));
      given = λ k ge lt. at_place k (omega arith) ∙ ap (start_or k) (start_before s.left.starts k (omega arith));
      started = λ k q ge at.
          let there : StandsAt s.left.book.pairs k q = subst (λ (h : List Pair). StandsAt h k q) l.history at in
          let inside = within s.left.book.pairs k q there in
          let one = (reached_lawful A first l.last l.reached).started k q at in
          let some : start_at s.left.starts k ≡ Some one.0 = start_there s.left.starts k (omega arith) (omega arith)
          ∙ ap (λ (x : ℕ). Some x) (ap (λ (m : ℕ). get_or s.left.starts.starts (k - m) 0) l.first ∙ ap (λ (x : List ℕ). get_or x (k - length first) 0) l.starts ∙ listed l.last.rows s.left.book.pairs (length first) k one.0 q ge there one.1) in
          let is : slice_index versions k ≡ one.0 = at_place k (omega arith) ∙ ap (start_or k) some in
          subst (λ n. Carries l.last.rows q.row n) (sym is) one.1;
      swept = λ k ge lt. at_place k lt ∙ ap (start_or k) (start_behind s.left.starts k (omega arith) (omega arith));
    }

-- a first part of a grown list is grown
grown_start : (A : Matrix) (all first : List Pair) → Grown A all → StartsWith all first → Grown A first
grown_start A all first g s before q after e = g before q (after ++ s.0) (s.1 ∙ ap (λ (x : List Pair). x ++ s.0) e ∙ append_assoc before (q ∷ after) s.0)

-- where nothing was done on a board each pair has its place
pub tells_places : (A : Matrix) (first history : List Pair) (versions : List ℕ) → Grown A history → StartsWith history first → AreOwnPlaces (length history) versions → TellsStarts A first history versions
tells_places A first history versions grown begins own =
    let all : length history ≡ length first + length begins.0 = ap length begins.1 ∙ length-append first begins.0 in
    record {
      last = opening A first;
      reached = (grown_start A history first grown begins, ([], refl));
      begins = begins;
      long = own.long;
      low = λ k lt. omega (arith, own.places k (omega arith) lt);
      given = λ k ge lt. own.places k ge (omega arith);
      started = λ k q ge at. absurd (omega (arith, within first k q at));
      swept = λ k ge lt. own.places k (omega arith) lt;
    }
