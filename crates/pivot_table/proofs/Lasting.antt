-- What the last words say.
use Rattle.std.proofs.Common.{◌≡◌, ℕ, ◌<◌, ◌≤◌, true, min, List, ◌++◌, length, map, drop, sym, ◌∙◌, ap, subst, arith, length-append}
use mathlib.Core.Option.{some}
use lib.ListN.{get_elem?}
use Rattle.std.specs.List.{Contains}
use Rattle.atomic_table.specs.Table.{State}
use Rattle.atomic_table.specs.Seated.{TableId}
use Rattle.residue_words.specs.Matrix.{Matrix}
use Rattle.residue_words.specs.declared.plain.Pair.{Pair}
use Rattle.pivot_table.specs.History.{Grown}
use Rattle.pivot_table.specs.Board.{SeatState}
use Rattle.pivot_table.specs.Core.{core}
use Rattle.pivot_table.specs.Closing.{CellsSay, MarksSay, StartsState, is_done, start_in}
use Rattle.pivot_table.specs.Last.{IsLast}
use Rattle.pivot_table.specs.Rule.{SpellsRun, rows_at}
use Rattle.pivot_table.specs.declared.view.View.{View}
use Rattle.pivot_table.specs.declared.closed_board.Closed.{Closed}
use Rattle.pivot_table.proofs.Listed.{cut_here}
use Rattle.residue_words.proofs.Lists.{cut_at}
use Rattle.pivot_table.proofs.Short.{grown_short}
use Rattle.pivot_table.proofs.Allowed.{seats_of, seat_there, lawful}
use Rattle.pivot_table.proofs.Runs.{reached_after}

-- the seat of this number, by what it knows
abbrev pub seat_state : TableId → ℕ → View → SeatState
seat_state table id v = record { table = table; matrix = v.matrix; number = id; chair = v.chair }

module _ (A : Matrix) (h0 : List Pair) (s : State (Unit {0}) View) (k : SpellsRun A h0 s) where
  pub grown : Grown A k.history
  grown = (lawful A h0 s k).grown

  pub cells_say : (ws : List ℕ) → s.words ≡ ws → CellsSay ws (min A.height A.width) k.history
  cells_say ws same = let narrow = k.narrow in subst (λ (l : List ℕ). CellsSay l (min A.height A.width) k.history) same (record {
    full = λ n q e. let t = cut_here k.history n q e in let v = (grown t.0 q t.1 t.2).entry in let c : q.col < A.width = v.1 in (k.spells.cells n q e, omega arith);
    empty = λ n le lt. k.spells.empty n le (omega arith);
    short = grown_short A k.history grown;
  })

  pub marks_say : (ws : List ℕ) → s.words ≡ ws → MarksSay ws (rows_at A) A.height k.rows
  marks_say ws same = subst (λ (l : List ℕ). MarksSay l (rows_at A) A.height k.rows) same (record { tall = k.spells.height; each = k.spells.marks })

  pub row_inside : (q : Pair) → Contains k.history q → q.row < A.height
  row_inside q c = let t = cut_at k.history q c in (grown t.0 q t.1 t.2).entry.0

  pub first_short : length h0 ≤ length k.history
  first_short = let b = (reached_after A h0 (core k.history k.rows (seats_of s)) k.reached).begins in let e : length k.history ≡ length (h0 ++ b.0) = ap length b.1 in omega (arith, length-append h0 b.0)

  pub is_last : (table : TableId) (id : ℕ) (v : View) → get_elem? s.views id ≡ some v → v.live ≡ true → (left : Closed)
      → left.book.pairs ≡ k.history → left.done ≡ map is_done k.rows
      → left.starts ≡ record { first = length h0; starts = map (start_in k.rows) (drop (length h0) k.history) }
      → IsLast A h0 (seat_state table id v) left
  is_last table id v at live left eh ed es = record {
    last = core k.history k.rows (seats_of s);
    reached = k.reached;
    seat = seat_there s.views id v live at;
    history = sym eh;
    tall = k.spells.height;
    done = ed;
    first = ap (λ (b : StartsState). b.first) es;
    starts = ap (λ (b : StartsState). b.starts) es ∙ ap (λ (h : List Pair). map (start_in k.rows) (drop (length h0) h)) (sym eh);
  }

pub last_same : (A A' : Matrix) (h0 h0' : List Pair) (s s' : SeatState) (left : Closed) → A ≡ A' → h0 ≡ h0' → s ≡ s' → IsLast A h0 s left → IsLast A' h0' s' left
last_same A A' h0 h0' s s' left ea e0 es l =
    subst (λ (x : Matrix). IsLast x h0' s' left) ea
    (subst (λ (x : List Pair). IsLast A x s' left) e0
    (subst (λ (x : SeatState). IsLast A h0 x left) es l))

pub starts_same : (f f' : ℕ) (l l' : List ℕ) → f ≡ f' → l ≡ l' → ◌≡◌ {A = StartsState} (record { first = f; starts = l }) (record { first = f'; starts = l' })
starts_same f f' l l' ef el = λ i. record { first = ef i; starts = el i }

pub cells_are : (A B : Matrix) (n height width : ℕ) → n ≡ min height width → height ≡ B.height → width ≡ B.width → B ≡ A → n ≡ min A.height A.width
cells_are A B n height width e eh ew same = let fh = ap (λ (m : Matrix). m.height) same in let fw = ap (λ (m : Matrix). m.width) same in omega arith
