-- Each step of a seat keeps the rule: it is a turn of the core.
use Rattle.std.proofs.Common.{◌≡◌, ◌≢◌, ℕ, ◌+◌, ◌-◌, ◌*◌, ◌<◌, ◌≤◌, ◌⊎◌, Bool, true, false, eqb, List, [], ◌∷◌, ◌++◌, length, map, get_or, set, sym, refl, ap, ◌∙◌, ⊎_elim, subst, arith, length-append, eq-eqb, ne_eqb, lt_of_not-le, append_assoc}
use Rattle.std.specs.Prelude.{Option, None, Some}
use mathlib.Core.Logic.{dite}
use mathlib.Core.Option.{none, some}
use native.Mathlib.Decide.{ℕ_discrete, dec_le}
use Rattle.std.proofs.lemmas.List.{set-get_or}
use lib.ListN.{get_elem?}
use lib.Seq.{map-set}
use prog.Atomic.{either}
use Rattle.atomic_table.specs.Table.{State, step, keeps, stepped, Allows}
use Rattle.atomic_table.proofs.Lists.{at_map}
use Rattle.residue_words.specs.Matrix.{Matrix}
use Rattle.residue_words.specs.declared.plain.Pair.{Pair}
use Rattle.pivot_table.specs.History.{pair, HasRow, Alive, LeastAlive, Dead, StartsWith}
use Rattle.pivot_table.specs.Core.{Mark, free, held, done, Chair, core, HasSeat, HasMark, Turn, claim, see, publish, finish, meet, Goes, Reached, claiming, meeting, seeing, publishing, finishing}
use Rattle.pivot_table.specs.Lawful.{Lawful}
use Rattle.pivot_table.specs.Rule.{SpellsRun, TableSeat, Spells, seat_of, seat_by, with_chair, mark_word, pair_word, pair_of, rows_at, claimed, finished, published, looked}
use Rattle.pivot_table.specs.declared.view.View.{View}
use Rattle.pivot_table.proofs.Listed.{at_within, next_at, read_at}
use Rattle.pivot_table.proofs.Growth.{grown_push, row_later, row_push, next_alive, seen_whole}
use Rattle.pivot_table.proofs.Short.{grown_short}
use Rattle.pivot_table.proofs.Words.{mark_zero, pair_back, spells_mark, spells_push}
use Rattle.pivot_table.proofs.Seats.{Seats, seen_short}
use Rattle.pivot_table.proofs.Runs.{reached_lawful, reached_next}

set_here_again : (ws : List ℕ) (i : ℕ) → set ws i (get_or ws i 0) ≡ ws
set_here_again ws i = set-get_or ws i 0

abbrev pub St : Type 0
St = State (Unit {0}) View

abbrev pub seats_of : St → Seats
seats_of s = map seat_of s.views

-- the seat of a view that is not spent
pub seat_there : (views : List View) (i : ℕ) (v : View) → v.live ≡ true → get_elem? views i ≡ some v → HasSeat (map seat_of views) i v.chair
seat_there views i v live at = at_map seat_of views i v at ∙ ap (λ (b : Bool). some (seat_by b v.chair)) live

-- what a view that is written makes of the seats
pub seats_set : (views : List View) (i : ℕ) (v : View) → v.live ≡ true → map seat_of (set views i v) ≡ set (map seat_of views) i (Some v.chair)
seats_set views i v live = map-set seat_of views i v ∙ ap (λ (b : Bool). set (map seat_of views) i (seat_by b v.chair)) live

pub each_view : (P : View → Type 0) (l : List View) (i : ℕ) (w : View) → P w → ((j : ℕ) (t : View) → get_elem? l j ≡ some t → P t)
    → (j : ℕ) (t : View) → get_elem? (set l i w) j ≡ some t → P t
each_view P l i w here others j t at = ⊎_elim
    (λ e. subst P e.1 here)
    (λ n. others j t n.1)
    (Rattle.atomic_table.proofs.Lists.at_set l i j w t at)

abbrev pub HasHeard : View → Type 0
HasHeard v = StartsWith v.chair.seen v.heard

module _ (A : Matrix) (h0 : List Pair) (s : St) (k : SpellsRun A h0 s) where
  pub lawful : Lawful A (core k.history k.rows (seats_of s))
  lawful = reached_lawful A h0 (core k.history k.rows (seats_of s)) k.reached

  pub room : length k.history < rows_at A
  room = let l = grown_short A k.history lawful.grown in omega arith

  -- a cell that is not empty lies below the history's length
  cell_full : (i : ℕ) → get_or s.words i 0 ≢ 0 → i < rows_at A → i < length k.history
  cell_full i full low = dite (dec_le (length k.history) i) (λ le. absurd (full (k.spells.empty i le low))) (λ not. lt_of_not-le not)

module _ (A : Matrix) (h0 : List Pair) (id : ℕ) (me : TableSeat) (live : me.0.live ≡ true) (matrix : me.0.matrix ≡ A) where
  -- a turn of the seat, and the words that spell what comes of it
  placed : (s : St) (k : SpellsRun A h0 s) (i n : ℕ) (w : Chair) (h : List Pair) (rows : List Mark) (e : Turn) → get_elem? s.views id ≡ some me.0
      → Goes A (core k.history k.rows (seats_of s)) e (core h rows (set (seats_of s) id (Some w))) → Spells A (set s.words i n) h rows → SpellsRun A h0 (stepped s i n id me.1 (with_chair me w).0 keeps)
  placed s k i n w h rows e at goes sp = record {
    history = h;
    rows = rows;
    reached = subst (λ (l : Seats). Reached A h0 (core h rows l)) (sym (seats_set s.views id (with_chair me w).0 live)) (reached_next A h0 (core k.history k.rows (seats_of s)) (core h rows (set (seats_of s) id (Some w))) e k.reached goes);
    spells = sp;
    of_board = each_view (λ v. v.live ≡ true → v.matrix ≡ A) s.views id (with_chair me w).0 (λ l. matrix) (λ j v au. k.of_board j v au);
    heard = each_view HasHeard s.views id (with_chair me w).0 (w.seen, refl) k.heard;
    narrow = k.narrow;
  }

  -- a load, which changes nothing
  pub look_allows : (slots i : ℕ) → Allows (SpellsRun A h0) slots id me i (λ n. n) (looked (step slots i 0 0 none) me)
  look_allows slots i s k _ at _ =
      let c : Chair = me.0.chair in
      let sat : HasSeat (seats_of s) id c = seat_there s.views id me.0 live at in
      let same : map seat_of (set s.views id (with_chair me c).0) ≡ seats_of s = seats_set s.views id (with_chair me c).0 live
      ∙ ap (λ (o : Option Chair). set (seats_of s) id o) (sym (read_at (seats_of s) id (Some c) None sat))
      ∙ set-get_or (seats_of s) id None in (
        (with_chair me c).0,
        keeps,
        tt,
        record {
          history = k.history;
          rows = k.rows;
          reached = subst (λ (l : Seats). Reached A h0 (core k.history k.rows l)) (sym same) k.reached;
          spells = subst (λ (l : List ℕ). Spells A l k.history k.rows) (sym (set_here_again s.words i)) k.spells;
          of_board = each_view (λ v. v.live ≡ true → v.matrix ≡ A) s.views id (with_chair me c).0 (λ l. matrix) (λ j v au. k.of_board j v au);
          heard = each_view HasHeard s.views id (with_chair me c).0 (c.seen, refl) k.heard;
          narrow = k.narrow;
        },
        (refl, k.heard id me.0 at),
      )

  module _ (r : ℕ) (low : r < A.height) (slots : ℕ) where
    same_row : (rows_at A + r) - rows_at me.0.matrix ≡ r
    same_row = rw matrix (omega arith)

    pub claim_allows : me.0.chair.hand ≡ None → (new : ℕ) → new ≡ 2 * length me.0.chair.seen + 1
        → Allows (SpellsRun A h0) slots id me (rows_at A + r) (λ n. either (eqb n 0) new n) (claimed (step slots (rows_at A + r) 0 new none) me)
    claim_allows idle new is s k _ at _ =
        let x : ℕ = get_or s.words (rows_at A + r) 0 in
        let c : Chair = me.0.chair in
        let sat : HasSeat (seats_of s) id c = seat_there s.views id me.0 live at in
        let law = lawful A h0 s k in
        let tall = k.spells.height in
        let m = at_within k.rows r (omega arith) in
        let word : x ≡ mark_word m.0 = k.spells.marks r m.0 m.1 in
        dite (ℕ_discrete x 0)
        (λ hit.
        let is_free : HasMark k.rows r free = subst (λ (z : Mark). HasMark k.rows r z) (mark_zero m.0 (sym word ∙ hit)) m.1 in
        let fresh : ¬ HasRow c.seen r = λ t. law.free_is_fresh r is_free (row_later k.history c.seen r (law.each id c sat).seen_first t) in (
          (with_chair me (claiming c r)).0,
          keeps,
          tt,
          subst (λ (b : Bool). SpellsRun A h0 (stepped s (rows_at A + r) (either b new x) id me.1 (with_chair me (claiming c r)).0 keeps)) (sym (eq-eqb x 0 hit))
              (placed s k (rows_at A + r) new (claiming c r) k.history (set k.rows r (held (length c.seen))) (claim id r) at
              (c, sat, idle, is_free, refl)
              (subst (λ (n : ℕ). Spells A (set s.words (rows_at A + r) n) k.history (set k.rows r (held (length c.seen)))) (sym is) (spells_mark A s.words k.history k.rows k.spells r free (held (length c.seen)) (room A h0 s k) is_free))),
          ((λ _. (ap (λ (n : ℕ). with_chair me (claiming c n)) (sym same_row), subst (λ (n : ℕ). ¬ HasRow c.seen n) (sym same_row) fresh)), λ not. absurd (not hit)),
        ))
        (λ miss.
        let busy : ¬ HasMark k.rows r free = λ f. let w : x ≡ 0 = k.spells.marks r free f in miss w in (
          (with_chair me (meeting c r)).0,
          keeps,
          tt,
          subst (λ (b : Bool). SpellsRun A h0 (stepped s (rows_at A + r) (either b new x) id me.1 (with_chair me (meeting c r)).0 keeps)) (sym (ne_eqb x 0 miss))
              (placed s k (rows_at A + r) x (meeting c r) k.history k.rows (meet id r) at
              (c, sat, busy, refl)
              (subst (λ (l : List ℕ). Spells A l k.history k.rows) (sym (set_here_again s.words (rows_at A + r))) k.spells)),
          ((λ hit. absurd (miss hit)), λ _. ap (λ (n : ℕ). with_chair me (meeting c n)) (sym same_row)),
        ))

    pub finish_allows : me.0.chair.hand ≡ Some r → (me.0.chair.published ≡ true) ⊎ Dead A me.0.chair.seen r → (new : ℕ) → new ≡ 2 * me.0.chair.start + 2
        → Allows (SpellsRun A h0) slots id me (rows_at A + r) (λ _. new) (λ _. finished (step slots (rows_at A + r) new 0 none) me new)
    finish_allows mine why new is s k _ at _ =
        let c : Chair = me.0.chair in
        let sat : HasSeat (seats_of s) id c = seat_there s.views id me.0 live at in
        let so = (lawful A h0 s k).each id c sat in (
          (with_chair me (finishing c r)).0,
          keeps,
          tt,
          placed s k (rows_at A + r) new (finishing c r) k.history (set k.rows r (done c.start)) (finish id) at
              (c, r, sat, mine, why, refl)
              (subst (λ (n : ℕ). Spells A (set s.words (rows_at A + r) n) k.history (set k.rows r (done c.start))) (sym is) (spells_mark A s.words k.history k.rows k.spells r (held c.start) (done c.start) (room A h0 s k) (so.hand_held r mine))),
          ap (λ (n : ℕ). with_chair me (finishing c n)) (sym same_row),
        )

  -- the cell after what was seen is filled with the pair, or the pair found there is seen
  pub publish_allows : (r j slots : ℕ) → me.0.chair.hand ≡ Some r → me.0.chair.published ≡ false → LeastAlive A me.0.chair.seen r j
      → Allows (SpellsRun A h0) slots id me (length me.0.chair.seen) (λ n. either (eqb n 0) (pair_word (pair r j)) n) (published (step slots (length me.0.chair.seen) 0 (pair_word (pair r j)) none) me)
  publish_allows r j slots mine unpub least s k _ at _ =
      let c : Chair = me.0.chair in
      let cell : ℕ = length c.seen in
      let x : ℕ = get_or s.words cell 0 in
      let sat : HasSeat (seats_of s) id c = seat_there s.views id me.0 live at in
      let law = lawful A h0 s k in
      let so = law.each id c sat in
      let here = room A h0 s k in
      let short : length c.seen ≤ length k.history = seen_short k.history c.seen so.seen_first in
      let narrow = k.narrow in
      dite (ℕ_discrete x 0)
      (λ hit.
      let not_longer : ¬ (length c.seen < length k.history) = λ lt. let t = next_alive A k.history c.seen law.grown so.seen_first lt in
      let w : x ≡ pair_word t.0 = k.spells.cells cell t.0 (subst (λ (l : List Pair). get_elem? l cell ≡ some t.0) (sym t.2) (next_at c.seen t.0 t.1)) in omega arith in
      let whole : k.history ≡ c.seen = seen_whole A k.history c.seen so.seen_first (omega arith) in
      let long : cell ≡ length k.history = ap length (sym whole) in
      let live_now : LeastAlive A k.history r j = subst (λ (l : List Pair). LeastAlive A l r j) (sym whole) least in
      let back : pair_of (pair_word (pair r j)) ≡ pair r j = pair_back (pair r j) (let wide = least.0.entry.1 in omega arith) in
      let kept : SpellsRun A h0 (stepped s cell (pair_word (pair r j)) id me.1 (with_chair me (publishing c (pair r j))).0 keeps) =
      placed s k cell (pair_word (pair r j)) (publishing c (pair r j)) (k.history ++ pair r j ∷ []) k.rows (publish id j) at
      (c, r, sat, mine, unpub, whole, live_now, refl)
      (subst (λ (n : ℕ). Spells A (set s.words n (pair_word (pair r j))) (k.history ++ pair r j ∷ []) k.rows) (sym long) (spells_push A s.words k.history k.rows k.spells (pair r j) here)) in (
        (with_chair me (publishing c (pair r j))).0,
        keeps,
        tt,
        subst (λ (b : Bool). SpellsRun A h0 (stepped s cell (either b (pair_word (pair r j)) x) id me.1 (with_chair me (publishing c (pair r j))).0 keeps)) (sym (eq-eqb x 0 hit)) kept,
        (
          (let l = grown_short A (k.history ++ pair r j ∷ []) (grown_push A k.history (pair r j) law.grown live_now.0) in let g : rows_at me.0.matrix ≡ rows_at A = ap rows_at matrix in omega (arith, length-append k.history (pair r j ∷ []), length-append c.seen (pair r j ∷ []))),
          (λ _. ap (λ (q : Pair). with_chair me (publishing c q)) (sym back)),
          λ not. absurd (not hit),
        ),
      ))
      (λ miss.
      let longer : length c.seen < length k.history = cell_full A h0 s k cell miss (omega arith) in
      let t = next_alive A k.history c.seen law.grown so.seen_first longer in
      let q : Pair = t.0 in
      let word : x ≡ pair_word q = k.spells.cells cell q (subst (λ (l : List Pair). get_elem? l cell ≡ some q) (sym t.2) (next_at c.seen q t.1)) in
      let back : pair_of x ≡ q = ap pair_of word ∙ pair_back q (let wide = t.3.entry.1 in omega arith) in
      let first : StartsWith k.history (c.seen ++ q ∷ []) = (t.1, t.2 ∙ sym (append_assoc c.seen (q ∷ []) t.1)) in
      let not_mine : c.hand ≢ Some q.row = λ e. so.hand_out r mine unpub (subst (λ (n : ℕ). HasRow k.history n) (let f : q.row ≡ r = cc in f) (row_later k.history (c.seen ++ q ∷ []) q.row first (row_push c.seen q))) in (
        (with_chair me (seeing c q)).0,
        keeps,
        tt,
        subst (λ (b : Bool). SpellsRun A h0 (stepped s cell (either b (pair_word (pair r j)) x) id me.1 (with_chair me (seeing c q)).0 keeps)) (sym (ne_eqb x 0 miss))
            (placed s k cell x (seeing c q) k.history k.rows (see id) at
            (c, q, sat, first, refl)
            (subst (λ (l : List ℕ). Spells A l k.history k.rows) (sym (set_here_again s.words cell)) k.spells)),
        (
          (let g : rows_at me.0.matrix ≡ rows_at A = ap rows_at matrix in omega (arith, length-append c.seen (q ∷ []))),
          (λ hit. absurd (miss hit)),
          λ _. (
            ap (λ (p : Pair). with_chair me (seeing c p)) (sym back),
            omega arith,
            subst (λ (p : Pair). Alive me.0.matrix c.seen p.row p.col) (sym back) (subst (λ (g : Matrix). Alive g c.seen q.row q.col) (sym matrix) t.3),
            subst (λ (p : Pair). c.hand ≢ Some p.row) (sym back) not_mine,
          ),
        ),
      ))
