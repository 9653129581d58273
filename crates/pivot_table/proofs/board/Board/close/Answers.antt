use Rattle.std.proofs.Common.{◌≡◌, ℕ, ◌+◌, ◌<◌, List, length, map, drop, min, sym, subst, ap, ◌∙◌, arith}
use Rattle.std.specs.Mem.Slots.{slots_items}
use Rattle.std.specs.List.{Contains}
use Rattle.residue_words.specs.Matrix.{Matrix}
use Rattle.residue_words.specs.declared.plain.Pair.{Pair}
use Rattle.pivot_table.specs.History.{Grown}
use Rattle.pivot_table.specs.Closing.{CellsSay, MarksSay, is_done, start_in}
use Rattle.pivot_table.specs.Rule.{rows_at}
use Rattle.pivot_table.specs.Board.{BoardState}
use Rattle.pivot_table.specs.Book.{BookState}
use Rattle.pivot_table.specs.declared.closed_board.Closed.{Closed}
use Rattle.pivot_table.proofs.Lasting.{grown, cells_say, marks_say, row_inside, first_short, seat_state, is_last, last_same, starts_same, cells_are}
use Rattle.pivot_table.proofs.Ending.{last_begins, last_seen, last_tall, last_settled, last_finished, last_starts, last_places}
use Rattle.pivot_table.proofs.Fitting.{same_matrix}
use Rattle.pivot_table.proofs.Short.{grown_short}
use Rattle.pivot_table.proofs.board.Board.close.Goals as goal

pub read_cells-requires-clause-some : goal.read_cells-requires-clause-some
read_cells-requires-clause-some c =
    let key = c.self.inside.table.shared.key in
    let A : Matrix = key.rows.matrix in
    let B : Matrix = c.self.inside.rows.now.matrix in
    let same : B ≡ A = same_matrix _ _ c.self.invariant.0 in
    let last = c.close_with-words.ensures.values.2 in
    let ws : List ℕ = slots_items c.close_with-words.result.words in
    let k = last.1.0 in
    let sizes : c.min-cells.result ≡ min A.height A.width = cells_are A B c.min-cells.result c.height.result c.width.result c.min-cells.ensures c.height.ensures.value c.width.ensures.value same in
    (k.history, subst (λ (n : ℕ). CellsSay ws n k.history) (sym sizes) (cells_say A key.pairs last.0 k ws last.2))

pub read_starts-requires-clause-room : goal.read_starts-requires-clause-room
read_starts-requires-clause-room c =
    let key = c.self.inside.table.shared.key in
    let A : Matrix = key.rows.matrix in
    let B : Matrix = c.self.inside.rows.now.matrix in
    let same : B ≡ A = same_matrix _ _ c.self.invariant.0 in
    let last = c.close_with-words.ensures.values.2 in
    let ws : List ℕ = slots_items c.close_with-words.result.words in
    let k = last.1.0 in
    let sizes : c.min-cells.result ≡ min A.height A.width = cells_are A B c.min-cells.result c.height.result c.width.result c.min-cells.ensures c.height.ensures.value c.width.ensures.value same in
    let read : c.read_cells.new.pairs.items ≡ k.history = c.read_cells.ensures.read k.history (subst (λ (n : ℕ). CellsSay ws n k.history) (sym sizes) (cells_say A key.pairs last.0 k ws last.2)) in
    let is : length c.as_slice.result.now ≡ length k.history = ap length (c.as_slice.ensures.value ∙ read) in
    let most = grown_short A k.history (grown A key.pairs last.0 k) in
    let fh = ap (λ (m : Matrix). m.height) same in let fw = ap (λ (m : Matrix). m.width) same in
    let room = c.self.invariant.8 in
    omega arith

pub read_starts-requires-clause-from : goal.read_starts-requires-clause-from
read_starts-requires-clause-from c =
    let key = c.self.inside.table.shared.key in
    let A : Matrix = key.rows.matrix in
    let B : Matrix = c.self.inside.rows.now.matrix in
    let same : B ≡ A = same_matrix _ _ c.self.invariant.0 in
    let last = c.close_with-words.ensures.values.2 in
    let ws : List ℕ = slots_items c.close_with-words.result.words in
    let k = last.1.0 in
    let sizes : c.min-cells.result ≡ min A.height A.width = cells_are A B c.min-cells.result c.height.result c.width.result c.min-cells.ensures c.height.ensures.value c.width.ensures.value same in
    let read : c.read_cells.new.pairs.items ≡ k.history = c.read_cells.ensures.read k.history (subst (λ (n : ℕ). CellsSay ws n k.history) (sym sizes) (cells_say A key.pairs last.0 k ws last.2)) in
    let is : length c.as_slice.result.now ≡ length k.history = ap length (c.as_slice.ensures.value ∙ read) in
    let first = c.self.invariant.9 in
    let short = first_short A key.pairs last.0 k in
    omega arith

pub read_starts-requires-clause-inside : goal.read_starts-requires-clause-inside
read_starts-requires-clause-inside c =
    let key = c.self.inside.table.shared.key in
    let A : Matrix = key.rows.matrix in
    let B : Matrix = c.self.inside.rows.now.matrix in
    let same : B ≡ A = same_matrix _ _ c.self.invariant.0 in
    let last = c.close_with-words.ensures.values.2 in
    let ws : List ℕ = slots_items c.close_with-words.result.words in
    let k = last.1.0 in
    let sizes : c.min-cells.result ≡ min A.height A.width = cells_are A B c.min-cells.result c.height.result c.width.result c.min-cells.ensures c.height.ensures.value c.width.ensures.value same in
    let read : c.read_cells.new.pairs.items ≡ k.history = c.read_cells.ensures.read k.history (subst (λ (n : ℕ). CellsSay ws n k.history) (sym sizes) (cells_say A key.pairs last.0 k ws last.2)) in
    let words : c.self.inside.table.shared.table_id.words ≡ rows_at A + A.height = c.self.invariant.4 ∙ ap (λ (m : Matrix). rows_at m + m.height) same in
    let counts = c.close_with-words.ensures.counts.0 in
    λ q d. let low : q.row < A.height = row_inside A key.pairs last.0 k q (subst (λ (l : List Pair). Contains l q) (c.as_slice.ensures.value ∙ read) d) in omega arith

pub of-requires : goal.of-requires
of-requires c =
    let key = c.self.inside.table.shared.key in
    let A : Matrix = key.rows.matrix in
    let B : Matrix = c.self.inside.rows.now.matrix in
    let same : B ≡ A = same_matrix _ _ c.self.invariant.0 in
    let last = c.close_with-words.ensures.values.2 in
    let ws : List ℕ = slots_items c.close_with-words.result.words in
    let k = last.1.0 in
    let sizes : c.min-cells.result ≡ min A.height A.width = cells_are A B c.min-cells.result c.height.result c.width.result c.min-cells.ensures c.height.ensures.value c.width.ensures.value same in
    let read : c.read_cells.new.pairs.items ≡ k.history = c.read_cells.ensures.read k.history (subst (λ (n : ℕ). CellsSay ws n k.history) (sym sizes) (cells_say A key.pairs last.0 k ws last.2)) in
    subst (λ (m : Matrix). Grown m c.read_cells.new.pairs.items) (sym same) (subst (λ (l : List Pair). Grown A l) (sym read) (grown A key.pairs last.0 k))

pub returns-clause-last : goal.returns-clause-last
returns-clause-last c =
    let key = c.self.inside.table.shared.key in
    let A : Matrix = key.rows.matrix in
    let B : Matrix = c.self.inside.rows.now.matrix in
    let same : B ≡ A = same_matrix _ _ c.self.invariant.0 in
    let last = c.close_with-words.ensures.values.2 in
    let ws : List ℕ = slots_items c.close_with-words.result.words in
    let k = last.1.0 in
    let it = c.seat.inside.token in
    let sizes : c.min-cells.result ≡ min A.height A.width = cells_are A B c.min-cells.result c.height.result c.width.result c.min-cells.ensures c.height.ensures.value c.width.ensures.value same in
    let read : c.read_cells.new.pairs.items ≡ k.history = c.read_cells.ensures.read k.history (subst (λ (n : ℕ). CellsSay ws n k.history) (sym sizes) (cells_say A key.pairs last.0 k ws last.2)) in
    let slice : c.as_slice.result.now ≡ k.history = c.as_slice.ensures.value ∙ read in
    let at : c.min-cells.result + 1 ≡ rows_at A = omega arith in
    let tall : c.height-height.result ≡ A.height = c.height-height.ensures.value ∙ ap (λ (m : Matrix). m.height) same in
    let say : MarksSay ws (c.min-cells.result + 1) A.height k.rows = subst (λ (n : ℕ). MarksSay ws n A.height k.rows) (sym at) (marks_say A key.pairs last.0 k ws last.2) in
    let words : c.self.inside.table.shared.table_id.words ≡ rows_at A + A.height = c.self.invariant.4 ∙ ap (λ (m : Matrix). rows_at m + m.height) same in
    let counts = c.close_with-words.ensures.counts.0 in
    let marks : c.read_marks.new.done.items ≡ map is_done k.rows = c.read_marks.ensures.read k.rows (subst (λ (n : ℕ). MarksSay ws (c.min-cells.result + 1) n k.rows) (sym tall) say) in
    let first : c.self.inside.first ≡ length key.pairs = c.self.invariant.9 in
    let starts : c.read_starts.new.starts.items ≡ map (start_in k.rows) (drop (length key.pairs) k.history) =
    c.read_starts.ensures.read A.height k.rows say (omega arith) ∙ ap (λ (l : List Pair). map (start_in k.rows) (drop c.self.inside.first l)) slice ∙ ap (λ (n : ℕ). map (start_in k.rows) (drop n k.history)) first in
    let left : Closed = record { book = c.of.result; done = c.of-2.result; starts = c.of-3.result } in
    last_same A c.args.self.rows.matrix key.pairs c.args.self.pairs (seat_state it.table_id it.id it.me.0) c.args.seat left
    (sym same ∙ ap (λ (p : BoardState). p.rows.matrix) c.self.view_is)
    (ap (λ (p : BoardState). p.pairs) c.self.view_is)
    c.seat.view_is
    (is_last A key.pairs last.0 k it.table_id it.id it.me.0 last.1.1 c.seat.invariant.3 left
    (ap (λ (w : BookState). w.pairs) c.of.ensures ∙ read)
    (c.of-2.ensures ∙ marks)
    (c.of-3.ensures ∙ starts_same c.self.inside.first (length key.pairs) c.read_starts.new.starts.items (map (start_in k.rows) (drop (length key.pairs) k.history)) first starts))

pub returns-clause-begins : goal.returns-clause-begins
returns-clause-begins c = (
  last_begins c.args.self.rows.matrix c.args.self.pairs c.args.seat (record { book = c.of.result; done = c.of-2.result; starts = c.of-3.result }) (returns-clause-last c),
  last_seen c.args.self.rows.matrix c.args.self.pairs c.args.seat (record { book = c.of.result; done = c.of-2.result; starts = c.of-3.result }) (returns-clause-last c),
)

pub returns-clause-settled : goal.returns-clause-settled
returns-clause-settled c = last_settled c.args.self.rows.matrix c.args.self.pairs c.args.seat (record { book = c.of.result; done = c.of-2.result; starts = c.of-3.result }) (returns-clause-last c)

pub returns-clause-finished : goal.returns-clause-finished
returns-clause-finished c = last_finished c.args.self.rows.matrix c.args.self.pairs c.args.seat (record { book = c.of.result; done = c.of-2.result; starts = c.of-3.result }) (returns-clause-last c)

pub returns-clause-starts : goal.returns-clause-starts
returns-clause-starts c = last_starts c.args.self.rows.matrix c.args.self.pairs c.args.seat (record { book = c.of.result; done = c.of-2.result; starts = c.of-3.result }) (returns-clause-last c)

pub returns-clause-places : goal.returns-clause-places
returns-clause-places c = last_places c.args.self.rows.matrix c.args.self.pairs c.args.seat (record { book = c.of.result; done = c.of-2.result; starts = c.of-3.result }) (returns-clause-last c)

pub returns-clause-tall : goal.returns-clause-tall
returns-clause-tall c = last_tall c.args.self.rows.matrix c.args.self.pairs c.args.seat (record { book = c.of.result; done = c.of-2.result; starts = c.of-3.result }) (returns-clause-last c)
