use Rattle.std.proofs.Common.{arith, ◌≡◌, ◌⊎◌, ℕ, ◌+◌, ◌*◌, ◌<◌, true, sym, subst, ap, ◌∙◌}
use Rattle.std.specs.Prelude.{Option, Some, IfSome}
use mathlib.Core.Option.{none}
use Rattle.atomic_table.specs.Table.{step, Allows}
use Rattle.residue_words.specs.Matrix.{Matrix}
use Rattle.pivot_table.specs.Core.{Chair}
use Rattle.pivot_table.specs.History.{Dead}
use Rattle.pivot_table.specs.Board.{BoardState, SeatState}
use Rattle.pivot_table.specs.Rule.{SpellsRun, finished, rows_at}
use Rattle.pivot_table.proofs.Allowed.{finish_allows}
use Rattle.pivot_table.proofs.Fitting.{seat_fits, same_matrix}
use Rattle.pivot_table.proofs.board.Board.finish_row.Goals as goal

pub overflow_add-seat-inside : goal.overflow_add-seat-inside
overflow_add-seat-inside c =
    let it = c.seat.inside.token in
    let fits = seat_fits _ _ _ _ c.self.view_is c.seat.view_is c.requires.seat in
    let board = ap (λ (p : BoardState). rows_at p.rows.matrix) c.self.view_is in
    let seen = c.seat.invariant.0 in
    let room = c.seat.invariant.4 in
    let cells = ap rows_at fits.1 in
    let late = c.seat.invariant.6 in
    let value = c.word_of-word.ensures.value in
    let small = c.word_of-word.ensures.small in
    omega arith

pub store-requires : goal.store-requires
store-requires c =
    let b = c.self.inside in
    let it = c.seat.inside.token in
    let A : Matrix = b.table.shared.key.rows.matrix in
    let h0 = b.table.shared.key.pairs in
    let z = b.table.shared.table_id in
    let fits = seat_fits _ _ _ _ c.self.view_is c.seat.view_is c.requires.seat in
    let same : b.rows.now.matrix ≡ A = same_matrix _ _ c.self.invariant.0 in
    let board : c.args.self.now.rows.matrix ≡ A = sym (ap (λ (p : BoardState). p.rows.matrix) c.self.view_is) ∙ same in
    let r : ℕ = c.in-Some.row in
    let word : c.word_of-word.result ≡ rows_at A + r = c.word_of-word.ensures.value ∙ ap (λ (m : Matrix). rows_at m + r) board in
    let words : z.words ≡ rows_at A + A.height = c.self.invariant.4 ∙ ap (λ (m : Matrix). rows_at m + m.height) same in
    let low : r < A.height = subst (λ (m : Matrix). r < m.height) (fits.1 ∙ same) (subst (λ (o : Option ℕ). IfSome o (λ k. k < it.me.0.matrix.height)) c.in-Some.is c.seat.invariant.7) in
    let mine : it.me.0.chair.hand ≡ Some r = sym c.seat.invariant.1 ∙ c.in-Some.is in
    let given = c.requires.settled in
    let theirs : it.me.0.chair.hand ≡ Some given.0 = ap (λ (s : SeatState). s.chair.hand) c.seat.view_is ∙ given.1 in
    let one : given.0 ≡ r = cc in
    let why : (it.me.0.chair.published ≡ true) ⊎ Dead A it.me.0.chair.seen r =
    subst (λ (m : Matrix). (it.me.0.chair.published ≡ true) ⊎ Dead m it.me.0.chair.seen r) board
    (subst (λ (k : Chair). (k.published ≡ true) ⊎ Dead c.args.self.now.rows.matrix k.seen r) (sym (ap (λ (s : SeatState). s.chair) c.seat.view_is))
    (subst (λ (n : ℕ). (c.args.seat.now.chair.published ≡ true) ⊎ Dead c.args.self.now.rows.matrix c.args.seat.now.chair.seen n) one given.2)) in
    let new : ℕ = 2 * c.seat.inside.start + 2 in
    let is : new ≡ 2 * it.me.0.chair.start + 2 = ap (λ (n : ℕ). 2 * n + 2) c.seat.invariant.2 in (
      fits.0,
      omega arith,
      subst (λ (n : ℕ). Allows (SpellsRun A h0) z.slots it.id it.me n (λ _. new) (λ _. finished (step z.slots n new 0 none) it.me new)) (sym word)
          (finish_allows A h0 it.id it.me c.seat.invariant.3 (fits.1 ∙ same) r low z.slots mine why new is),
    )
