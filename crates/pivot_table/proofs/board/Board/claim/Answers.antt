use Rattle.std.proofs.Common.{arith, ◌≡◌, ℕ, ◌+◌, ◌*◌, ◌<◌, eqb, length, sym, subst, ap, ◌∙◌}
use Rattle.std.specs.Prelude.{None}
use mathlib.Core.Option.{none}
use prog.Atomic.{either}
use Rattle.atomic_table.specs.Table.{step, Allows}
use Rattle.residue_words.specs.Matrix.{Matrix}
use Rattle.pivot_table.specs.Board.{BoardState, SeatState}
use Rattle.pivot_table.specs.Rule.{SpellsRun, claimed, rows_at}
use Rattle.pivot_table.proofs.Allowed.{claim_allows}
use Rattle.pivot_table.proofs.Fitting.{seat_fits, same_matrix}
use Rattle.pivot_table.proofs.board.Board.claim.Goals as goal

pub compare_exchange-was-requires : goal.compare_exchange-was-requires
compare_exchange-was-requires c =
    let b = c.self.inside in
    let it = c.seat.inside.token in
    let A : Matrix = b.table.shared.key.rows.matrix in
    let h0 = b.table.shared.key.pairs in
    let z = b.table.shared.table_id in
    let fits = seat_fits _ _ _ _ c.self.view_is c.seat.view_is c.requires.seat in
    let same : b.rows.now.matrix ≡ A = same_matrix _ _ c.self.invariant.0 in
    let board : c.args.self.now.rows.matrix ≡ A = sym (ap (λ (p : BoardState). p.rows.matrix) c.self.view_is) ∙ same in
    let word : c.word_of-word.result ≡ rows_at A + c.args.row = c.word_of-word.ensures.value ∙ ap (λ (m : Matrix). rows_at m + c.args.row) board in
    let words : z.words ≡ rows_at A + A.height = c.self.invariant.4 ∙ ap (λ (m : Matrix). rows_at m + m.height) same in
    let low : c.args.row < A.height = subst (λ (m : Matrix). c.args.row < m.height) board c.requires.row in
    let idle : it.me.0.chair.hand ≡ None = ap (λ (s : SeatState). s.chair.hand) c.seat.view_is ∙ c.requires.idle in
    let new : ℕ = 2 * c.seat.inside.seen + 1 in
    let is : new ≡ 2 * length it.me.0.chair.seen + 1 = ap (λ (n : ℕ). 2 * n + 1) c.seat.invariant.0 in (
      fits.0,
      omega arith,
      subst (λ (n : ℕ). Allows (SpellsRun A h0) z.slots it.id it.me n (λ x. either (eqb x 0) new x) (claimed (step z.slots n 0 new none) it.me)) (sym word)
          (claim_allows A h0 it.id it.me c.seat.invariant.3 (fits.1 ∙ same) c.args.row low z.slots idle new is),
    )
