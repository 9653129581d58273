use Rattle.std.proofs.Common.{arith, ◌≡◌, ℕ, ◌+◌, ◌<◌, false, eqb, length, sym, subst, ap, ◌∙◌}
use Rattle.std.specs.Prelude.{Option, Some, IfSome}
use mathlib.Core.Option.{none}
use prog.Atomic.{either}
use Rattle.atomic_table.specs.Table.{step, Allows}
use Rattle.residue_words.specs.Matrix.{Matrix}
use Rattle.pivot_table.specs.Core.{Chair}
use Rattle.pivot_table.specs.History.{pair, LeastAlive}
use Rattle.pivot_table.specs.Board.{BoardState, SeatState}
use Rattle.pivot_table.specs.Rule.{SpellsRun, published, rows_at, pair_of}
use Rattle.pivot_table.specs.Calls.{IsOutcome}
use Rattle.pivot_table.specs.declared.board.Outcome.{Outcome}
use Rattle.pivot_table.proofs.Telling.{tells_published, tells_newer}
use Rattle.pivot_table.proofs.Words.{pair_back}
use Rattle.pivot_table.proofs.Allowed.{publish_allows}
use Rattle.pivot_table.proofs.Fitting.{seat_fits, same_matrix}
use Rattle.pivot_table.proofs.board.Board.publish.Goals.{then-found-eq0, else-found-eq0}
use Rattle.pivot_table.proofs.board.Board.publish.Goals as goal

pub word_of_pair-requires : goal.word_of_pair-requires
word_of_pair-requires c =
    let it = c.seat.inside.token in
    let r : ℕ = c.in-Some.row in
    let fits = seat_fits _ _ _ _ c.self.view_is c.seat.view_is c.requires.seat in
    let low : r < it.me.0.matrix.height = subst (λ (o : Option ℕ). IfSome o (λ k. k < it.me.0.matrix.height)) c.in-Some.is c.seat.invariant.7 in
    let tall = ap (λ (m : Matrix). m.height) fits.1 in
    let bound = c.is_sound.ensures.height in
    omega arith

pub compare_exchange-found-requires : goal.compare_exchange-found-requires
compare_exchange-found-requires c =
    let b = c.self.inside in
    let it = c.seat.inside.token in
    let A : Matrix = b.table.shared.key.rows.matrix in
    let h0 = b.table.shared.key.pairs in
    let z = b.table.shared.table_id in
    let fits = seat_fits _ _ _ _ c.self.view_is c.seat.view_is c.requires.seat in
    let same : b.rows.now.matrix ≡ A = same_matrix _ _ c.self.invariant.0 in
    let board : c.args.self.now.rows.matrix ≡ A = sym (ap (λ (p : BoardState). p.rows.matrix) c.self.view_is) ∙ same in
    let r : ℕ = c.in-Some.row in
    let col : ℕ = c.args.col in
    let words : z.words ≡ rows_at A + A.height = c.self.invariant.4 ∙ ap (λ (m : Matrix). rows_at m + m.height) same in
    let mine : it.me.0.chair.hand ≡ Some r = sym c.seat.invariant.1 ∙ c.in-Some.is in
    let given = c.requires.alive in
    let theirs : it.me.0.chair.hand ≡ Some given.0 = ap (λ (s : SeatState). s.chair.hand) c.seat.view_is ∙ given.1 in
    let one : given.0 ≡ r = cc in
    let unpub : it.me.0.chair.published ≡ false = ap (λ (s : SeatState). s.chair.published) c.seat.view_is ∙ c.requires.unpublished in
    let least : LeastAlive A it.me.0.chair.seen r col =
    subst (λ (m : Matrix). LeastAlive m it.me.0.chair.seen r col) board
    (subst (λ (k : Chair). LeastAlive c.args.self.now.rows.matrix k.seen r col) (sym (ap (λ (s : SeatState). s.chair) c.seat.view_is))
    (subst (λ (n : ℕ). LeastAlive c.args.self.now.rows.matrix c.args.seat.now.chair.seen n col) one given.2)) in
    let at : c.seat.inside.seen ≡ length it.me.0.chair.seen = c.seat.invariant.0 in
    let room = c.seat.invariant.4 in
    let cells : rows_at it.me.0.matrix ≡ rows_at A = ap rows_at (fits.1 ∙ same) in (
      fits.0,
      omega arith,
      subst (λ (n : ℕ). Allows (SpellsRun A h0) z.slots it.id it.me n (λ x. either (eqb x 0) c.word_of_pair.result x) (published (step z.slots n 0 c.word_of_pair.result none) it.me)) (sym at)
          (subst (λ (w : ℕ). Allows (SpellsRun A h0) z.slots it.id it.me (length it.me.0.chair.seen) (λ x. either (eqb x 0) w x) (published (step z.slots (length it.me.0.chair.seen) 0 w none) it.me)) (sym c.word_of_pair.ensures)
          (publish_allows A h0 it.id it.me c.seat.invariant.3 (fits.1 ∙ same) r col z.slots mine unpub least)),
    )

pub returns-clause-chair : goal.returns-clause-chair
returns-clause-chair c =
    let it = c.seat.inside.token in
    let A : Matrix = c.args.self.now.rows.matrix in
    let s : Chair = c.args.seat.now.chair in
    let col : ℕ = c.args.col in
    let r : ℕ = c.in-Some.row in
    let found : ℕ = c.compare_exchange-found.result in
    let after = c.compare_exchange-found.new.seat.me in
    let st = step c.self.inside.table.shared.table_id.slots c.seat.inside.seen 0 c.word_of_pair.result none in
    let is : it.me.0.chair ≡ s = ap (λ (x : SeatState). x.chair) c.seat.view_is in
    let told : published st it.me found after = c.compare_exchange-found.ensures.2 in
    let at : c.seat.inside.seen ≡ length s.seen = c.seat.invariant.0 ∙ ap (λ (x : Chair). length x.seen) is in
    let mine : s.hand ≡ Some r = sym (ap (λ (x : Chair). x.hand) is) ∙ sym c.seat.invariant.1 ∙ c.in-Some.is in
    let low : col < 4294967296 = c.ranges.col.fits in
    let back : pair_of c.word_of_pair.result ≡ pair r col = ap pair_of c.word_of_pair.ensures ∙ pair_back (pair r col) low in
    let matrix : it.me.0.matrix ≡ A = ap (λ (x : SeatState). x.matrix) c.seat.view_is ∙ c.requires.seat.1 in
    elim c.if-found-eq0.branch [
      | then-found-eq0 w ↦ subst (λ (o : Outcome). IsOutcome A s col o after.0.chair) (sym w.result-is) (tells_published A col r st it.me found after told s is c.seat.inside.seen at mine back w.if-found-eq0.true)
      | else-found-eq0 w ↦ subst (λ (o : Outcome). IsOutcome A s col o after.0.chair) (sym w.result-is) (tells_newer A col r st it.me found after told s is matrix w.pair_at.result w.pair_at.ensures w.if-found-eq0.false)
    ]
