use Rattle.std.proofs.Common.{arith, ◌≡◌, ap, subst, ◌∙◌}
use Rattle.std.specs.Prelude.{None}
use Rattle.pivot_table.specs.Board.{SeatState}
use Rattle.pivot_table.specs.History.{StartsWith}
use Rattle.pivot_table.specs.Rule.{TableSeat}
use Rattle.pivot_table.proofs.Splitting.{join_allowed}
use Rattle.pivot_table.proofs.Fitting.{seat_fits, same_matrix}
use Rattle.pivot_table.proofs.Allowed.{look_allows}
use Rattle.pivot_table.proofs.Telling.{tells_begins}
use Rattle.pivot_table.proofs.board.Board.join.Goals as goal

pub join_seat-requires : goal.join_seat-requires
join_seat-requires c =
    let b = c.self.inside in
    let it = c.seat.inside.token in
    let o = c.other.inside.token in
    let fits = seat_fits _ _ _ _ c.self.view_is c.seat.view_is c.requires.seat in
    let theirs = seat_fits _ _ _ _ c.self.view_is c.other.view_is c.requires.other in
    let words = c.self.invariant.4 in
    let idle : o.me.0.chair.hand ≡ None = ap (λ (s : SeatState). s.chair.hand) c.other.view_is ∙ c.requires.idle in
    (fits.0, theirs.0, c.other.invariant.5, omega arith, join_allowed b.table.shared.key.rows.matrix b.table.shared.key.pairs it.id it.me.0 c.seat.invariant.3 o.id o.me.0 c.other.invariant.3 idle)

pub load-requires : goal.load-requires
load-requires c =
    let b = c.self.inside in
    let it = c.seat.inside.token in
    let fits = seat_fits _ _ _ _ c.self.view_is c.seat.view_is c.requires.seat in
    let same = same_matrix _ _ c.self.invariant.0 in
    let words = c.self.invariant.4 in
    let me = c.join_seat.ensures.2 in
    let now = c.join_seat.new.seat in (
      c.join_seat.ensures.0 ∙ fits.0,
      omega arith,
      look_allows b.table.shared.key.rows.matrix b.table.shared.key.pairs now.id now.me (ap (λ (m : TableSeat). m.0.live) me ∙ c.seat.invariant.3) (ap (λ (m : TableSeat). m.0.matrix) me ∙ fits.1 ∙ same) b.table.shared.table_id.slots 0,
    )

pub returns-then-seat-seen-clause-begins : goal.returns-then-seat-seen-clause-begins
returns-then-seat-seen-clause-begins c =
    subst (λ (x : SeatState). StartsWith c.load.new.seat.me.0.chair.seen c.args.seat.now.chair.seen × StartsWith c.load.new.seat.me.0.chair.seen x.chair.seen) c.other.view_is
    (subst (λ (x : SeatState). StartsWith c.load.new.seat.me.0.chair.seen x.chair.seen × StartsWith c.load.new.seat.me.0.chair.seen c.other.inside.token.me.0.chair.seen) c.seat.view_is
    (tells_begins c.seat.inside.token.me c.other.inside.token.me.0 c.join_seat.new.seat.me c.load.new.seat.me c.join_seat.ensures.2 c.load.ensures.2.0 c.load.ensures.2.1))

pub returns-else-seat-seen-clause-begins : goal.returns-else-seat-seen-clause-begins
returns-else-seat-seen-clause-begins c =
    subst (λ (x : SeatState). StartsWith c.load.new.seat.me.0.chair.seen c.args.seat.now.chair.seen × StartsWith c.load.new.seat.me.0.chair.seen x.chair.seen) c.other.view_is
    (subst (λ (x : SeatState). StartsWith c.load.new.seat.me.0.chair.seen x.chair.seen × StartsWith c.load.new.seat.me.0.chair.seen c.other.inside.token.me.0.chair.seen) c.seat.view_is
    (tells_begins c.seat.inside.token.me c.other.inside.token.me.0 c.join_seat.new.seat.me c.load.new.seat.me c.join_seat.ensures.2 c.load.ensures.2.0 c.load.ensures.2.1))
