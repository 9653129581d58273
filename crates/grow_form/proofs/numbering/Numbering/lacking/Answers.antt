use Rattle.std.proofs.Common.{◌-◌, ◌+◌, ◌≤◌, arith, inl, inr, length, subst}
use Rattle.std.proofs.lemmas.Bool.{cases_lt}
use Rattle.grow_form.specs.Numbering.{HasRoomFor, NumberedColumns, with_numbers}
use Rattle.grow_form.proofs.Numbers.{long_arrivals}
use Rattle.grow_form.proofs.numbering.Numbering.lacking.Goals as goal

pub returns-then-wanted-self-clause-none : goal.returns-then-wanted-self-clause-none
returns-then-wanted-self-clause-none c =
    subst (λ N. HasRoomFor N c.args.count) c.self.view_is (elim (cases_lt c.min-wanted.result c.self.inside.width) [
      | inl less ↦ inl (omega (arith, less, c.if-wanted-self.true, c.min-wanted.ensures, c.saturating_add.ensures, c.len.ensures.len))
      | inr all ↦ inr (omega (arith, all, c.if-wanted-self.true, c.self.invariant.within, long_arrivals c.self.inside.width c.self.inside.columns.keys))
    ])

pub returns-clause-some : goal.returns-clause-some
returns-clause-some c =
    subst (λ N. HasRoomFor (with_numbers N (c.min-room.result - c.self.inside.room)) c.args.count) c.self.view_is (elim (cases_lt c.min-room.result c.self.inside.width) [
      | inl less ↦ inl (omega (arith, less, c.if-wanted-self.false, c.min-wanted.ensures, c.saturating_add.ensures, c.len.ensures.len, c.max.ensures, c.min-room.ensures))
      | inr all ↦ inr (omega (arith, all, c.if-wanted-self.false, c.min-room.ensures, c.self.invariant.within, long_arrivals c.self.inside.width c.self.inside.columns.keys))
    ])

pub returns-clause-within : goal.returns-clause-within
returns-clause-within c =
    subst (λ (N : NumberedColumns). c.min-room.result - c.self.inside.room + N.room ≤ length N.arrivals) c.self.view_is
    (omega (arith, c.if-wanted-self.false, c.min-wanted.ensures, c.max.ensures, c.min-room.ensures, c.self.invariant.within, long_arrivals c.self.inside.width c.self.inside.columns.keys))
