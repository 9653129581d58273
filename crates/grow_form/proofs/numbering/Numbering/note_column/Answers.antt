use Rattle.std.proofs.Common.{◌<◌, arith, length, subst, sym}
use Rattle.grow_form.specs.Numbering.{ComesBehind, HasRoomFor, NumberedColumns, numbered}
use Rattle.grow_form.proofs.Numbers.{IsNoted, is_noted, long_arrivals}
use Rattle.grow_form.proofs.numbering.Numbering.note_column.Goals as goal

pub invariant_of-self-2 : goal.invariant_of-self-2
invariant_of-self-2 c =
    let below : c.args.c < c.self.inside.width =
    omega (arith, subst (λ (N : NumberedColumns). c.args.c < length N.arrivals) (sym c.self.view_is) c.requires.below, long_arrivals c.self.inside.width c.self.inside.columns.keys) in
    let noted : IsNoted c.self.inside.width c.self.inside.room c.self.inside.columns.keys c.insert.new.self.keys c.args.c =
    is_noted c.self.invariant below (subst (λ N. HasRoomFor N 1) (sym c.self.view_is) c.requires.room) c.in_ok-insert.ensures.keys in
    noted.numbering

pub returns-clause-behind : goal.returns-clause-behind
returns-clause-behind c =
    let below : c.args.c < c.self.inside.width =
    omega (arith, subst (λ (N : NumberedColumns). c.args.c < length N.arrivals) (sym c.self.view_is) c.requires.below, long_arrivals c.self.inside.width c.self.inside.columns.keys) in
    let noted : IsNoted c.self.inside.width c.self.inside.room c.self.inside.columns.keys c.insert.new.self.keys c.args.c =
    is_noted c.self.invariant below (subst (λ N. HasRoomFor N 1) (sym c.self.view_is) c.requires.room) c.in_ok-insert.ensures.keys in
    subst (λ N. ComesBehind N (numbered c.self.inside.width c.self.inside.room c.insert.new.self.keys)) c.self.view_is noted.behind

pub returns-clause-come : goal.returns-clause-come
returns-clause-come c =
    let below : c.args.c < c.self.inside.width =
    omega (arith, subst (λ (N : NumberedColumns). c.args.c < length N.arrivals) (sym c.self.view_is) c.requires.below, long_arrivals c.self.inside.width c.self.inside.columns.keys) in
    let noted : IsNoted c.self.inside.width c.self.inside.room c.self.inside.columns.keys c.insert.new.self.keys c.args.c =
    is_noted c.self.invariant below (subst (λ N. HasRoomFor N 1) (sym c.self.view_is) c.requires.room) c.in_ok-insert.ensures.keys in
    noted.come
