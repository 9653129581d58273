use Rattle.std.proofs.Common.{refl, arith}
use Rattle.triangular_solve.proofs.PlacingEntries.{entries_placed, entry_comes, entry_passes}
use Rattle.triangular_solve.proofs.placed_entries.place_entries.Goals as goal
use Rattle.triangular_solve.proofs.placed_entries.place_entries.Goals.{in-Some, in_default}

pub loop-k-preserved : goal.loop-k-preserved
loop-k-preserved c =
    let inv = c.loop-k.invariant in
    let rising = c.cols-cols.ensures.ascending in
    let l = c.loop-k-test.true in
    elim c.match-find.branch [
      | in-Some w ↦ rw w.entries-is record {
        placed = rw w.push_reserved.ensures.items (entry_comes rising l inv.placed c.requires.distinct _ w.in-Some.ensures refl);
        few = omega (arith, w.push_reserved.ensures.len, inv.few);
        room = omega (arith, w.push_reserved.ensures.capacity, inv.room);
      }
      | in_default w ↦ rw w.entries-is record {
        placed = entry_passes rising l inv.placed w.in_default.ensures;
        few = omega (arith, inv.few);
        room = inv.room;
      }
    ]

pub returns : goal.returns
returns c = entries_placed c.is_sound.ensures.entries c.requires.inside c.cols-cols.ensures.support c.vals-vals.ensures.values c.loop-k-test.false c.loop-k.auto.k-end c.loop-k.invariant.placed
