use Rattle.std.proofs.Common.{◌≡◌, ◌≤◌, ◌∙◌, ◌++◌, ap, arith, drop, length, sym, take}
use Rattle.sparse_rows.specs.Rows.{LARGEST_SIZE}
use Rattle.dense_finish.proofs.Assembling.{eliminates}
use Rattle.dense_rows.proofs.Parts.{refilled}
use Rattle.dense_finish.proofs.block.Block.eliminate.Goals as goal

pub returns : goal.returns
returns g c =
    let entries = c.self.inside.entries in
    let rows = c.eliminate.new.block in
    let left : take entries.len (rows ++ drop (length rows) entries.items) ≡ rows = refilled entries.len rows entries.items (c.eliminate.auto.block ∙ c.deref_mut.ensures.len) (sym entries.ok.0) in
    let found = rw (c.deref.ensures.value, c.deref_mut.ensures.value) at c.eliminate.ensures.found in
    let eliminated = rw (c.deref.ensures.value, c.deref_mut.ensures.value) at c.eliminate.ensures.eliminated in
    let split = rw (c.deref.ensures.value, c.deref_mut.ensures.value) at c.eliminate.ensures.split in
    rw (← c.self.view_is, left) (eliminates _ rows c.eliminate.result (rw (← c.self.view_is) at c.requires.dense) (c.eliminate.auto.block ∙ ap length c.deref_mut.ensures.value) found eliminated split)

pub invariant_of-elimination : goal.invariant_of-elimination
invariant_of-elimination g c =
    let dense = rw (← c.self.view_is) at c.requires.dense in
    let few : length c.deref.result.now ≤ LARGEST_SIZE = omega (arith, ap length c.deref.ensures.value, dense.columns_few) in
    record {
      some = c.requires.some;
      few = few;
      inside = rw c.deref.ensures.value dense.columns_below;
      rising = rw c.deref.ensures.value dense.columns_rising;
      narrow = dense.narrow;
    }

pub eliminate-requires-clause-low : goal.eliminate-requires-clause-low
eliminate-requires-clause-low g c κs within =
    let dense = rw (← c.self.view_is) at c.requires.dense in
    omega (arith, ap length c.deref_mut.ensures.value, dense.long, dense.rows_few)

pub eliminate-requires-clause-residues : goal.eliminate-requires-clause-residues
eliminate-requires-clause-residues g c κs within =
    let dense = rw (← c.self.view_is) at c.requires.dense in
    rw (c.deref.ensures.value, c.deref_mut.ensures.value) dense.residues
