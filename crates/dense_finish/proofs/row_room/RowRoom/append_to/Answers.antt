use Rattle.std.proofs.Common.{ℕ, ◌≡◌, ◌≤◌, ◌∙◌, List, ◌++◌, ap, arith, drop, length, sym, take}
use Rattle.std.specs.List.{range_with_len}
use Rattle.std.proofs.lemmas.Result.{on_ok_weaker}
use Rattle.dense_finish.proofs.FullRows.{AreFullAt, at_places, gathered_appended, gathered_sparse, length_places}
use Rattle.dense_rows.proofs.Parts.{refilled}
use Rattle.dense_finish.proofs.row_room.RowRoom.append_to.Goals as goal
use Rattle.dense_finish.proofs.row_room.RowRoom.append_to.Goals.{After-deref-3}

-- the first m of n places are m
first_places : {xs : List ℕ} (m n : ℕ) → xs ≡ range_with_len 0 n → m ≤ n → length (take m xs) ≡ m
first_places m n same le = ap (λ xs. length (take m xs)) same ∙ length_places m n le

pub slice_bounds-write_coefficients-end : goal.slice_bounds-write_coefficients-end
slice_bounds-write_coefficients-end g c =
    sym (first_places (length c.args.columns.now) c.args.left.now.matrix.width (c.deref.ensures.value ∙ c.requires.room.places) c.requires.narrow)

pub write_coefficients-requires-clause-many : goal.write_coefficients-requires-clause-many
write_coefficients-requires-clause-many g c κs within =
    first_places (length c.args.columns.now) c.args.left.now.matrix.width (c.deref.ensures.value ∙ c.requires.room.places) c.requires.narrow

pub write_coefficients-requires-clause-places : goal.write_coefficients-requires-clause-places
write_coefficients-requires-clause-places g c κs within =
    let m = length c.args.columns.now in
    let n = c.args.left.now.matrix.width in
    rw (c.deref.ensures.value ∙ c.requires.room.places) (λ k l. at_places m n k c.requires.narrow (omega (arith, length_places m n c.requires.narrow)))

pub slice_bounds-append_entries-end : goal.slice_bounds-append_entries-end
slice_bounds-append_entries-end g c =
    sym (first_places (length c.args.columns.now) c.args.left.now.matrix.width (c.deref-2.ensures.value ∙ c.requires.room.places) c.requires.narrow)

-- as many values as before are written
written_long : (g : _) (c : After-deref-3 g) → length c.write_coefficients.new.to ≡ c.args.self.now.values.len
written_long g c = c.write_coefficients.ensures.long ∙ ap length c.deref_mut.ensures.value ∙ sym c.args.self.now.values.ok.0

-- the room's values are those that are written
values_are : (g : _) (c : After-deref-3 g) →
    take c.args.self.now.values.len (c.write_coefficients.new.to ++ drop (length c.write_coefficients.new.to) c.args.self.now.values.items) ≡ c.write_coefficients.new.to
values_are g c =
    let values = c.args.self.now.values in
    refilled values.len c.write_coefficients.new.to values.items (written_long g c) (sym values.ok.0)

-- the first of them are the row's entries, none of which is 0
full : (g : _) (c : After-deref-3 g) → AreFullAt c.args.left.now.modulus c.args.left.now.matrix.width c.args.columns.now c.args.row.now c.write_coefficients.new.to
full g c = record {
  few = c.requires.narrow;
  room = omega (arith, written_long g c, c.args.self.now.values.ok.0, c.requires.room.values, c.requires.narrow);
  vector = c.requires.residues;
  inside = c.requires.inside;
  read = c.write_coefficients.ensures.entries;
  positive = c.write_coefficients.ensures.positive c.if-write_coefficients.false;
}

pub append_entries-requires-clause-sparse : goal.append_entries-requires-clause-sparse
append_entries-requires-clause-sparse g c =
    rw (c.deref-2.ensures.value ∙ c.requires.room.places, c.deref-3.ensures.value ∙ values_are g c) (gathered_sparse (full g c))

pub returns-clause-room : goal.returns-clause-room
returns-clause-room g c =
    let w = (goal.at.returns-clause-room g c).After-deref-3 in
    on_ok_weaker c.append_entries.result (λ matrix. record {
      places = c.requires.room.places;
      values = ap length (values_are g w) ∙ written_long g w ∙ c.args.self.now.values.ok.0 ∙ c.requires.room.values;
      modulus = c.requires.room.modulus;
      long = c.requires.room.long;
    }) c.append_entries.ensures.matrix

pub returns-clause-row : goal.returns-clause-row
returns-clause-row g c =
    let w = (goal.at.returns-clause-row g c).After-deref-3 in
    on_ok_weaker c.append_entries.result
    (λ matrix. gathered_appended (full g w) c.append_entries.ensures.modulus (rw (c.deref-2.ensures.value ∙ c.requires.room.places, c.deref-3.ensures.value ∙ values_are g w) at matrix)) c.append_entries.ensures.matrix
