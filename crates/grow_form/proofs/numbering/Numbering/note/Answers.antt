use Rattle.grow_form.proofs.Numbers.{room_for_next}
use Rattle.grow_form.proofs.numbering.Numbering.note.Goals as goal

pub note_column-requires-clause-room : goal.note_column-requires-clause-room
note_column-requires-clause-room c = room_for_next c.loop-k.invariant.behind c.loop-k.invariant.few c.loop-k-test.true c.requires.room
