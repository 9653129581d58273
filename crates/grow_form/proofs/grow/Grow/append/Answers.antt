use Rattle.std.proofs.Common.{◌≡◌, ◌∙◌, ap, length, subst, sym}
use Rattle.std.proofs.lemmas.Result.{IfOk-weaker, on_err_weaker}
use Rattle.sparse_rows.specs.Rows.{ResidueMatrix}
use Rattle.sparse_rows.specs.Stored.{IsSparse, spread}
use Rattle.sparse_rows.proofs.Below.{any_err}
use Rattle.grow_form.specs.Growing.{AppendsRow}
use Rattle.grow_form.specs.Numbering.{seen_rows}
use Rattle.grow_form.proofs.Numbers.{kept_behind, seen_behind}
use Rattle.grow_form.proofs.grow.Grow.append.Goals as goal

pub note-requires-clause-below : goal.note-requires-clause-below
note-requires-clause-below c =
    let view : seen_rows c.make_room.new.kept c.make_room.new.numbering ≡ c.args.self.now = c.make_room.ensures.seen ∙ c.self.view_is in
    let sparse : IsSparse c.make_room.new.kept.modulus (length c.make_room.new.numbering.arrivals) c.args.cols.now c.args.vals.now =
    subst (λ (g : ResidueMatrix). IsSparse g.modulus g.matrix.width c.args.cols.now c.args.vals.now) (sym view) c.requires in
    sparse.below

pub insert_row-requires-clause-by_numbers : goal.insert_row-requires-clause-by_numbers
insert_row-requires-clause-by_numbers c = kept_behind c.is_sound-3.ensures.rows c.make_room.ensures.by_numbers c.note.ensures.behind

pub insert_row-requires-clause-sparse : goal.insert_row-requires-clause-sparse
insert_row-requires-clause-sparse c =
    let view : seen_rows c.make_room.new.kept c.make_room.new.numbering ≡ c.args.self.now = c.make_room.ensures.seen ∙ c.self.view_is in
    let sparse : IsSparse c.make_room.new.kept.modulus (length c.make_room.new.numbering.arrivals) c.args.cols.now c.args.vals.now =
    subst (λ (g : ResidueMatrix). IsSparse g.modulus g.matrix.width c.args.cols.now c.args.vals.now) (sym view) c.requires in
    rw c.note.ensures.behind.width sparse

pub returns-clause-ok : goal.returns-clause-ok
returns-clause-ok c =
    let view : seen_rows c.make_room.new.kept c.note.new.self ≡ c.args.self.now =
    seen_behind c.is_sound-3.ensures.rows c.make_room.ensures.by_numbers c.note.ensures.behind ∙ c.make_room.ensures.seen ∙ c.self.view_is in
    IfOk-weaker c.insert_row.result _ _
    (λ rose appends. subst (λ (g : ResidueMatrix). AppendsRow g (seen_rows c.insert_row.new.kept c.note.new.self) (spread g.matrix.width c.args.cols.now c.args.vals.now) rose) view appends)
    c.insert_row.ensures.ok

pub returns-clause-err : goal.returns-clause-err
returns-clause-err c =
    on_err_weaker c.insert_row.result (λ same. ap (λ K. seen_rows K c.note.new.self) same
    ∙ seen_behind c.is_sound-3.ensures.rows c.make_room.ensures.by_numbers c.note.ensures.behind ∙ c.make_room.ensures.seen ∙ c.self.view_is) c.insert_row.ensures.err

pub returns-in_err-note-clause-err : goal.returns-in_err-note-clause-err
returns-in_err-note-clause-err c =
    let view : seen_rows c.make_room.new.kept c.make_room.new.numbering ≡ c.args.self.now = c.make_room.ensures.seen ∙ c.self.view_is in
    any_err c.from_residual-in_err-note.result (seen_behind c.is_sound-3.ensures.rows c.make_room.ensures.by_numbers c.note.ensures.behind ∙ view)
