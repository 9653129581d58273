use Rattle.std.proofs.Common.{◌≡◌, ◌∙◌, ap, arith, length, map, slice_index, sym, take}
use Rattle.std.proofs.lemmas.List.{get_or-take, length-map, length-take, length-take-le, take-map}
use Rattle.dense_rows.proofs.dense.Dense.write_first.Goals as goal

pub write_front-requires-clause-room : goal.write_front-requires-clause-room
write_front-requires-clause-room g c κs within = omega (arith, length-take c.args.count c.deref.result.now, c.requires.room)

pub returns-clause-entries : goal.returns-clause-entries
returns-clause-entries g c = λ k l.
    let value = g.W.Residue.value in
    let xs = c.deref.result.now in
    let count = c.args.count in
    let same : map value xs ≡ c.args.self.now = ap (map value) c.deref.ensures.value ∙ c.self.view_is in
    let long : length xs ≡ length c.args.self.now = sym (length-map xs value) ∙ ap length same in
    c.write_front.ensures.written k (omega (arith, length-take-le count xs (omega (arith, long, c.requires.inside))))
    ∙ ap (λ v. slice_index v k) (sym (take-map value count xs) ∙ ap (take count) same) ∙ get_or-take count c.args.self.now k 0 l

pub returns-clause-positive : goal.returns-clause-positive
returns-clause-positive g c = λ none k l.
    let value = g.W.Residue.value in
    let xs = c.deref.result.now in
    let same : map value xs ≡ c.args.self.now = ap (map value) c.deref.ensures.value ∙ c.self.view_is in
    let long : length xs ≡ length c.args.self.now = sym (length-map xs value) ∙ ap length same in
    c.write_front.ensures.positive none k (omega (arith, length-take-le c.args.count xs (omega (arith, long, c.requires.inside))))
