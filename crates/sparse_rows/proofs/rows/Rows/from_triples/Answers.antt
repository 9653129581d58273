use Rattle.std.proofs.Common.{◌≡◌, ◌∙◌, ◌++◌, ◌∷◌, [], List, ap, get_or, map, sym}
use Rattle.std.proofs.lemmas.List.{map_more, take_all}
use Rattle.std.proofs.lemmas.Result.{IfOk-weaker}
use Rattle.sparse_rows.specs.Rows.{Building, Triple, built, triple}
use Rattle.sparse_rows.proofs.rows.Rows.from_triples.Goals as goal

pub loop-i-preserved : goal.loop-i-preserved
loop-i-preserved c =
    let building : List Triple → Building = λ ts. record { modulus = c.args.p.now; height = c.args.m; width = c.args.n; pushed = ts } in
    c.in_ok-push.ensures.ok
    ∙ ap (λ (b : Building). record b { pushed = b.pushed ++ triple (get_or c.args.triples.now c.loop-i.i-index (0, 0, 0)) ∷ [] }) c.loop-i.invariant
    ∙ ap building (sym (map_more triple c.args.triples.now c.loop-i.i-index (0, 0, 0) c.loop-i-test.true))

pub returns-clause-matrix : goal.returns-clause-matrix
returns-clause-matrix c =
    let all : c.loop-i.builder ≡ record { modulus = c.args.p.now; height = c.args.m; width = c.args.n; pushed = map triple c.args.triples.now } =
    c.loop-i.invariant ∙ ap (λ ts. record { modulus = c.args.p.now; height = c.args.m; width = c.args.n; pushed = map triple ts }) (take_all c.loop-i.i-index c.args.triples.now c.loop-i-test.false) in
    IfOk-weaker c.finish.result _ _ (λ rows h. h ∙ ap (λ (b : Building). built b.modulus b.height b.width b.pushed) all) c.finish.ensures.matrix
