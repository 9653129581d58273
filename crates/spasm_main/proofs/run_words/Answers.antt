-- The words that are lent are the words; without memory to lend them, no run begins.
use Rattle.std.proofs.Common.{ap, subst, ◌∙◌}
use Rattle.spasm_words.specs.Options.{bytes_of}
use Rattle.std_edge.specs.Edge.{told, texts_of}
use Rattle.spasm_main.specs.Ends.{EndsFor}
use Rattle.spasm_main.proofs.Ending.{ends_unbegun}
use Rattle.spasm_main.proofs.run_words.Goals as goal

pub returns-in-Ok : goal.returns-in-Ok
returns-in-Ok g c =
    let tells = told g.I.Read.remaining g.O.Write.contents g.E.Write.contents in
    subst (λ words. EndsFor words (tells c.args.streams) (tells c.run_lent.result.streams) c.run_lent.result.code)
    (ap bytes_of c.deref.ensures.value ∙ c.in-Ok.ensures) c.run_lent.ensures

pub returns-in-Err : goal.returns-in-Err
returns-in-Err g c =
    let tells = told g.I.Read.remaining g.O.Write.contents g.E.Write.contents in
    ends_unbegun (texts_of c.args.owned.now) (tells c.args.streams) (tells c.end_without.result.streams) c.end_without.result.code
    (ap g.I.Read.remaining c.end_without.ensures.input) (ap g.O.Write.contents c.end_without.ensures.output) c.end_without.ensures.ends
