-- Where it isn't told what is to be generated, or which certificate is asked for, no task is.
use Rattle.std.proofs.Common.{◌≡◌, ◌∙◌, codes, sym}
use Rattle.std.proofs.lemmas.Slice.Eq.{bytes_eq-Decides}
use Rattle.clap.specs.Words.{found_of, rows_of}
use Rattle.spasm_words.proofs.Matching.{no_certify, no_drill}
use Rattle.spasm_words.proofs.command_words.task_of.Goals as goal

pub returns-in_err-generator : goal.returns-in_err-generator
returns-in_err-generator c =
    let none = c.from_residual.ensures in
    let name : c.args.name.now ≡ codes "drill" = (bytes_eq-Decides c.args.name.now (codes "drill")).0 (sym c.eq.ensures ∙ c.if-eq.true) in
    rw none (no_drill c.args.name.now (rows_of (found_of c.args.options.now)) name c.in_err-generator.ensures)

pub returns-in_err-kind : goal.returns-in_err-kind
returns-in_err-kind c =
    let none = c.from_residual-in_err-kind.ensures in
    let name : c.args.name.now ≡ codes "certify" = (bytes_eq-Decides c.args.name.now (codes "certify")).0 (sym c.eq-2.ensures ∙ c.if-eq-2.true) in
    rw none (no_certify c.args.name.now (rows_of (found_of c.args.options.now)) name c.in_err-kind.ensures)
