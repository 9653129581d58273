use Rattle.std.proofs.Common.{arith, refl, ◌∙◌}
use Rattle.sms_text.proofs.PlainLines.{value_found}
use Rattle.sms_text.proofs.reader.plain.value_at.Goals as goal

pub returns : goal.returns
returns c = value_found c.args.p.now c.args.bytes.now c.args.at c.from.result c.in_ok-run.run' c.residue_of.result _
    (omega (arith, c.if-at-bytes.false, c.requires)) (λ e. c.from.ensures ∙ rw e refl) (λ e. c.from.ensures ∙ rw e refl) c.in_ok-run.ensures c.in_ok-next.ensures c.residue_of.ensures.value c.with_sign.ensures.value c.with_sign.ensures.residue
