use Rattle.std.proofs.Common.{◌≡◌, ◌<◌, ◌+◌, ◌∙◌, ap, arith, length, subst, sym}
use Rattle.std.proofs.lemmas.List.{get_or_read}
use Rattle.lead_rows.specs.Led.{IsLed, IsNewLead, with_led}
use Rattle.lead_rows.specs.Leads.{KeptRows}
use Rattle.lead_rows.proofs.LedRows.{led, no_led}
use Rattle.lead_rows.proofs.Behind.{IsLedBehind, behind_more, behind_new, first_behind, led_behind}
use Rattle.lead_rows.proofs.leads.Leads.behind_zeros.Goals as goal

pub keep-requires-clause-led : goal.keep-requires-clause-led
keep-requires-clause-led c =
    let l : c.loop-k.k < length c.self.inside.rows.items = omega (arith, c.loop-k-test.true, c.len-k-end.ensures) in
    let read : led c.self.inside.rows.items c.loop-k.k ≡ c.index.result.now = sym (get_or_read c.self.inside.rows.items c.loop-k.k c.index.result.now l c.index.ensures no_led) in
    let at : IsLed c.self.inside.modulus c.self.inside.width c.index.result.now =
    subst (IsLed c.self.inside.modulus c.self.inside.width) read (c.self.invariant.0.each c.loop-k.k no_led l) in
    let is : IsLedBehind c.args.count c.index.result.now c.in_ok-behind_zeros.field-0 = record {
      lead = c.in_ok-behind_zeros.ensures.lead;
      modulus = c.in_ok-behind_zeros.ensures.modulus;
      tail = c.in_ok-behind_zeros.ensures.tail;
    } in
    subst (λ (K : KeptRows). IsLed K.modulus K.matrix.width c.in_ok-behind_zeros.field-0) (sym c.loop-k.invariant)
    (led_behind (omega (arith, c.self.invariant.0.two_or_more)) at is)

pub keep-requires-clause-alone : goal.keep-requires-clause-alone
keep-requires-clause-alone c =
    let l : c.loop-k.k < length c.self.inside.rows.items = omega (arith, c.loop-k-test.true, c.len-k-end.ensures) in
    let read : led c.self.inside.rows.items c.loop-k.k ≡ c.index.result.now = sym (get_or_read c.self.inside.rows.items c.loop-k.k c.index.result.now l c.index.ensures no_led) in
    let lead : c.args.count + (led c.self.inside.rows.items c.loop-k.k).lead ≡ c.in_ok-behind_zeros.field-0.lead = ap (λ r. c.args.count + r.lead) read ∙ sym c.in_ok-behind_zeros.ensures.lead in
    subst (λ (K : KeptRows). IsNewLead K c.in_ok-behind_zeros.field-0.lead) (sym c.loop-k.invariant)
    (subst (IsNewLead (first_behind c.self.inside.modulus c.self.inside.width c.args.count c.self.inside.rows.items c.loop-k.k)) lead
    (behind_new c.args.count c.self.invariant.0 l))

pub loop-k-preserved : goal.loop-k-preserved
loop-k-preserved c =
    let l : c.loop-k.k < length c.self.inside.rows.items = omega (arith, c.loop-k-test.true, c.len-k-end.ensures) in
    let read : led c.self.inside.rows.items c.loop-k.k ≡ c.index.result.now = sym (get_or_read c.self.inside.rows.items c.loop-k.k c.index.result.now l c.index.ensures no_led) in
    let is : IsLedBehind c.args.count c.index.result.now c.in_ok-behind_zeros.field-0 = record {
      lead = c.in_ok-behind_zeros.ensures.lead;
      modulus = c.in_ok-behind_zeros.ensures.modulus;
      tail = c.in_ok-behind_zeros.ensures.tail;
    } in
    behind_more c.self.inside.modulus c.self.inside.width c.args.count c.self.inside.rows.items c.loop-k.k c.in_ok-behind_zeros.field-0 c.keep.new.self l
    (subst (λ r. IsLedBehind c.args.count r c.in_ok-behind_zeros.field-0) (sym read) is)
    (c.in_ok-keep.ensures.ok ∙ ap (λ K. with_led K c.in_ok-behind_zeros.field-0) c.loop-k.invariant)
