use Rattle.std.proofs.Common.{◌≡◌, ◌≢◌, length, ap, refl, sym, arith, ◌∙◌}
use Rattle.std.proofs.lemmas.Bool.Decides.{nat_tests}
use Rattle.lead_rows.proofs.Dividing.{listed_none}
use Rattle.lead_rows.proofs.Appending.{IsToKeep, kept_extends, to_keep, to_keep_led, to_keep_new}
use Rattle.lead_rows.proofs.leads.Leads.append.Goals as goal

pub returns-then-is_empty-clause-extends : goal.returns-then-is_empty-clause-extends
returns-then-is_empty-clause-extends c =
    let empty : length c.cols.result.now ≡ 0 = grind (arith, nat_tests) in
    (refl, λ j l. listed_none c.args.rest.now.row (sym (ap length c.cols.ensures.support) ∙ empty) j)

pub keep-requires-clause-led : goal.keep-requires-clause-led
keep-requires-clause-led c =
    let some : length c.cols.result.now ≢ 0 = grind (arith, nat_tests) in
    let keep : IsToKeep c.args.self.now c.args.rest.now.row c.in_ok-led.led =
    to_keep c.requires.residues c.requires.zero_at_leads c.requires.modulus c.cols.ensures.support some c.in_ok-led.ensures.lead c.in_ok-led.ensures.modulus c.in_ok-led.ensures.tail in
    to_keep_led keep

pub keep-requires-clause-alone : goal.keep-requires-clause-alone
keep-requires-clause-alone c =
    let some : length c.cols.result.now ≢ 0 = grind (arith, nat_tests) in
    let keep : IsToKeep c.args.self.now c.args.rest.now.row c.in_ok-led.led =
    to_keep c.requires.residues c.requires.zero_at_leads c.requires.modulus c.cols.ensures.support some c.in_ok-led.ensures.lead c.in_ok-led.ensures.modulus c.in_ok-led.ensures.tail in
    to_keep_new keep

pub returns-clause-extends : goal.returns-clause-extends
returns-clause-extends c =
    let some : length c.cols.result.now ≢ 0 = grind (arith, nat_tests) in
    let keep : IsToKeep c.args.self.now c.args.rest.now.row c.in_ok-led.led =
    to_keep c.requires.residues c.requires.zero_at_leads c.requires.modulus c.cols.ensures.support some c.in_ok-led.ensures.lead c.in_ok-led.ensures.modulus c.in_ok-led.ensures.tail in
    kept_extends keep c.in_ok-keep.ensures.ok
