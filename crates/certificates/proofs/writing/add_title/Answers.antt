-- Word by word.
use Rattle.std.proofs.Common.{ℕ, ◌≡◌, List, ◌∷◌, ◌++◌, length, ap, refl, ◌∙◌}
use Rattle.std.specs.Prelude.{codes}
use Rattle.std.proofs.lemmas.Result.{err_from_is_err_and}
use Rattle.byte_streams.proofs.Added.{added_fault, added_last, added_more, added_nothing}
use Rattle.sms_text.specs.Writing.{output}
use Rattle.sms_text.specs.Written.{pair_line}
use Rattle.certificates.specs.Certificate.{claim_kind, claim_of}
use Rattle.certificates.specs.CertificateText.{kind_word}
use Rattle.certificates.proofs.CertificateWritten.{title_cut, title_of}
use Rattle.certificates.proofs.writing.add_title.Goals as goal

pub returns-in_err-add : goal.returns-in_err-add
returns-in_err-add g c =
    let a = c.args.certificate.now in
    let word = kind_word (claim_kind (claim_of a.claim)) in
    let numbers : List ℕ = 32 ∷ pair_line a.p (length a.pivots) in
    let text = title_of a in
    let fault = err_from_is_err_and c.from_residual.result c.from_residual.ensures.1 in
    rw fault.1 (added_fault text text (codes "certificate ") (word ++ numbers) _ _ _ _ (title_cut word a.p (length a.pivots)) (added_nothing text _ _ _ refl) c.in_err-add.ensures.did)

pub returns-in_err-add-2 : goal.returns-in_err-add-2
returns-in_err-add-2 g c =
    let a = c.args.certificate.now in
    let word = kind_word (claim_kind (claim_of a.claim)) in
    let numbers : List ℕ = 32 ∷ pair_line a.p (length a.pivots) in
    let text = title_of a in
    let is : c.word.result.now ≡ word = c.word.ensures ∙ ap kind_word c.kind.ensures in
    let fault = err_from_is_err_and c.from_residual-in_err-add-2.result c.from_residual-in_err-add-2.ensures.1 in
    rw fault.1 (added_fault text (word ++ numbers) word numbers _ _ _ _ refl
    (added_more text text (codes "certificate ") (word ++ numbers) _ _ _ (title_cut word a.p (length a.pivots)) (added_nothing text _ _ _ refl) c.in_ok-add.ensures.did)
    (rw is at c.in_err-add-2.ensures.did))

pub returns : goal.returns
returns g c =
    let a = c.args.certificate.now in
    let word = kind_word (claim_kind (claim_of a.claim)) in
    let numbers : List ℕ = 32 ∷ pair_line a.p (length a.pivots) in
    let text = title_of a in
    let is : c.word.result.now ≡ word = c.word.ensures ∙ ap kind_word c.kind.ensures in
    added_last text numbers c.add_title.result (output c.args.blocks.now (g.K.Sink.state c.args.out.now))
    (output c.add-2.new.self (g.K.Sink.state c.add-2.new.out)) (output c.add_title.new.self (g.K.Sink.state c.add_title.new.out))
    (added_more text (word ++ numbers) word numbers _ _ _ refl
    (added_more text text (codes "certificate ") (word ++ numbers) _ _ _ (title_cut word a.p (length a.pivots)) (added_nothing text _ _ _ refl) c.in_ok-add.ensures.did)
    (rw is at c.in_ok-add-2.ensures.did)) (rw c.items.ensures at c.add_title.ensures)
