-- The first line, the pivots, and then matrix by matrix.
use Rattle.std.proofs.Common.{ℕ, List, [], ◌++◌, ap, append-nil, refl, subst, sym}
use Rattle.std.specs.Prelude.{All}
use Rattle.std.proofs.lemmas.Result.{err_from_is_err_and}
use Rattle.byte_streams.proofs.Added.{added_nothing, added_more, added_fault, added_sent}
use Rattle.sms_text.specs.Written.{IsSmallPlace, pair_lines, text_of}
use Rattle.certificates.specs.Certificate.{certificate_of, claim_of}
use Rattle.certificates.specs.CertificateText.{certificate_text, claim_text}
use Rattle.certificates.proofs.CertificateWritten.{behind_title, small_places, text_cut, title_of}
use Rattle.certificates.proofs.writing.write.Goals as goal

pub add_pairs-requires : goal.add_pairs-requires
add_pairs-requires g c = subst (All IsSmallPlace) (sym c.items.ensures) (small_places c.args.certificate.now.pivots c.requires.pivots)

pub returns-in_err-add_title : goal.returns-in_err-add_title
returns-in_err-add_title g c =
    let a = c.args.certificate.now in
    let text = certificate_text (certificate_of a) in
    let title = title_of a in
    let cut = text_cut a in
    let last : List ℕ = claim_text (claim_of a.claim) in
    let right : List ℕ = text_of a.u.matrix ++ last in
    let factors : List ℕ = text_of a.l.matrix ++ right in
    let fault = err_from_is_err_and c.from_residual.result c.from_residual.ensures.1 in
    rw fault.1 (added_fault text text title (behind_title a) _ _ _ _ cut
    (added_nothing text _ _ _ c.new-blocks.ensures) c.in_err-add_title.ensures)

pub returns-in_err-add_pairs : goal.returns-in_err-add_pairs
returns-in_err-add_pairs g c =
    let a = c.args.certificate.now in
    let text = certificate_text (certificate_of a) in
    let title = title_of a in
    let cut = text_cut a in
    let last : List ℕ = claim_text (claim_of a.claim) in
    let right : List ℕ = text_of a.u.matrix ++ last in
    let factors : List ℕ = text_of a.l.matrix ++ right in
    let fault = err_from_is_err_and c.from_residual-in_err-add_pairs.result c.from_residual-in_err-add_pairs.ensures.1 in
    rw fault.1 (added_fault text (behind_title a) (pair_lines c.items.result.now) factors _ _ _ _ (ap (λ qs. pair_lines qs ++ factors) (sym c.items.ensures))
    (added_more text text title (behind_title a) _ _ _ cut
    (added_nothing text _ _ _ c.new-blocks.ensures) c.in_ok-add_title.ensures) c.in_err-add_pairs.ensures)

pub returns-in_err-add_rows : goal.returns-in_err-add_rows
returns-in_err-add_rows g c =
    let a = c.args.certificate.now in
    let text = certificate_text (certificate_of a) in
    let title = title_of a in
    let cut = text_cut a in
    let last : List ℕ = claim_text (claim_of a.claim) in
    let right : List ℕ = text_of a.u.matrix ++ last in
    let factors : List ℕ = text_of a.l.matrix ++ right in
    let fault = err_from_is_err_and c.from_residual-in_err-add_rows.result c.from_residual-in_err-add_rows.ensures.1 in
    rw fault.1 (added_fault text factors (text_of a.l.matrix) right _ _ _ _ refl
    (added_more text (behind_title a) (pair_lines c.items.result.now) factors _ _ _ (ap (λ qs. pair_lines qs ++ factors) (sym c.items.ensures))
    (added_more text text title (behind_title a) _ _ _ cut
    (added_nothing text _ _ _ c.new-blocks.ensures) c.in_ok-add_title.ensures) c.in_ok-add_pairs.ensures) c.in_err-add_rows.ensures)

pub returns-in_err-add_rows-2 : goal.returns-in_err-add_rows-2
returns-in_err-add_rows-2 g c =
    let a = c.args.certificate.now in
    let text = certificate_text (certificate_of a) in
    let title = title_of a in
    let cut = text_cut a in
    let last : List ℕ = claim_text (claim_of a.claim) in
    let right : List ℕ = text_of a.u.matrix ++ last in
    let factors : List ℕ = text_of a.l.matrix ++ right in
    let fault = err_from_is_err_and c.from_residual-in_err-add_rows-2.result c.from_residual-in_err-add_rows-2.ensures.1 in
    rw fault.1 (added_fault text right (text_of a.u.matrix) last _ _ _ _ refl
    (added_more text factors (text_of a.l.matrix) right _ _ _ refl
    (added_more text (behind_title a) (pair_lines c.items.result.now) factors _ _ _ (ap (λ qs. pair_lines qs ++ factors) (sym c.items.ensures))
    (added_more text text title (behind_title a) _ _ _ cut
    (added_nothing text _ _ _ c.new-blocks.ensures) c.in_ok-add_title.ensures) c.in_ok-add_pairs.ensures) c.in_ok-add_rows.ensures) c.in_err-add_rows-2.ensures)

pub returns-in_err-add_claim : goal.returns-in_err-add_claim
returns-in_err-add_claim g c =
    let a = c.args.certificate.now in
    let text = certificate_text (certificate_of a) in
    let title = title_of a in
    let cut = text_cut a in
    let last : List ℕ = claim_text (claim_of a.claim) in
    let right : List ℕ = text_of a.u.matrix ++ last in
    let factors : List ℕ = text_of a.l.matrix ++ right in
    let fault = err_from_is_err_and c.from_residual-in_err-add_claim.result c.from_residual-in_err-add_claim.ensures.1 in
    rw fault.1 (added_fault text last last [] _ _ _ _ (sym (append-nil last))
    (added_more text right (text_of a.u.matrix) last _ _ _ refl
    (added_more text factors (text_of a.l.matrix) right _ _ _ refl
    (added_more text (behind_title a) (pair_lines c.items.result.now) factors _ _ _ (ap (λ qs. pair_lines qs ++ factors) (sym c.items.ensures))
    (added_more text text title (behind_title a) _ _ _ cut
    (added_nothing text _ _ _ c.new-blocks.ensures) c.in_ok-add_title.ensures) c.in_ok-add_pairs.ensures) c.in_ok-add_rows.ensures) c.in_ok-add_rows-2.ensures) c.in_err-add_claim.ensures)

pub returns : goal.returns
returns g c =
    let a = c.args.certificate.now in
    let text = certificate_text (certificate_of a) in
    let title = title_of a in
    let cut = text_cut a in
    let last : List ℕ = claim_text (claim_of a.claim) in
    let right : List ℕ = text_of a.u.matrix ++ last in
    let factors : List ℕ = text_of a.l.matrix ++ right in
    added_sent text [] _ _ _ _ refl
    (added_more text last last [] _ _ _ (sym (append-nil last))
    (added_more text right (text_of a.u.matrix) last _ _ _ refl
    (added_more text factors (text_of a.l.matrix) right _ _ _ refl
    (added_more text (behind_title a) (pair_lines c.items.result.now) factors _ _ _ (ap (λ qs. pair_lines qs ++ factors) (sym c.items.ensures))
    (added_more text text title (behind_title a) _ _ _ cut
    (added_nothing text _ _ _ c.new-blocks.ensures) c.in_ok-add_title.ensures) c.in_ok-add_pairs.ensures) c.in_ok-add_rows.ensures) c.in_ok-add_rows-2.ensures) c.in_ok-add_claim.ensures) c.send.ensures.did
