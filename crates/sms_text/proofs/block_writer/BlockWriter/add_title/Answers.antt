-- Word by word.
use Rattle.std.proofs.Common.{ℕ, List, [], ◌∷◌, ◌++◌, ◌≡◌, append_assoc, refl}
use Rattle.std.specs.Fmt.{decimal}
use Rattle.std.proofs.lemmas.Result.{err_from_is_err_and}
use Rattle.byte_streams.specs.Writing.{output}
use Rattle.byte_streams.proofs.Added.{added_nothing, added_more, added_fault, added_last}
use Rattle.sms_text.specs.Written.{pair_line}
use Rattle.sms_text.proofs.block_writer.BlockWriter.add_title.Goals as goal

-- the count and the line's end
abbrev ending : ℕ → List ℕ
ending k = decimal k ++ 10 ∷ []

-- behind the first words
cut : (words : List ℕ) (p k : ℕ) → words ++ pair_line p k ≡ words ++ (decimal p ++ (32 ∷ ending k))
cut words p k = simp append_assoc

pub returns-in_err-add : goal.returns-in_err-add
returns-in_err-add g c =
    let p = c.args.p in
    let k = c.args.count in
    let words = c.args.words.now in
    let text = words ++ pair_line p k in
    let fault = err_from_is_err_and c.from_residual.result c.from_residual.ensures.1 in
    rw fault.1 (added_fault text text words (decimal p ++ (32 ∷ ending k)) _ _ _ _ (cut words p k) (added_nothing text _ _ _ refl) c.in_err-add.ensures.did)

pub returns-in_err-add_number : goal.returns-in_err-add_number
returns-in_err-add_number g c =
    let p = c.args.p in
    let k = c.args.count in
    let words = c.args.words.now in
    let text = words ++ pair_line p k in
    let fault = err_from_is_err_and c.from_residual-in_err-add_number.result c.from_residual-in_err-add_number.ensures.1 in
    rw fault.1 (added_fault text (decimal p ++ (32 ∷ ending k)) (decimal p) (32 ∷ ending k) _ _ _ _ refl
    (added_more text text words (decimal p ++ (32 ∷ ending k)) _ _ _ (cut words p k) (added_nothing text _ _ _ refl) c.in_ok-add.ensures.did) c.in_err-add_number.ensures)

pub returns-in_err-add-2 : goal.returns-in_err-add-2
returns-in_err-add-2 g c =
    let p = c.args.p in
    let k = c.args.count in
    let words = c.args.words.now in
    let text = words ++ pair_line p k in
    let gap : List ℕ = 32 ∷ [] in
    let fault = err_from_is_err_and c.from_residual-in_err-add-2.result c.from_residual-in_err-add-2.ensures.1 in
    rw fault.1 (added_fault text (32 ∷ ending k) gap (ending k) _ _ _ _ refl
    (added_more text (decimal p ++ (32 ∷ ending k)) (decimal p) (32 ∷ ending k) _ _ _ refl
    (added_more text text words (decimal p ++ (32 ∷ ending k)) _ _ _ (cut words p k) (added_nothing text _ _ _ refl) c.in_ok-add.ensures.did)
    c.in_ok-add_number.ensures) c.in_err-add-2.ensures.did)

pub returns-in_err-add_number-2 : goal.returns-in_err-add_number-2
returns-in_err-add_number-2 g c =
    let p = c.args.p in
    let k = c.args.count in
    let words = c.args.words.now in
    let text = words ++ pair_line p k in
    let gap : List ℕ = 32 ∷ [] in
    let line_end : List ℕ = 10 ∷ [] in
    let fault = err_from_is_err_and c.from_residual-in_err-add_number-2.result c.from_residual-in_err-add_number-2.ensures.1 in
    rw fault.1 (added_fault text (ending k) (decimal k) line_end _ _ _ _ refl
    (added_more text (32 ∷ ending k) gap (ending k) _ _ _ refl
    (added_more text (decimal p ++ (32 ∷ ending k)) (decimal p) (32 ∷ ending k) _ _ _ refl
    (added_more text text words (decimal p ++ (32 ∷ ending k)) _ _ _ (cut words p k) (added_nothing text _ _ _ refl) c.in_ok-add.ensures.did)
    c.in_ok-add_number.ensures) c.in_ok-add-2.ensures.did) c.in_err-add_number-2.ensures)

pub returns : goal.returns
returns g c =
    let p = c.args.p in
    let k = c.args.count in
    let words = c.args.words.now in
    let text = words ++ pair_line p k in
    let gap : List ℕ = 32 ∷ [] in
    let line_end : List ℕ = 10 ∷ [] in
    added_last text line_end c.add-3.result (output c.args.self.now (g.K.Sink.state c.args.out.now))
    (output c.add_number-2.new.self (g.K.Sink.state c.add_number-2.new.out)) (output c.add-3.new.self (g.K.Sink.state c.add-3.new.out))
    (added_more text (ending k) (decimal k) line_end _ _ _ refl
    (added_more text (32 ∷ ending k) gap (ending k) _ _ _ refl
    (added_more text (decimal p ++ (32 ∷ ending k)) (decimal p) (32 ∷ ending k) _ _ _ refl
    (added_more text text words (decimal p ++ (32 ∷ ending k)) _ _ _ (cut words p k) (added_nothing text _ _ _ refl) c.in_ok-add.ensures.did)
    c.in_ok-add_number.ensures) c.in_ok-add-2.ensures.did) c.in_ok-add_number-2.ensures) c.add-3.ensures.did
