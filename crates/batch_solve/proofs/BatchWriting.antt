-- Texts written one behind another.
use Rattle.std.proofs.Common.{ℕ, ◌≡◌, ◌+◌, ◌<◌, ◌≤◌, ◌++◌, List, [], ◌∷◌, Result, Ok, Err, length, take, drop, get_or, sym, ap, ◌∙◌, append-nil, append_assoc}
use Rattle.std.specs.Prelude.{codes}
use Rattle.std.specs.Fmt.{decimal}
use Rattle.std.specs.Result.{IsErr}
use Rattle.std.proofs.lemmas.Grind.{flat_map-append}
use Rattle.std.proofs.lemmas.List.{take-append-drop, take_all, take_more}
use Rattle.byte_streams.specs.declared.write.WriteFault.{WriteFault}
use Rattle.byte_streams.proofs.Puts.{behind_nothing}
use Rattle.sms_text.specs.Stream.{SinkState, Gained}
use Rattle.sms_text.specs.Writing.{Writes}
use Rattle.kernel_solve.specs.declared.prepared.Reply.{Reply}
use Rattle.spasm_run.proofs.Written.{writes_same, writes_stops, writes_then}
use Rattle.batch_solve.specs.BatchFound.{replies_text, reply_text}
use Rattle.batch_solve.specs.BatchStatus.{shape_line}

-- the texts of the replies up to k, and of one more
text_more : (replies : List Reply) (k : ℕ) (d : Reply) → k < length replies → replies_text (take k replies) ++ reply_text (get_or replies k d) ≡ replies_text (take (k + 1) replies)
text_more replies k d less =
    ap (λ (t : List ℕ). replies_text (take k replies) ++ t) (sym (append-nil (reply_text (get_or replies k d))))
    ∙ sym (flat_map-append reply_text (take k replies) (get_or replies k d ∷ [])) ∙ ap replies_text (sym (take_more replies k d less))

-- none was written yet
pub none_written : (replies : List Reply) (s : SinkState) → Gained (replies_text (take 0 replies)) s s
none_written replies s = behind_nothing s

-- one more was written
pub more_written : (replies : List Reply) (k : ℕ) (item : Reply) (s s' s'' : SinkState) → k < length replies → item ≡ get_or replies k item → Gained (replies_text (take k replies)) s s' →
    Writes (Ok tt) (reply_text item) s' s'' → Gained (replies_text (take (k + 1) replies)) s s''
more_written replies k item s s' s'' less is before wrote =
    writes_same (Ok tt) _ _ s s'' (ap (λ (r : Reply). replies_text (take k replies) ++ reply_text r) is ∙ text_more replies k item less)
    (writes_then (Ok tt) (replies_text (take k replies)) (reply_text item) s s' s'' before wrote)

-- a part of one more was written
pub part_written : (replies : List Reply) (k : ℕ) (item : Reply) (s s' s'' : SinkState) (fault : WriteFault) (result : Result (Unit {0}) WriteFault) → IsErr result → k < length replies →
    item ≡ get_or replies k item → Gained (replies_text (take k replies)) s s' → Writes (Err fault) (reply_text item) s' s'' → Writes result (replies_text replies) s s''
part_written replies k item s s' s'' fault result failed less is before wrote =
    let up_to = writes_then (Err fault) (replies_text (take k replies)) (reply_text item) s s' s'' before wrote in
    let all : (replies_text (take k replies) ++ reply_text item) ++ replies_text (drop (k + 1) replies) ≡ replies_text replies =
    ap (λ (t : List ℕ). t ++ replies_text (drop (k + 1) replies)) (ap (λ (r : Reply). replies_text (take k replies) ++ reply_text r) is ∙ text_more replies k item less)
    ∙ sym (flat_map-append reply_text (take (k + 1) replies) (drop (k + 1) replies)) ∙ ap replies_text (take-append-drop (k + 1) replies) in
    writes_same result _ _ s s'' all (writes_stops result fault (replies_text (take k replies) ++ reply_text item) (replies_text (drop (k + 1) replies)) s s'' failed up_to)

-- all were written
pub all_written : (replies : List Reply) (k : ℕ) (s s' : SinkState) → length replies ≤ k → Gained (replies_text (take k replies)) s s' → Writes (Ok tt) (replies_text replies) s s'
all_written replies k s s' le before = writes_same (Ok tt) _ _ s s' (ap replies_text (take_all k replies le)) before

-- the pieces of the line that names a right-hand side
pub shape_pieces : (h w q : ℕ) → (((codes "error 4 shape " ++ decimal h) ++ (codes " " ++ decimal w)) ++ (codes " question " ++ decimal q)) ++ 10 ∷ [] ≡ shape_line h w q
shape_pieces h w q =
    ap (λ (l : List ℕ). l ++ 10 ∷ []) (sym (append_assoc ((codes "error 4 shape " ++ decimal h) ++ (codes " " ++ decimal w)) (codes " question ") (decimal q)))
