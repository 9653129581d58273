-- The written text of a trace reads as this trace.
use Rattle.std.proofs.Common.{ℕ, ◌≡◌, ◌+◌, ◌-◌, Bool, true, List, [], ◌∷◌, ◌++◌, length, map, Some, refl, ap, ◌∙◌, subst, arith, append_assoc}
use Rattle.std.specs.Prelude.{All, codes}
use Rattle.std.specs.Fmt.{decimal}
use Rattle.residue_words.specs.declared.modulus.TheConstants.{MODULUS_BOUND}
use Rattle.sms_text.specs.declared.reader.TheConstants.{LARGEST_TEXT_SIZE}
use Rattle.sms_text.specs.OuterLines.{Step, is_step, is_trace}
use Rattle.sms_text.specs.OuterLines as form
use Rattle.sms_text.specs.Text.{Due, Outer, Item, Words, due_behind, number_at, outer_lines, step_lines}
use Rattle.sms_text.specs.Written.{entry_line}
use Rattle.sms_text.proofs.CountedLines.{counted_carry, given_again, items_of_words, words_again}
use Rattle.sms_text.proofs.Parts.{outer_says}
use Rattle.sms_text.proofs.WrittenLines.{Carries, IsWord, carries_append, carries_line, carries_words, spaced}
use Rattle.sms_text.proofs.WrittenNumbers.{decimal_spells, from_one, up_to}
use Rattle.run_trace.specs.declared.publication.Publication.{Publication}
use Rattle.run_trace.specs.declared.trace.Trace.{Trace}
use Rattle.run_trace.specs.TraceText.{HasTraceText, IsTextPublication, publication_lines, publication_of, trace_title, trace_said, trace_text}
use Rattle.run_trace.specs.Laws.{WrittenTraceReadsBack, publication_words, trace_title_words, trace_items}

first_word_written : IsWord (codes "trace")
first_word_written = record { above = (omega arith, (omega arith, (omega arith, (omega arith, (omega arith, tt))))); filled = refl }

-- the first line
title_spaced : (p k : ℕ) → trace_title p k ≡ spaced (codes "trace") (decimal p ∷ decimal k ∷ []) ++ 10 ∷ []
title_spaced p k = simp append_assoc

title_fits : (t : Trace) → HasTraceText t → is_trace (trace_title_words t) ≡ true
title_fits t has =
    rw (
      up_to (MODULUS_BOUND - 1) t.p _ (decimal_spells t.p (omega (arith, has.modulus))) (omega (arith, has.modulus)),
      up_to LARGEST_TEXT_SIZE (length t.publications) _ (decimal_spells (length t.publications) (omega (arith, has.count))) has.count,
    ) refl

title_carries : (p : ℕ) (t : Trace) → HasTraceText t → (ended : Bool) (dues : List Due) →
    Carries p ended (Outer form.Trace ∷ dues) (step_lines (length t.publications) ++ dues) (trace_title t.p (length t.publications)) (Words (trace_title_words t) ∷ [])
title_carries p t has ended dues =
    let n = length t.publications in
    let modulus = decimal_spells t.p (omega (arith, has.modulus)) in
    let count = decimal_spells n (omega (arith, has.count)) in
    let due : due_behind form.Trace (trace_title_words t) ++ dues ≡ step_lines n ++ dues = ap (λ k. step_lines k ++ dues) count.spelled in
    let P : List Due → Type 0 = λ d. Carries p ended (Outer form.Trace ∷ dues) d (trace_title t.p n) (Words (trace_title_words t) ∷ []) in
    subst P due (carries_words p ended (Outer form.Trace) dues (trace_title t.p n) (codes "trace") (decimal t.p ∷ decimal n ∷ [])
    (record { item = Words (trace_title_words t); due = due_behind form.Trace (trace_title_words t) }) (title_spaced t.p n)
    first_word_written (modulus.word, (count.word, tt)) refl (outer_says p form.Trace (trace_title_words t) (title_fits t has)))

-- the lines of the publications
abbrev publication_items : List Publication → List Item
publication_items list = map (λ (x : Publication). Words (publication_words x)) list

one_carries : (p : ℕ) (ended : Bool) (dues : List Due) (x : Publication) (n : ℕ) → IsTextPublication x →
    Carries p ended (Outer (Step n) ∷ dues) (step_lines n ++ dues) (entry_line (x.pair.row + 1) (x.pair.col + 1) x.version) (Words (publication_words x) ∷ [])
one_carries p ended dues x n here =
    let row = decimal_spells (x.pair.row + 1) (omega (arith, here.row)) in
    let col = decimal_spells (x.pair.col + 1) (omega (arith, here.col)) in
    let version = decimal_spells x.version (omega (arith, here.version)) in
    let fits : is_step (publication_words x) ≡ true =
    rw (from_one LARGEST_TEXT_SIZE x.pair.row _ row here.row, from_one LARGEST_TEXT_SIZE x.pair.col _ col here.col, up_to LARGEST_TEXT_SIZE x.version _ version here.version) refl in
    carries_line p ended (Outer (Step n)) dues (decimal (x.pair.row + 1)) (decimal (x.pair.col + 1)) (decimal x.version)
    (record { item = Words (publication_words x); due = step_lines n }) row.word col.word version.word row.unmarked (outer_says p (Step n) (publication_words x) fits)

steps_carry : (p : ℕ) (list : List Publication) → All IsTextPublication list → (ended : Bool) (dues : List Due) →
    Carries p ended (step_lines (length list) ++ dues) dues (publication_lines list) (publication_items list)
steps_carry p list small ended dues =
    counted_carry Step (λ (x : Publication). entry_line (x.pair.row + 1) (x.pair.col + 1) x.version) publication_words IsTextPublication p ended dues (one_carries p ended dues) list small

trace_carries : (p : ℕ) (t : Trace) → HasTraceText t → (ended : Bool) (dues : List Due) →
    Carries p ended (Outer form.Trace ∷ dues) dues (trace_text t.p t.publications) (trace_items t)
trace_carries p t has ended dues =
    carries_append p ended _ _ _ _ _ _ _ (title_carries p t has ended dues) (steps_carry p t.publications has.publications ended dues)

-- what the lines give
lines_again : (list : List Publication) → outer_lines (publication_items list) ≡ map publication_words list
lines_again list = ap outer_lines (items_of_words publication_words list) ∙ words_again (map publication_words list)

one_again : (x : Publication) → IsTextPublication x → publication_of (publication_words x) ≡ x
one_again x here =
    let ws = publication_words x in
    let row = (decimal_spells (x.pair.row + 1) (omega (arith, here.row))).spelled in
    let col = (decimal_spells (x.pair.col + 1) (omega (arith, here.col))).spelled in
    let version = (decimal_spells x.version (omega (arith, here.version))).spelled in
    let same_row : number_at ws 0 - 1 ≡ x.pair.row = omega (arith, row) in
    let same_col : number_at ws 1 - 1 ≡ x.pair.col = omega (arith, col) in
    ap (λ r. made r (number_at ws 1 - 1) (number_at ws 2)) same_row ∙ ap (λ c. made x.pair.row c (number_at ws 2)) same_col ∙ ap (made x.pair.row x.pair.col) version
  where
    made : ℕ → ℕ → ℕ → Publication
    made r c v = record { pair = record { row = r; col = c }; version = v }

publications_again : (list : List Publication) → All IsTextPublication list → map publication_of (map publication_words list) ≡ list
publications_again list small = given_again publication_of publication_words IsTextPublication one_again list small

said_again : (t : Trace) → HasTraceText t → trace_said (outer_lines (trace_items t)) ≡ Some t
said_again t has =
    let modulus = (decimal_spells t.p (omega (arith, has.modulus))).spelled in
    ap (λ l. trace_said (trace_title_words t ∷ l)) (lines_again t.publications)
    ∙ ap (λ n. Some (made n (map publication_of (map publication_words t.publications)))) modulus
    ∙ ap (λ l. Some (made t.p l)) (publications_again t.publications has.publications)
  where
    made : ℕ → List Publication → Trace
    made n l = record { p = n; publications = l }

pub reads_back : WrittenTraceReadsBack
reads_back t has = (said_again t has, (λ p ended room number dues rest fits. (trace_carries p t has ended dues).step room number rest fits))
