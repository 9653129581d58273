-- What the code of a run tells of its words, and how a batch ends that never began.
use Rattle.std.proofs.Common.{ℕ, ◌≡◌, ◌⊎◌, List, [], Result, Ok, Err, sym, ap, refl, subst, ◌∙◌, inl, inr, arith, false}
use Rattle.std.specs.Io.KnownBytes.{Keeps}
use Rattle.std.proofs.KnownBytes.{Keeps-refl}
use Rattle.byte_streams.specs.declared.write.WriteFault.{WriteFault}
use Rattle.sms_text.specs.declared.reader.TheConstants.{LARGEST_INPUT}
use Rattle.sms_text.specs.Reading.{untouched}
use Rattle.sms_text.specs.Stream.{SinkState}
use Rattle.sms_text.specs.Writing.{Writes}
use Rattle.sms_text.proofs.Moving.{draws_none}
use Rattle.spasm_run.specs.Input.{Input}
use Rattle.spasm_run.specs.Ran.{Run}
use Rattle.spasm_run.specs.Status.{Tells}
use Rattle.batch_solve.specs.declared.batch_status.BatchStatus.{BatchStatus}
use Rattle.batch_solve.specs.declared.batch_status.BatchStatus.TheVariants as status
use Rattle.batch_solve.specs.BatchRan.{AreTooFewForBatch, BatchRan, ExplainsBatch}
use Rattle.batch_solve.specs.BatchStatus.{batch_code}
use Rattle.batch_solve.specs.BatchWords.{AskForNoBatch}
use Rattle.std_edge.specs.declared.words.NoWords.TheVariants as none
use Rattle.std_edge.specs.Edge.{EndsWithout, Holds, Told, fresh_sink, fresh_source}
use Rattle.std_edge.proofs.Telling.{holds_all}
use Rattle.spasm_batch.specs.Ends.{BatchEndsFor}

-- an output that hadn't failed has failed only where the status says so
pub whole_or_fault : (r : Run) (input : Input) (s : BatchStatus) → ExplainsBatch r input s → r.out.faults ≡ 0 →
    (r.out_after.faults ≡ 0) ⊎ (s ≡ status.WriteFault)
whole_or_fault r input status.Done cause fresh = inl (ap (λ o. o.faults) cause.2 ∙ fresh)
whole_or_fault r input status.Usage cause fresh = inl (ap (λ o. o.faults) cause.1 ∙ fresh)
whole_or_fault r input (status.BadText line k) cause fresh = inl (ap (λ o. o.faults) cause.1 ∙ fresh)
whole_or_fault r input (status.Shape question h w) cause fresh = inl (ap (λ o. o.faults) cause.1 ∙ fresh)
whole_or_fault r input status.ReadFault cause fresh = inl (ap (λ o. o.faults) cause.1 ∙ fresh)
whole_or_fault r input status.WriteFault cause fresh = inr refl
whole_or_fault r input status.Memory cause fresh = inl (ap (λ o. o.faults) cause.1 ∙ fresh)
whole_or_fault r input (status.Wide h w) cause fresh = inl (ap (λ o. o.faults) cause.1 ∙ fresh)

tells_written : (written : Result (Unit {0}) WriteFault) (line : List ℕ) (old new : SinkState) → Writes written line old new → Tells line old new
tells_written (Ok done) line old new says = inl says
tells_written (Err fault) line old new says = inr says

-- a batch for which memory was refused at once
abbrev unbegun : List (List ℕ) → Told → Run
unbegun words told = record {
  words = words;
  limit = LARGEST_INPUT;
  source = fresh_source told.input;
  source_after = fresh_source told.input;
  out = fresh_sink told.output;
  out_after = fresh_sink told.output;
}

unbegun_ran : (words : List (List ℕ)) (told : Told) → BatchRan (unbegun words told) status.Memory
unbegun_ran words told = record {
  input = record { bytes = []; ended = false };
  draws = draws_none (AreTooFewForBatch words LARGEST_INPUT) (untouched (fresh_source told.input));
  cause = (tt, refl);
  complete = record {
    usage = λ refused. inr refl;
    fault = λ c bytes line k offered first. inr refl;
    shape = λ c bytes t offered misfit. inr refl;
    done = λ c bytes said offered contents fits steady. inr refl;
  };
}

pub ends_unbegun : (words : List (List ℕ)) (before after : Told) (code : ℕ) → after.input ≡ before.input → after.output ≡ before.output →
    EndsWithout none.Memory before.errors after.errors code → BatchEndsFor words before after code
ends_unbegun words before after code input output ends = record {
  run = unbegun words before;
  status = status.Memory;
  of_words = refl;
  limit = refl;
  source = refl;
  out = refl;
  ran = unbegun_ran words before;
  code_is = ends.code_is;
  whole = inl refl;
  errors = ends.errors;
  says = tells_written ends.written _ _ _ ends.says;
  left = record {
    input = subst (Keeps before.input) (sym input) (Keeps-refl before.input);
    output = subst (λ now. Holds now (fresh_sink before.output)) (sym output) (holds_all before.output 0);
    errors = ends.held;
  };
}

pub refused_ends : (words : List (List ℕ)) (before after : Told) (code : ℕ) → BatchEndsFor words before after code → AskForNoBatch words → (code ≡ 2) ⊎ (code ≡ 8)
refused_ends words before after code e refused = elim (e.ran.complete.usage (subst AskForNoBatch (sym e.of_words) refused)) [
  | inl usage ↦ inl (e.code_is ∙ ap batch_code usage)
  | inr memory ↦ inr (e.code_is ∙ ap batch_code memory)
]

usage_refuses : (r : Run) (s : BatchStatus) → BatchRan r s → batch_code s ≡ 2 → AskForNoBatch r.words
usage_refuses r status.Done ran is = absurd (omega arith)
usage_refuses r status.Usage ran is = ran.cause.0
usage_refuses r (status.BadText line k) ran is = absurd (omega arith)
usage_refuses r (status.Shape question h w) ran is = absurd (omega arith)
usage_refuses r status.ReadFault ran is = absurd (omega arith)
usage_refuses r status.WriteFault ran is = absurd (omega arith)
usage_refuses r status.Memory ran is = absurd (omega arith)
usage_refuses r (status.Wide h w) ran is = absurd (omega arith)

pub ends_refused : (words : List (List ℕ)) (before after : Told) (code : ℕ) → BatchEndsFor words before after code → code ≡ 2 → AskForNoBatch words
ends_refused words before after code e is = subst AskForNoBatch e.of_words (usage_refuses e.run e.status e.ran (sym e.code_is ∙ is))
