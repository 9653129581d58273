-- A matrix and the script behind it, read from a new reader on; and its answers as what is answered to a command.
use Rattle.std.proofs.Common.{ℕ, ◌≡◌, List, [], ◌∷◌, ◌++◌, map, Ok, Err, refl, sym, ap, ap₂, ◌∙◌, subst, append-nil}
use Rattle.std.specs.Prelude.{All, Vec}
use Rattle.std.specs.declared.alloc.Global.{Global}
use Rattle.residue_words.specs.Matrix.{Matrix}
use Rattle.residue_words.specs.Residues.{IsPrime}
use Rattle.sparse_rows.specs.Rows.{ResidueMatrix}
use Rattle.sms_text.specs.OuterLines as form
use Rattle.sms_text.specs.declared.kind.TextError.{TextError}
use Rattle.sms_text.specs.declared.kind.TextError.TheVariants as error
use Rattle.sms_text.specs.Parts.{IsTooShort, IsUnread, PartDid, ReadsPart, wants}
use Rattle.sms_text.specs.Reading.{InputState, IsShort, ReaderState, input, new_reader, supply, untouched}
use Rattle.sms_text.specs.ReadingRows.{RowsDid, SaysRows}
use Rattle.sms_text.specs.Stream.{SourceState}
use Rattle.sms_text.specs.Text.{Due, Header, Item, Outer, Scripted, Words, matrices, outer_lines}
use Rattle.sms_text.proofs.Moving.{draws_with}
use Rattle.sms_text.proofs.Parts.{ReadSoFar, part_missed, part_reads, part_taken, so_far_ends}
use Rattle.sms_text.proofs.Scripts.{scripted_short, scripted_taken, scripted_unread}
use Rattle.certificates.proofs.CertificateLines.{words_have}
use Rattle.grow_form.specs.declared.answering.Answer.{Answer}
use Rattle.grow_form.specs.Scripts.{AnswersLines, AnswerFitsText, SaysScript, answers_text}
use Rattle.spasm_run.specs.declared.command_answer.CommandAnswer.TheVariants as answer
use Rattle.spasm_words.specs.declared.command.Command.{Command}
use Rattle.spasm_words.specs.declared.command.Task.TheVariants as task
use Rattle.spasm_run.specs.Answers.{AnswersScript}
use Rattle.spasm_run.specs.Computed.{IsAnswerTo, asking}
use Rattle.spasm_run.specs.Contents.{AreAnswered, Contents, contents}
use Rattle.spasm_run.specs.Input.{SaysContents, WasAnswered, WasRead}
use Rattle.spasm_run.specs.Shapes.{HasAnswerShape}
use Rattle.spasm_run.proofs.Input.{from_start, parts_read, parts_unread}

-- these items say these contents
abbrev Says : ℕ → Contents → List Item → List Due → Type 0
Says p said items rest = (rest ≡ []) × (contents p items ≡ said)

-- the matrix was not read
pub matrix_unread : (p limit : ℕ) (reader : ReaderState) (source : SourceState) (new : InputState) (e : TextError) → reader ≡ new_reader limit → RowsDid p (input reader source) new (Err e) →
    WasRead (from_start p limit (Scripted ∷ [])) (Err e) source new.source
matrix_unread p limit reader source new e begins did =
    let P : ReaderState → Type 0 = λ o. RowsDid p (input o source) new (Err e) in
    go (part_reads (wants p (Header ∷ [])) (SaysRows p) (input (new_reader limit) source) new (Err e) refl (subst P begins did))
  where
    says : (d : TextError) (taken : List ℕ) → IsUnread (wants p (Header ∷ [])) (new_reader limit) new.reader taken d →
        SaysContents (from_start p limit (Scripted ∷ [])) (record { bytes = taken; ended = new.reader.ended }) (Err d)
    says (error.Bad line k) taken u = (scripted_unread p (new_reader limit) new.reader taken (error.Bad line k) (λ z. absurd cc) u).1 []
    says error.Read taken u = (scripted_unread p (new_reader limit) new.reader taken error.Read (λ z. absurd cc) u).1 []
    says error.Memory taken u = tt

    go : ReadsPart (wants p (Header ∷ [])) (SaysRows p) (input (new_reader limit) source) new (Err e) → WasRead (from_start p limit (Scripted ∷ [])) (Err e) source new.source
    go r = record {
      input = record { bytes = r.taken; ended = new.reader.ended };
      draws = draws_with (IsTooShort (wants p (Header ∷ [])) (new_reader limit)) (IsShort (from_start p limit (Scripted ∷ []))) _ r.taken (untouched source) (supply new)
          (λ more few. scripted_short p (new_reader limit) more few []) r.draws;
      says = says e r.taken r.reads;
    }

-- Behind the matrix a script was to be read.
module _ (p limit : ℕ) (reader : ReaderState) (source : SourceState) (mid new : InputState) (A : ResidueMatrix) (begins : reader ≡ new_reader limit) (first : RowsDid p (input reader source) mid (Ok A)) where
  abbrev script : List Due
  script = Outer (form.Script A.matrix.width) ∷ []

  behind : (items : List Item) × SaysRows p A items [] × ReadSoFar (wants p (Scripted ∷ [])) (input reader source) mid items script
  behind = scripted_taken p (input reader source) mid A first

  -- it was
  pub script_read : (answers : Vec Answer Global) → PartDid (wants A.modulus script) (λ (x : Vec Answer Global). SaysScript A x.items) mid new (Ok answers) →
      WasAnswered (from_start p limit (Scripted ∷ [])) (Ok answers) source new.source
  script_read answers did =
      let (items, is, so_far) = behind in
      let Means : Vec Answer Global → List Item → List Due → Type 0 = λ x. SaysScript A x.items in
      let here : PartDid (wants p script) Means mid new (Ok answers) = subst (λ q. PartDid (wants q script) Means mid new (Ok answers)) is.modulus did in
      let r = part_reads (wants p script) Means mid new (Ok answers) so_far.stands.sound here in
      let all = part_taken (wants p (Scripted ∷ [])) script [] Means (input reader source) mid new items so_far refl answers r in
      let means = r.reads.means in
      let said : Contents = record { matrices = A.matrix ∷ []; lines = means.lines } in
      let words = words_have p means.lines in
      let no_more : matrices p r.reads.items ≡ [] = ap (matrices p) (means.items_are ∙ sym (append-nil (map Words means.lines))) ∙ words.matrices [] in
      let all_lines : outer_lines r.reads.items ≡ means.lines = ap outer_lines (means.items_are ∙ sym (append-nil (map Words means.lines))) ∙ words.words [] ∙ append-nil means.lines in
      let values : matrices p (items ++ r.reads.items) ≡ A.matrix ∷ [] = is.matrix r.reads.items ∙ ap (λ ms. A.matrix ∷ ms) no_more in
      let lines : outer_lines (items ++ r.reads.items) ≡ means.lines = is.inside r.reads.items ∙ all_lines in
      let make : List Matrix → List (List (List ℕ)) → Contents = λ ms ls. record { matrices = ms; lines = ls } in (
        said,
        parts_read p limit (Scripted ∷ []) (Says p) reader source new said said begins (λ i d h. h)
            (so_far_ends (wants p (Scripted ∷ [])) (Says p) (input reader source) new (items ++ r.reads.items) [] said
            (subst (ReadSoFar (wants p (Scripted ∷ [])) (input reader source) new (items ++ r.reads.items)) (append-nil r.reads.due ∙ means.whole) all)
            (refl, ap₂ make values lines)),
        record {
          matrix = A.matrix;
          matrices = refl;
          answered = subst (λ q. IsPrime q → AnswersLines q A.matrix means.lines (answers_text answers.items)) is.modulus means.answered;
        },
      )

  -- it wasn't
  pub script_unread : (e : TextError) → PartDid (wants A.modulus script) (λ (x : Vec Answer Global). SaysScript A x.items) mid new (Err e) → WasRead (from_start p limit (Scripted ∷ [])) (Err e) source new.source
  script_unread e did =
      let (items, is, so_far) = behind in
      let Means : Vec Answer Global → List Item → List Due → Type 0 = λ x. SaysScript A x.items in
      let here : PartDid (wants p script) Means mid new (Err e) = subst (λ q. PartDid (wants q script) Means mid new (Err e)) is.modulus did in
      parts_unread p limit (Scripted ∷ []) (Says p) reader source new e begins
      (part_missed (wants p (Scripted ∷ [])) script [] Means (input reader source) mid new items so_far refl (Says p) e here)

-- the answers to a script are the answer to the command
pub script_answers : (p : ℕ) (answers : Vec Answer Global) (said : Contents) (c : Command) → All AnswerFitsText answers.items → AreAnswered p answers.items said →
    IsAnswerTo (asking task.Grow p c) said (answer.Script answers)
script_answers p answers said c fits are = record {
  small = fits;
  fits = refl;
  shape = subst (λ values. HasAnswerShape task.Grow p values (answers_text answers.items)) (sym are.matrices) (answers.items, fits, refl);
  answers = λ prime. subst (λ values. AnswersScript p values said.lines (answers_text answers.items)) (sym are.matrices) (are.answered prime);
  ends = refl;
}
