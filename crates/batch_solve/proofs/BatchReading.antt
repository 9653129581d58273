-- Texts of matrices read one after another.
use Rattle.std.proofs.Common.{ℕ, zero, suc, ◌≡◌, ◌+◌, ◌-◌, ◌<◌, ◌≤◌, All, List, [], ◌∷◌, ◌++◌, None, Ok, Err, length, replicate, refl, sym, ap, subst, ◌∙◌, arith, append-nil, append_assoc, length-append}
use Rattle.std.proofs.lemmas.List.{map-append}
use Rattle.std.proofs.lemmas.List.Elements.{All-append, All-cons, All-nil}
use Rattle.sparse_rows.specs.Rows.{ResidueMatrix}
use Rattle.sms_text.specs.declared.kind.TextError.{TextError}
use Rattle.sms_text.specs.declared.kind.TextError.TheVariants as error
use Rattle.sms_text.specs.declared.reader.TheConstants.{LARGEST_TEXT_SIZE}
use Rattle.sms_text.specs.Parts.{open_at, wants}
use Rattle.sms_text.specs.Reading.{InputState, ReaderState, input, new_reader}
use Rattle.sms_text.specs.ReadingRows.{RowsDid}
use Rattle.sms_text.specs.Stream.{SourceState}
use Rattle.sms_text.specs.Text.{Due, Header, Item, matrices, outer_lines}
use Rattle.sms_text.proofs.Parts.{ReadSoFar, so_far_begins, so_far_ends, so_far_pauses}
use Rattle.sms_text.proofs.ReadingMatrices.{rows_missed, rows_taken}
use Rattle.spasm_run.specs.Contents.{Contents, contents, matrices_alone}
use Rattle.spasm_run.specs.Input.{IsOfText, WasRead}
use Rattle.spasm_run.proofs.Input.{contents_are, from_start, parts_read, parts_unread}
use Rattle.batch_solve.specs.BatchFound.{matrices_of}

-- so many texts
abbrev pub texts_due : ℕ → List Due
texts_due n = replicate n Header

-- no text is open where texts are due
pub texts_closed : (n : ℕ) → open_at (texts_due n) ≡ None
texts_closed zero = refl
texts_closed (suc n) = refl

-- of so many texts that are due, these were read
pub record HasRead (p count : ℕ) (texts : List ResidueMatrix) (old now : InputState) : Type 0 where
  pub items : List Item
  pub so_far : ReadSoFar (wants p (texts_due count)) old now items (texts_due (count - length texts))
  pub matrix : (more : List Item) → matrices p (items ++ more) ≡ matrices_of texts ++ matrices p more
  pub inside : (more : List Item) → outer_lines (items ++ more) ≡ outer_lines more
  pub of_text : All (IsOfText p) texts

-- the items say these contents, and nothing is due behind them
abbrev Says : ℕ → Contents → List Item → List Due → Type 0
Says p said items rest = (rest ≡ []) × (contents p items ≡ said)

module _ (p limit count : ℕ) (reader : ReaderState) (source : SourceState) (begins : reader ≡ new_reader limit) where
  -- none was read yet
  pub texts_begin : (texts : List ResidueMatrix) → texts ≡ [] → HasRead p count texts (input reader source) (input reader source)
  texts_begin texts none =
      let sound : reader.error ≡ None = ap (λ r. r.error) begins in
      let closed : reader.open_text ≡ open_at (texts_due count) = ap (λ r. r.open_text) begins ∙ sym (texts_closed count) in
      subst (λ ts. HasRead p count ts (input reader source) (input reader source)) (sym none) (record {
        items = [];
        so_far = subst (λ n. ReadSoFar (wants p (texts_due count)) (input reader source) (input reader source) [] (texts_due n)) (let e : count ≡ count - 0 = omega arith in e)
            (so_far_begins (wants p (texts_due count)) (input reader source) sound closed);
        matrix = λ more. refl;
        inside = λ more. refl;
        of_text = All-nil (IsOfText p);
      })

  module _ (texts : List ResidueMatrix) (mid : InputState) (has : HasRead p count texts (input reader source) mid) where
    -- the reader stands between two texts
    pub texts_between : mid.reader.open_text ≡ None
    texts_between = has.so_far.stands.opened ∙ texts_closed (count - length texts)

    module _ (new : InputState) (less : length texts < count) where
      -- one more is due
      one_due : texts_due (count - length texts) ≡ Header ∷ texts_due (count - (length texts + 1))
      one_due = ap texts_due (let e : count - length texts ≡ suc (count - (length texts + 1)) = omega arith in e)

      stood : ReadSoFar (wants p (texts_due count)) (input reader source) mid has.items (Header ∷ texts_due (count - (length texts + 1)))
      stood = subst (ReadSoFar (wants p (texts_due count)) (input reader source) mid has.items) one_due has.so_far

      -- it was read
      pub texts_go : (A : ResidueMatrix) (longer : List ResidueMatrix) → RowsDid p mid new (Ok A) → A.matrix.height ≤ LARGEST_TEXT_SIZE → A.matrix.width ≤ LARGEST_TEXT_SIZE →
          longer ≡ texts ++ A ∷ [] → HasRead p count longer (input reader source) new
      texts_go A longer did height width is =
          let s = rows_taken (wants p (texts_due count)) (texts_due (count - (length texts + 1))) (input reader source) mid new has.items A stood (texts_closed (count - (length texts + 1))) did in
          let long : length (texts ++ A ∷ []) ≡ length texts + 1 = length-append texts (A ∷ []) in
          let of_this : IsOfText p A = record { modulus = s.1.modulus; height = omega (arith, height); width = omega (arith, width) } in
          subst (λ ts. HasRead p count ts (input reader source) new) (sym is) (record {
            items = has.items ++ s.0;
            so_far = subst (λ k. ReadSoFar (wants p (texts_due count)) (input reader source) new (has.items ++ s.0) (texts_due (count - k))) (sym long) s.2;
            matrix = λ more.
                ap (matrices p) (append_assoc has.items s.0 more) ∙ has.matrix (s.0 ++ more) ∙ ap (λ ms. matrices_of texts ++ ms) (s.1.matrix more)
                ∙ sym (append_assoc (matrices_of texts) (A.matrix ∷ []) (matrices p more)) ∙ ap (λ ms. ms ++ matrices p more) (sym (map-append (λ (B : ResidueMatrix). B.matrix) texts (A ∷ [])));
            inside = λ more. ap outer_lines (append_assoc has.items s.0 more) ∙ has.inside (s.0 ++ more) ∙ s.1.inside more;
            of_text = All-append (IsOfText p) texts (A ∷ []) has.of_text (All-cons (IsOfText p) A [] of_this (All-nil (IsOfText p)));
          })

      -- or not
      pub texts_missed : (e : TextError) → RowsDid p mid new (Err e) → WasRead (from_start p limit (texts_due count)) (Err e) source new.source
      texts_missed e did =
          parts_unread p limit (texts_due count) (Says p) reader source new e begins
          (rows_missed (wants p (texts_due count)) (texts_due (count - (length texts + 1))) (Says p) (input reader source) mid new has.items e stood (texts_closed (count - (length texts + 1))) did)

    -- memory was wanted between two texts
    pub texts_pause : WasRead (from_start p limit (texts_due count)) (Err error.Memory) source mid.source
    texts_pause =
        parts_unread p limit (texts_due count) (Says p) reader source mid error.Memory begins
        (so_far_pauses (wants p (texts_due count)) (Says p) (input reader source) mid has.items (texts_due (count - length texts)) has.so_far)

    -- all were read
    pub texts_end : length texts ≡ count → WasRead (from_start p limit (texts_due count)) (Ok (matrices_alone (matrices_of texts))) source mid.source
    texts_end whole =
        let none : texts_due (count - length texts) ≡ [] = ap texts_due (let e : count - length texts ≡ 0 = omega arith in e) in
        let said : contents p has.items ≡ matrices_alone (matrices_of texts) =
        contents_are p has.items (matrices_of texts) [] (ap (matrices p) (sym (append-nil has.items)) ∙ has.matrix [] ∙ append-nil (matrices_of texts))
        (ap outer_lines (sym (append-nil has.items)) ∙ has.inside []) in
        parts_read p limit (texts_due count) (Says p) reader source mid (matrices_alone (matrices_of texts)) (matrices_alone (matrices_of texts)) begins (λ items rest is. is)
        (so_far_ends (wants p (texts_due count)) (Says p) (input reader source) mid has.items (texts_due (count - length texts)) (matrices_alone (matrices_of texts)) has.so_far (none, said))
