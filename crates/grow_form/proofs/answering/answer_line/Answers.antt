use Rattle.std.proofs.Common.{◌≡◌, ◌↔◌, true, None, Some, subst, sym}
use Rattle.residue_words.specs.Matrix.{IsCombination}
use Rattle.grow_form.specs.Answers.{AnswersOfScript, FitsRows, IsRowFor}
use Rattle.grow_form.specs.Growing.{AppendsRow}
use Rattle.grow_form.specs.declared.answering.Answer.TheVariants as answer
use Rattle.grow_form.proofs.Growing.{spread_alone}
use Rattle.grow_form.proofs.answering.answer_line.Goals as goal

pub returns-in_ok-append-in-Append-clause-ok : goal.returns-in_ok-append-in-Append-clause-ok
returns-in_ok-append-in-Append-clause-ok c =
    let fits : IsRowFor c.args.grow.now c.in-Append.row = subst (FitsRows c.args.grow.now) c.in-Append.is c.requires in
    subst (λ l. AnswersOfScript c.args.grow.now c.append.new.self l None) (sym c.in-Append.is) (
      c.in_ok-append-in-Append.field-0,
      subst (λ v. AppendsRow c.args.grow.now c.append.new.self v c.in_ok-append-in-Append.field-0)
          (spread_alone c.is_sound.ensures.entries fits.width fits.height c.cols.ensures.support c.vals.ensures.values) c.in_ok-append-in-Append.ensures.ok,
    )

pub returns-in_ok-contains-in-Contains-clause-ok :
    goal.returns-in_ok-contains-in-Contains-clause-ok
returns-in_ok-contains-in-Contains-clause-ok c =
    let fits : IsRowFor c.args.grow.now c.in-Contains.row = subst (FitsRows c.args.grow.now) c.in-Contains.is c.requires in
    subst (λ l. AnswersOfScript c.args.grow.now c.contains.new.self l (Some (answer.Contains c.in_ok-contains-in-Contains.field-0))) (sym c.in-Contains.is) (
      c.contains.ensures.same,
      subst (λ v. (c.in_ok-contains-in-Contains.field-0 ≡ true) ↔ IsCombination c.args.grow.now.modulus c.args.grow.now.matrix v)
          (spread_alone c.is_sound-in-Contains.ensures.entries fits.width fits.height c.cols-in-Contains.ensures.support c.vals-in-Contains.ensures.values) c.in_ok-contains-in-Contains.ensures.found,
    )
