-- What a run reads, writes and refuses, worked on small examples modulo 7; and, modulo 4, what no run writes.
use Rattle.std.specs.Prelude.{◌≡◌, true, ℕ, List, [], ◌∷◌, Some, None, codes}
use Rattle.residue_words.specs.Matrix.{Matrix}
use Rattle.pivot_table.specs.History.{pair}
use Rattle.sms_text.specs.declared.kind.Kind.TheVariants as kind
use Rattle.sms_text.specs.Text.{FirstFault}
use Rattle.sms_text.specs.Written.{text_of}
use Rattle.spasm_run.specs.declared.status.Status.TheVariants.{BadText, Shape, Usage}
use Rattle.spasm_words.specs.declared.command.Command.{Command}
use Rattle.spasm_words.specs.declared.command.Task.TheVariants.{Inverse, Rank}
use Rattle.spasm_run.specs.Answers.{as_row, misfit, pivots_text}
use Rattle.spasm_run.specs.Contents.{matrices_alone}
use Rattle.spasm_run.specs.Input.{HasContents}
use Rattle.spasm_run.specs.Ran.{request, whole_input}
use Rattle.spasm_run.specs.Shapes.{HasAnswerShape}
use Rattle.spasm_run.specs.Status.{fault_line}

abbrev pub inverse_command : Command
inverse_command = record { task = Inverse; modulus = 7; workers = 1; rounds = 3 }

abbrev pub square_example : Matrix
square_example = record { height = 2; width = 2; rows = (4 ∷ 3 ∷ []) ∷ (0 ∷ 2 ∷ []) ∷ [] }

-- a text of it with a negative value, a fraction, and a place that is given twice
abbrev pub square_text : List ℕ
square_text = codes "2 2 M\n1 1 -3\n1 2 -1/2\n2 2 4\n2 2 5\n0 0 0\n"

-- each line computes
pub record AreWorkedRuns : Type 0 where
  pub says : HasContents (request inverse_command 1000) (whole_input square_text)
      (matrices_alone (square_example ∷ []))
  pub outside : FirstFault (request inverse_command 1000) (codes "2 2 M\n1 1 1/2\n3 1 1\n") true 3 kind.Row
  pub text : text_of square_example ≡ codes "2 2 M\n1 1 4\n1 2 3\n2 2 2\n0 0 0\n"
  pub fits : misfit Inverse (square_example ∷ []) ≡ None
  pub misfits : misfit Inverse (as_row (4 ∷ 3 ∷ []) ∷ []) ≡ Some (Shape 1 2)
  pub usage : fault_line Usage ≡ codes "error 2 usage\n"
  pub fault : fault_line (BadText 3 kind.Row) ≡ codes "error 3 line 3 kind 4\n"
  pub shape : fault_line (Shape 1 2) ≡ codes "error 4 shape 1 2\n"
  pub never : ¬ HasAnswerShape Rank 4 (square_example ∷ []) (codes "yes\n")
  pub pivots : pivots_text (pair 0 2 ∷ pair 1 0 ∷ []) ≡ codes "pivots 2\n1 3\n2 1\n"
