-- What `check` answered `yes` to is true.
use Rattle.std.proofs.Common.{ℕ, ◌≡◌, ◌<◌, ◌%◌, List, [], ◌∷◌, inl, inr, sym, ap, subst, ◌∙◌, arith, mod-lt}
use Rattle.residue_words.specs.Matrix.{Matrix, IsMatrix}
use Rattle.residue_words.specs.Residues.{IsPrime}
use Rattle.residue_words.proofs.Vectors.{is_matrix_of}
use Rattle.row_space.proofs.FactorLaws.{certificate_true}
use Rattle.sms_text.specs.Text.{Item, Sizes, Value, Closing, Words, matrices, matrix_of, value_at}
use Rattle.spasm_run.specs.declared.status.Status.{Status}
use Rattle.spasm_run.specs.declared.status.Status.TheVariants.{Done, No}
use Rattle.spasm_words.specs.declared.command.Command.{Command}
use Rattle.spasm_words.specs.declared.command.Task.TheVariants.{Check}
use Rattle.spasm_run.specs.Answers.{EndsBy, EndsWith}
use Rattle.spasm_run.specs.Contents.{Contents, IsCertified}
use Rattle.spasm_run.specs.Input.{HasContents, Input}
use Rattle.spasm_run.specs.Ran.{HasAnswer, Ran, Run, request}
use Rattle.spasm_words.proofs.Exact.{one_command}
use Rattle.spasm_laws.specs.Checked.{CheckedIsTrue, SaysTruth}

-- the first matrix of a text is one of residues
first_sound : (p : ℕ) (items : List Item) (A : Matrix) (behind : List Matrix) → 0 < p → matrices p items ≡ A ∷ behind → IsMatrix p A
first_sound p [] A behind pos e = absurd (let none : ⊥ = cc in none)
first_sound p (Sizes m n ∷ items) A behind pos e =
    let same : matrix_of p m n items ≡ A = cc in
    subst (IsMatrix p) same (is_matrix_of p m n (λ i j. value_at i j items % p) (λ i j a b. mod-lt (value_at i j items) pos))
first_sound p (Value i j v ∷ items) A behind pos e = first_sound p items A behind pos e
first_sound p (Closing ∷ items) A behind pos e = first_sound p items A behind pos e
first_sound p (Words ws ∷ items) A behind pos e = first_sound p items A behind pos e

-- a verdict that ends with Done is that the claim holds
holds_at_done : {Claim : Type 0} → EndsBy Claim Done → Claim
holds_at_done (inl e) = e.0
holds_at_done (inr e) = absurd (let other : Done ≡ No = e.1 in let none : ⊥ = cc in none)

says_truth : (c : Command) (limit : ℕ) (input : Input) (text : List ℕ) → IsPrime c.modulus → c.task ≡ Check → HasAnswer c limit input text Done → SaysTruth c limit input
says_truth c limit input text prime checks h =
    let certified : IsCertified c.modulus h.said = holds_at_done (subst (λ t. EndsWith t c.modulus h.said Done) checks h.ends) in
    let read : matrices c.modulus h.reads.items ≡ certified.matrix ∷ certified.behind = ap (λ (s : Contents). s.matrices) h.reads.are ∙ certified.matrices in
    record {
      said = h.said;
      reads = h.reads;
      certified = certified;
      tells = certificate_true c.modulus certified.matrix certified.certificate prime
          (first_sound c.modulus h.reads.items certified.matrix certified.behind (omega (arith, prime.two_or_more)) read) certified.valid;
    }

pub checked_true : CheckedIsTrue
checked_true r c prime accepted checks ran =
    let answered = ran.cause.1 in
    let same : answered.0 ≡ c = one_command r.words answered.0 c answered.1 accepted in
    says_truth c r.limit ran.input ran.cause.0 prime checks (subst (λ d. HasAnswer d r.limit ran.input ran.cause.0 Done) same answered.2)
