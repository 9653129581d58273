-- One piece written after another.
use Rattle.std.proofs.Common.{ℕ, false, true, ◌≡◌, List, [], ◌∷◌, ◌++◌, Option, None, Some, Result, Ok, Err, refl, sym, ap, subst, ◌∙◌, append_assoc}
use Rattle.std.specs.Prelude.{codes}
use Rattle.std.specs.Fmt.{decimal}
use Rattle.std.specs.Result.{IsErr}
use Rattle.byte_streams.specs.declared.write.WriteFault.{WriteFault}
use Rattle.sms_text.specs.declared.kind.Kind.{Kind}
use Rattle.spasm_run.specs.declared.status.Status.{Status}
use Rattle.spasm_run.specs.declared.status.Status.TheVariants as status
use Rattle.spasm_run.specs.Status.{fault_line}
use Rattle.sms_text.specs.Kind.{kind_number}
use Rattle.sms_text.specs.Stream.{SinkState, Gained, GainedAndFailed, Rose, at_back, behind}
use Rattle.sms_text.specs.Writing.{Writes}

-- what is put behind a piece that was put
at_back_twice : (held : Option (List ℕ)) (a b : List ℕ) → at_back (at_back held a) b ≡ at_back held (a ++ b)
at_back_twice None a b = refl
at_back_twice (Some h) a b = ap Some (append_assoc h a b)

gained_then : (a b : List ℕ) (s s' s'' : SinkState) → Gained a s s' → Gained b s' s'' → Gained (a ++ b) s s''
gained_then a b s s' s'' first then =
    then ∙ ap (λ t. behind t b) first ∙ ap (λ h. record { held = h; faults = s.faults }) (at_back_twice s.held a b)

failed_then : (a b : List ℕ) (s s' s'' : SinkState) → Gained a s s' → GainedAndFailed b s' s'' → GainedAndFailed (a ++ b) s s''
failed_then a b s s' s'' first then =
    let same : s'.faults ≡ s.faults = ap (λ t. t.faults) first in
    record {
      held = then.held ∙ ap (λ t. at_back t.held b) first ∙ at_back_twice s.held a b;
      rose = subst (λ f. Rose f s''.faults) same then.rose;
    }

-- a piece was written, and then another
pub writes_then : (result : Result (Unit {0}) WriteFault) (a b : List ℕ) (s s' s'' : SinkState) → Gained a s s' → Writes result b s' s'' → Writes result (a ++ b) s s''
writes_then (Ok done) a b s s' s'' first then = gained_then a b s s' s'' first then
writes_then (Err fault) a b s s' s'' first (part, rest, cut, then) =
    (a ++ part, rest, ap (λ (l : List ℕ). a ++ l) cut ∙ sym (append_assoc a part rest), failed_then a part s s' s'' first then)

-- a piece was not written, so nor what follows it
pub writes_stops : (result : Result (Unit {0}) WriteFault) (fault : WriteFault) (a b : List ℕ) (s s' : SinkState) → IsErr result →
    Writes (Err fault) a s s' → Writes result (a ++ b) s s'
writes_stops (Ok done) fault a b s s' e h = let t : false ≡ true = e in cc
writes_stops (Err fault') fault a b s s' e (part, rest, cut, put) =
    (part, rest ++ b, ap (λ (l : List ℕ). l ++ b) cut ∙ append_assoc part rest b, put)

-- what was written, by another name
pub writes_same : (result : Result (Unit {0}) WriteFault) (a b : List ℕ) (s s' : SinkState) → a ≡ b → Writes result a s s' → Writes result b s s'
writes_same result a b s s' e w = let P : List ℕ → Type 0 = λ l. Writes result l s s' in subst P e w

-- the lines of faults that tell two numbers
pub bad_text_line : (s : Status) (line : ℕ) (k : Kind) (n : ℕ) → s ≡ status.BadText line k → n ≡ kind_number k →
    ((codes "error 3 line " ++ decimal line) ++ (codes " kind " ++ decimal n)) ++ 10 ∷ [] ≡ fault_line s
bad_text_line s line k n e f =
    ap (λ (m : ℕ). ((codes "error 3 line " ++ decimal line) ++ (codes " kind " ++ decimal m)) ++ 10 ∷ []) f
    ∙ ap (λ (l : List ℕ). l ++ 10 ∷ []) (sym (append_assoc (codes "error 3 line " ++ decimal line) (codes " kind ") (decimal (kind_number k)))) ∙ sym (ap fault_line e)

pub shape_line : (s : Status) (h w m n : ℕ) → s ≡ status.Shape h w → m ≡ h → n ≡ w →
    ((codes "error 4 shape " ++ decimal m) ++ (codes " " ++ decimal n)) ++ 10 ∷ [] ≡ fault_line s
shape_line s h w m n e f d =
    ap (λ (x : ℕ). ((codes "error 4 shape " ++ decimal x) ++ (codes " " ++ decimal n)) ++ 10 ∷ []) f
    ∙ ap (λ (x : ℕ). ((codes "error 4 shape " ++ decimal h) ++ (codes " " ++ decimal x)) ++ 10 ∷ []) d ∙ sym (ap fault_line e)

pub wide_line : (s : Status) (h w m n : ℕ) → s ≡ status.Wide h w → m ≡ h → n ≡ w →
    ((codes "error 9 wide " ++ decimal m) ++ (codes " " ++ decimal n)) ++ 10 ∷ [] ≡ fault_line s
wide_line s h w m n e f d =
    ap (λ (x : ℕ). ((codes "error 9 wide " ++ decimal x) ++ (codes " " ++ decimal n)) ++ 10 ∷ []) f
    ∙ ap (λ (x : ℕ). ((codes "error 9 wide " ++ decimal h) ++ (codes " " ++ decimal x)) ++ 10 ∷ []) d ∙ sym (ap fault_line e)
