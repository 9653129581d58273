-- What a whole input says, and what stays when more bytes come.
use Rattle.std.proofs.Common.{ℕ, ◌≡◌, ◌≢◌, ◌⊎◌, true, List, ◌++◌, refl, sym, subst, ◌∙◌, inl, inr}
use Rattle.sms_text.specs.declared.kind.Kind.{Kind}
use Rattle.sms_text.specs.Lines.{Line, lines}
use Rattle.sms_text.specs.Text.{Item, Reading, Got, Fault, Short, reading}
use Rattle.sms_text.specs.Laws.{WholeInputIsTold, ReadingStays}
use Rattle.sms_text.proofs.Following.{Stays, bytes_stay}
use Rattle.sms_text.proofs.Runs.{read_whole}

tells : (what : Reading) → what ≢ Short → ((items : List Item) × (rest : List Line) × (what ≡ Got items rest)) ⊎ ((line : ℕ) × (k : Kind) × (what ≡ Fault line k))
tells (Got items rest) h = inl (items, rest, refl)
tells (Fault line k) h = inr (line, k, refl)
tells Short h = absurd (h refl)

pub told : WholeInputIsTold
told r bytes = (
  tells (reading r true bytes) (read_whole r.modulus r.limit 1 r.due (lines bytes)),
  λ both. let clash : Got both.0.0 both.0.1 ≡ Fault both.1.0 both.1.1 = sym both.0.2 ∙ both.1.2 in cc,
)

pub stays : ReadingStays
stays r bytes more ended = (
  λ items rest h. subst (λ what. Stays more what (reading r ended (bytes ++ more))) h (bytes_stay r.modulus ended r.limit 1 r.due bytes more),
  λ line k h. subst (λ what. Stays more what (reading r ended (bytes ++ more))) h (bytes_stay r.modulus ended r.limit 1 r.due bytes more),
)
