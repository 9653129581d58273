-- What the bytes taken from a source say, all its bytes say.
use Rattle.std.proofs.Common.{ℕ, Bool, true, false, ◌≡◌, List, [], ◌++◌, Option, None, Some, refl, sym, ap, ◌∙◌, append-nil}
use Rattle.sms_text.specs.Lines.{Line}
use Rattle.sms_text.specs.Reading.{Draws, untouched}
use Rattle.sms_text.specs.Stream.{SourceState, IsNothing, in_front, Drew}
use Rattle.sms_text.specs.Text.{Reading, Request, Got, Fault, Short, reading}
use Rattle.sms_text.proofs.Following.{Stays, bytes_stay}
use Rattle.spasm_run.specs.Input.{Input, supply_behind}

-- all bytes are those taken and others behind them, none once the end came
abbrev Follows : List ℕ → Bool → List ℕ → Type 0
Follows taken ended bytes = (more : List ℕ) × (bytes ≡ taken ++ more) × (ended ≡ true → more ≡ [])

follows : (taken : List ℕ) (ended : Bool) (bytes : List ℕ) (left left' : Option (List ℕ)) → left ≡ in_front taken left' → (ended ≡ true → IsNothing left') → left ≡ Some bytes → Follows taken ended bytes
follows taken ended bytes left None given spent told = absurd (let f : None ≡ Some bytes = sym given ∙ told in cc)
follows taken ended bytes left (Some rest) given spent told = (rest, (let f : Some bytes ≡ Some (taken ++ rest) = sym told ∙ given in cc), spent)

left_before : (x : Bool) (taken : List ℕ) (old new : SourceState) → Drew x taken old new → old.left ≡ in_front taken new.left
left_before false taken old new drew = ap (λ s. s.left) drew
left_before true taken old new drew = drew.left

-- the reading is kept: its items, the line and the kind of its fault
abbrev pub Keeps : Reading → Reading → Type 0
Keeps (Got items rest) later = (rest' : List Line) × (later ≡ Got items rest')
Keeps (Fault line k) later = later ≡ Fault line k
Keeps Short later = Unit {0}

keeps_itself : (reading : Reading) → Keeps reading reading
keeps_itself (Got items rest) = (rest, refl)
keeps_itself (Fault line k) = refl
keeps_itself Short = tt

keeps_stay : (more : List ℕ) (reading later : Reading) → Stays more reading later → Keeps reading later
keeps_stay more (Got items rest) later h = (_, h)
keeps_stay more (Fault line k) later h = h
keeps_stay more Short later h = tt

keeps_all : (q : Request) (taken : List ℕ) (ended : Bool) (bytes : List ℕ) → Follows taken ended bytes → Keeps (reading q ended taken) (reading q true bytes)
keeps_all q taken true bytes (more, all, none) =
    let same : bytes ≡ taken = all ∙ ap (λ m. taken ++ m) (none refl) ∙ append-nil taken in rw same (keeps_itself (reading q true taken))
keeps_all q taken false bytes (more, all, none) = rw all (keeps_stay more _ _ (bytes_stay q.modulus true q.limit 1 q.due taken more))

-- of all bytes that were left in a source that tells
pub told_of_all : (q : Request) (input : Input) (T : List ℕ → Type 0) (x : Bool) (old new : SourceState) (bytes : List ℕ) (said : Reading) →
    Draws T x input.bytes (untouched old) (supply_behind input new) → old.left ≡ Some bytes → reading q input.ended input.bytes ≡ said → Keeps said (reading q true bytes)
told_of_all q input T x old new bytes said draws told e =
    rw (← e) (keeps_all q input.bytes input.ended bytes
    (follows input.bytes input.ended bytes old.left new.left (left_before x input.bytes old new draws.source) (λ ended. (draws.spent ended refl).0) told))
