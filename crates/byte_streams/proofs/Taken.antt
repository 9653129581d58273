-- What calls take from a source, one after another.
use Rattle.std.proofs.Common.{ℕ, ◌≡◌, Bool, true, false, List, [], ◌++◌, Option, None, Some, refl, sym, ap, subst, ◌∙◌, append_assoc}
use Rattle.byte_streams.specs.Stream.{SourceState, in_front, before, IsSpent, IsNothing, Rose, Gave, Drew}

-- what was taken first stands before what was taken next
in_front_twice : (a b : List ℕ) (told : Option (List ℕ)) → in_front a (in_front b told) ≡ in_front (a ++ b) told
in_front_twice a b None = refl
in_front_twice a b (Some rest) = ap Some (sym (append_assoc a b rest))

pub before_before : (a b : List ℕ) (source : SourceState) → before a (before b source) ≡ before (a ++ b) source
before_before a b source = ap (λ l. record { left = l; faults = source.faults }) (in_front_twice a b source.left)

-- nothing is taken
in_front_none : (told : Option (List ℕ)) → told ≡ in_front [] told
in_front_none None = refl
in_front_none (Some rest) = refl

pub before_none : (source : SourceState) → source ≡ before [] source
before_none source = ap (λ l. record { left = l; faults = source.faults }) (in_front_none source.left)

pub gave_none : (s s' : SourceState) → s' ≡ s → Gave [] s s'
gave_none s s' same = sym same ∙ before_none s'

-- one call after another, of which the last one failed or did not
pub drew_on : (x : Bool) (a b : List ℕ) (s s' s'' : SourceState) → Gave a s s' → Drew x b s' s'' → Drew x (a ++ b) s s''
drew_on false a b s s' s'' first next = first ∙ ap (before a) next ∙ before_before a b s''
drew_on true a b s s' s'' first next =
    let same : s.faults ≡ s'.faults = ap (λ t. t.faults) first in
    record {
      left = ap (λ t. t.left) first ∙ ap (in_front a) next.left ∙ in_front_twice a b s''.left;
      rose = subst (λ f. Rose f s''.faults) (sym same) next.rose;
    }

drew_left : (x : Bool) (a : List ℕ) (s s' : SourceState) → Drew x a s s' → s.left ≡ in_front a s'.left
drew_left false a s s' d = ap (λ t. t.left) d
drew_left true a s s' d = d.left

-- nothing more is left once nothing was left
nothing_stays : (told told' : Option (List ℕ)) → told ≡ in_front [] told' → IsNothing told → IsNothing told'
nothing_stays told None e h = tt
nothing_stays None (Some rest) e h = absurd cc
nothing_stays (Some bytes) (Some rest) e h = let same : bytes ≡ rest = cc in sym same ∙ h

pub spent_stays : (x : Bool) (a : List ℕ) (s s' : SourceState) → Drew x a s s' → a ≡ [] → IsSpent s → IsSpent s'
spent_stays x a s s' d none h = nothing_stays s.left s'.left (drew_left x a s s' d ∙ ap (λ t. in_front t s'.left) none) h
