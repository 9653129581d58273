-- What pulls of the sources in memory did.
use Rattle.std.proofs.Common.{◌≡◌, ℕ, ◌+◌, ◌<◌, ◌≤◌, List, [], ◌++◌, Some, length, take, drop, refl, sym, ap, ◌∙◌, arith}
use Rattle.std.proofs.lemmas.List.{drop-drop, nil_from_length, take-append-drop}
use Rattle.byte_streams.specs.declared.stream.Pulled.{Pulled}
use Rattle.byte_streams.specs.declared.stream.Pulled.TheVariants as pulled
use Rattle.byte_streams.specs.Memory.{SteadySourceState, steady_state, share}
use Rattle.byte_streams.specs.Stream.{Gave, PullDid}

-- nothing was given: the end
pub gave_nothing : (bytes : List ℕ) (at piece room n : ℕ) → 0 < piece → 0 < room → n ≡ share piece room (drop at bytes) → n ≡ 0
    → (steady_state (record { left = drop (at + n) bytes; piece = piece }) ≡ steady_state (record { left = drop at bytes; piece = piece })) × (drop at bytes ≡ [])
gave_nothing bytes at piece room n some_piece some_room e none =
    (ap (λ k. steady_state (record { left = drop k bytes; piece = piece })) (omega arith), nil_from_length _ (omega arith))

-- the first bytes of what was left were given
pub gave_first : (bytes buffer : List ℕ) (at piece room n : ℕ) → n ≡ share piece room (drop at bytes) → 0 < n → length buffer ≡ room
    → take n buffer ≡ take n (drop at bytes)
    → (0 < n) × (n ≤ length buffer) × Gave (take n buffer) (steady_state (record { left = drop at bytes; piece = piece })) (steady_state (record { left = drop (at + n) bytes; piece = piece }))
gave_first bytes buffer at piece room n e some same given = (
  some,
  omega arith,
  ap (λ l. record { left = Some l; faults = 0 })
      (sym (take-append-drop n (drop at bytes)) ∙ ap (λ front. front ++ drop n (drop at bytes)) (sym given) ∙ ap (λ rest. take n buffer ++ rest) (drop-drop n at bytes)),
)

-- a pull of a steady source is one of a source whose count of faults stays where it is
pub pull_counts : (result : Pulled) (buffer : List ℕ) (old new : SteadySourceState) (faults : ℕ) → PullDid result buffer (steady_state old) (steady_state new) → ¬ (result ≡ pulled.Failed)
    → PullDid result buffer (record { left = Some old.left; faults = faults }) (record { left = Some new.left; faults = faults })
pull_counts (pulled.Got n) buffer old new faults did never = (did.0, did.1, ap (λ s. record { left = s.left; faults = faults }) did.2)
pull_counts pulled.End buffer old new faults did never = (ap (λ s. record { left = s.left; faults = faults }) did.0, did.1)
pull_counts pulled.Failed buffer old new faults did never = absurd (never refl)
