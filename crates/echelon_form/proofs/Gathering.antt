-- What a worker has settled so far.
use Rattle.std.proofs.Common.{ℕ, ◌≡◌, ◌+◌, ◌*◌, ◌/◌, ◌%◌, ◌<◌, ◌≤◌, List, [], ◌∷◌, ◌++◌, Result, Ok, Vec, Global, IfOk, length, slice_index_or, inl, inr, sym, refl, ap, subst, ◌∙◌, arith, length-append, mod-lt}
use Rattle.std.proofs.Math.ListN.{get_or-append}
use Rattle.std.proofs.Math.Seq.{get_or-append_seam}
use Rattle.std.proofs.Math.Nat.{lt_of_mul-lt-mul_right}
use Rattle.std.proofs.lemmas.Bool.{cases_eq}
use Rattle.sparse_rows.specs.Rows.{ResidueRow}
use Rattle.lead_rows.specs.Leads.{KeptRows}
use Rattle.echelon_form.specs.Settling.{AreShares, IsSettledRow, IsShare}

-- the worker's next place is `next`
pub record IsGathered (kept : KeptRows) (order : List (ℕ × ℕ)) (worker workers next : ℕ) (share : List ResidueRow) : Type 0 where
  pub place : next ≡ worker + length share * workers
  pub each : (i : ℕ) (c : ℕ × ℕ) (d : ResidueRow) → i < length share → IsSettledRow kept (slice_index_or order (worker + i * workers) c).1 (slice_index_or share i d)

pub gathered_none : (kept : KeptRows) (order : List (ℕ × ℕ)) (worker workers : ℕ) (share : List ResidueRow) → share ≡ [] → IsGathered kept order worker workers worker share
gathered_none kept order worker workers share e =
    let none : length share ≡ 0 = ap length e in record {
      place = omega (arith, ap (λ n. n * workers) none);
      each = λ i c d l. absurd (omega arith);
    }

-- the row at this place is settled
pub gathered_more : {kept : KeptRows} {order : List (ℕ × ℕ)} {worker workers next : ℕ} {share : List ResidueRow} → IsGathered kept order worker workers next share →
    (s : ResidueRow) → ((c : ℕ × ℕ) → IsSettledRow kept (slice_index_or order next c).1 s) → IsGathered kept order worker workers (next + workers) (share ++ s ∷ [])
gathered_more {kept} {order} {worker} {workers} {next} {share} h s here =
    let long : length (share ++ s ∷ []) ≡ length share + 1 = length-append share (s ∷ []) in record {
      place = omega (arith, h.place, ap (λ n. n * workers) long);
      each = λ i c d l. elim (cases_eq i (length share)) [
        | inl e ↦
            let same : worker + i * workers ≡ next = omega (arith, h.place, ap (λ n. n * workers) e) in
            let last : slice_index_or (share ++ s ∷ []) i d ≡ s = ap (λ k. slice_index_or (share ++ s ∷ []) k d) e ∙ get_or-append_seam share s [] d in
            subst (λ k. IsSettledRow kept (slice_index_or order k c).1 (slice_index_or (share ++ s ∷ []) i d)) (sym same)
            (subst (IsSettledRow kept (slice_index_or order next c).1) (sym last) (here c))
        | inr n ↦
            let less : i < length share = omega arith in
            subst (IsSettledRow kept (slice_index_or order (worker + i * workers) c).1) (sym (get_or-append share (s ∷ []) d i less)) (h.each i c d less)
      ];
    }

-- no place is left
pub gathered_all : {kept : KeptRows} {order : List (ℕ × ℕ)} {worker workers next : ℕ} {share : List ResidueRow} → worker < workers → IsGathered kept order worker workers next share →
    length order ≤ next → IsShare kept order worker workers share
gathered_all {kept} {order} {worker} {workers} {next} {share} some h done = record {
  long = long;
  each = λ t c d l e. subst (λ k. IsSettledRow kept (slice_index_or order k c).1 (slice_index_or share (t / workers) d)) (place t e) (h.each (t / workers) c d (long t l e));
}
  where
    place : (t : ℕ) → t % workers ≡ worker → worker + (t / workers) * workers ≡ t
    place t e = omega arith

    long : (t : ℕ) → t < length order → t % workers ≡ worker → t / workers < length share
    long t l e = lt_of_mul-lt-mul_right workers (omega (arith, place t e, h.place))

-- the row that a share has for the place t
pub shared_row : {E : Type 0} (kept : KeptRows) (order : List (ℕ × ℕ)) (shares : List (Result (Vec ResidueRow Global) E)) → 1 ≤ length shares → AreShares kept order shares →
    (t : ℕ) → t < length order → (r : Result (Vec ResidueRow Global) E) (share : Vec ResidueRow Global) (s : ResidueRow) → r ≡ slice_index_or shares (t % length shares) r → r ≡ Ok share →
    s ≡ slice_index_or share.items (t / length shares) s → (c : ℕ × ℕ) → IsSettledRow kept (slice_index_or order t c).1 s
shared_row {E} kept order shares some all t l r share s at is read c =
    let here : IsShare kept order (t % length shares) (length shares) share.items =
    subst (λ (x : Result (Vec ResidueRow Global) E). IfOk x (λ v. IsShare kept order (t % length shares) (length shares) v.items)) (sym at ∙ is) (all (t % length shares) r (mod-lt t some)) in
    subst (IsSettledRow kept (slice_index_or order t c).1) (sym read) (here.each t c s l refl)
