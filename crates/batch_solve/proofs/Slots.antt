-- Slots for replies: what stands in them as they are filled and emptied.
use Rattle.std.proofs.Common.{◌≡◌, ℕ, zero, suc, ◌+◌, ◌<◌, ◌⊎◌, Option, None, Some, List, [], ◌∷◌, ◌++◌, length, get_or, take, drop, set, replicate, sym, refl, ap, ◌∙◌, inl, inr, ⊎_elim, subst, arith, length-set, length-append}
use Rattle.std.specs.Prelude.{slice_get, All, IfSome}
use Rattle.std.proofs.lemmas.List.{length-replicate}
use Rattle.std.proofs.lemmas.Option.{slice_get-get_or}
use Rattle.std.proofs.lemmas.List.Elements.{All-append, All-drop, All-take}
use Rattle.sparse_rows.specs.Rows.{ResidueMatrix}
use Rattle.kernel_solve.specs.Prepared.{IsReply, Preparation}
use Rattle.kernel_solve.specs.declared.prepared.Reply.{Reply}
use Rattle.question_desk.specs.Desk.{DeskState}
use Rattle.batch_solve.specs.Replies.{AreReplies, AreSlots, IsAnsweredAt, IsIdleAt, WorksAt, RepliesAt}
use Rattle.batch_solve.specs.declared.worker.Answered.{Answered}
use Rattle.batch_solve.specs.declared.worker.Worker.{Worker}

pub some_is : {X : Type 0} (x y : X) → Some x ≡ Some y → x ≡ y
some_is x y e = grind arith

pub none_isnt : {X : Type 0} (y : X) → ¬ (None ≡ Some y)
none_isnt y e = grind arith

module _ {X : Type 0} where
  at_push : (xs : List X) (x y : X) (k : ℕ) → slice_get (xs ++ x ∷ []) k ≡ Some y → (slice_get xs k ≡ Some y) ⊎ ((k ≡ length xs) × (x ≡ y))
  at_push [] x y zero e = inr (refl, some_is x y e)
  at_push [] x y (suc k) e = absurd (none_isnt y e)
  at_push (z ∷ zs) x y zero e = inl e
  at_push (z ∷ zs) x y (suc k) e = ⊎_elim (λ t. inl t) (λ t. inr (ap suc t.0, t.1)) (at_push zs x y k e)

  at_set : (xs : List X) (i k : ℕ) (x y : X) → slice_get (set xs i x) k ≡ Some y → ((k ≡ i) × (x ≡ y)) ⊎ (slice_get xs k ≡ Some y)
  at_set [] i k x y e = absurd (none_isnt y e)
  at_set (z ∷ zs) zero zero x y e = inl (refl, some_is x y e)
  at_set (z ∷ zs) zero (suc k) x y e = inr e
  at_set (z ∷ zs) (suc i) zero x y e = inr e
  at_set (z ∷ zs) (suc i) (suc k) x y e = ⊎_elim (λ t. inl (ap suc t.0, t.1)) (λ t. inr t) (at_set zs i k x y e)

  at_replicate : (n k : ℕ) (x y : X) → slice_get (replicate n x) k ≡ Some y → x ≡ y
  at_replicate zero k x y e = absurd (none_isnt y e)
  at_replicate (suc n) zero x y e = some_is x y e
  at_replicate (suc n) (suc k) x y e = at_replicate n k x y e

pub slots_empty : (q : Preparation) (questions : List ResidueMatrix) (slots : List (Option Reply)) → slots ≡ replicate (length questions) None → AreSlots q questions slots
slots_empty q questions slots e = record {
  long = ap length e ∙ length-replicate (length questions) None;
  each = λ k reply at. absurd (none_isnt reply (at_replicate (length questions) k None (Some reply) (ap (λ (l : List (Option Reply)). slice_get l k) (sym e) ∙ at)));
}

pub slots_set : (q : Preparation) (questions : List ResidueMatrix) (slots : List (Option Reply)) (i : ℕ) (found : Option Reply) → AreSlots q questions slots
    → ((reply : Reply) → found ≡ Some reply → RepliesAt q questions i reply) → AreSlots q questions (set slots i found)
slots_set q questions slots i found s own = record {
  long = length-set slots i found ∙ s.long;
  each = λ k reply at. ⊎_elim
      (λ (t : (k ≡ i) × (found ≡ Some reply)). subst (λ n. RepliesAt q questions n reply) (sym t.0) (own reply t.1))
      (λ old. s.each k reply old)
      (at_set slots i k found (Some reply) at);
}

-- replies to the first n questions
pub record AreFirst (q : Preparation) (questions : List ResidueMatrix) (n : ℕ) (replies : List Reply) : Type 0 where
  pub long : length replies ≡ n
  pub each : (k : ℕ) (reply : Reply) → slice_get replies k ≡ Some reply → RepliesAt q questions k reply

pub first_none : (q : Preparation) (questions : List ResidueMatrix) (replies : List Reply) → replies ≡ [] → AreFirst q questions 0 replies
first_none q questions replies e = record {
  long = ap length e;
  each = λ k reply at. absurd (none_isnt reply (ap (λ (l : List Reply). slice_get l k) (sym e) ∙ at));
}

-- the reply to question n
pub reply_at : (q : Preparation) (questions : List ResidueMatrix) (n : ℕ) (d : ResidueMatrix) (reply : Reply) → n < length questions → IsReply q (get_or questions n d).matrix reply → RepliesAt q questions n reply
reply_at q questions n d reply l is b at = subst (λ (x : ResidueMatrix). IsReply q x.matrix reply) (some_is (get_or questions n d) b (sym (slice_get-get_or questions n d l) ∙ at)) is

pub reply_from : (q : Preparation) (questions : List ResidueMatrix) (n : ℕ) (d : ResidueMatrix) (reply : Reply) → n < length questions → RepliesAt q questions n reply → IsReply q (get_or questions n d).matrix reply
reply_from q questions n d reply l r = r (get_or questions n d) (slice_get-get_or questions n d l)

pub first_more : (q : Preparation) (questions : List ResidueMatrix) (n : ℕ) (replies : List Reply) (reply : Reply) → AreFirst q questions n replies → RepliesAt q questions n reply → AreFirst q questions (n + 1) (replies ++ reply ∷ [])
first_more q questions n replies reply f r = record {
  long = let a = f.long in omega (arith, length-append replies (reply ∷ []));
  each = λ k other at. ⊎_elim
      (λ old. f.each k other old)
      (λ (t : (k ≡ length replies) × (reply ≡ other)). subst (λ (x : ℕ × Reply). RepliesAt q questions x.0 x.1) (λ i. (sym (t.0 ∙ f.long) i, t.1 i)) r)
      (at_push replies reply other k at);
}

pub first_all : (q : Preparation) (questions : List ResidueMatrix) (replies : List Reply) → AreFirst q questions (length questions) replies → AreReplies q questions replies
first_all q questions replies f = record { long = f.long; each = f.each }

-- what is found in slot n is a reply to question n
pub found_at : (q : Preparation) (questions : List ResidueMatrix) (slots : List (Option Reply)) (n : ℕ) (d : ResidueMatrix) (e found : Option Reply) → AreSlots q questions slots → n < length questions
    → found ≡ get_or slots n e → IfSome found (IsReply q (get_or questions n d).matrix)
found_at q questions slots n d e None s l is = tt
found_at q questions slots n d e (Some reply) s l is =
    reply_from q questions n d reply l (s.each n reply (slice_get-get_or slots n e (let a = s.long in omega arith) ∙ ap (λ (x : Option Reply). Some x) (sym is)))

-- workers that found nothing yet
pub begun : (desk : DeskState) (q : Preparation) (questions : List ResidueMatrix) (workers : List Worker) → All (IsIdleAt desk) workers → All (WorksAt desk q questions) workers
begun desk q questions workers all k d l = let w = all k d l in record {
  taker = w.taker;
  answered = subst (λ (x : List Answered). All (IsAnsweredAt q questions) x) (sym w.answered) (λ i e none. let z : i < length {A = ℕ} [] = none in absurd (omega arith));
}

-- a slice that is put back
pub all_back : {X : Type 0} (P : X → Type 0) (n m : ℕ) (new old : List X) → All P new → All P old → All P (take n (new ++ drop m old))
all_back P n m new old a b = All-take P n (new ++ drop m old) (All-append P new (drop m old) a (All-drop P m old b))

-- a slice of all slots, put back
take_front : {X : Type 0} (xs ys : List X) (n : ℕ) → length xs ≡ n → take n (xs ++ ys) ≡ xs
take_front [] ys zero e = refl
take_front [] ys (suc n) e = absurd (omega (arith, e))
take_front (x ∷ xs) ys zero e = absurd (omega (arith, e))
take_front (x ∷ xs) ys (suc n) e = ap (λ l. x ∷ l) (take_front xs ys n (omega (arith, e)))

pub slots_back : (q : Preparation) (questions : List ResidueMatrix) (n : ℕ) (slots rest : List (Option Reply)) → length slots ≡ n → AreSlots q questions slots → AreSlots q questions (take n (slots ++ rest))
slots_back q questions n slots rest e are = subst (AreSlots q questions) (sym (take_front slots rest n e)) are
