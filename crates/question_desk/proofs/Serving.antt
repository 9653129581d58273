-- Each step at a desk's channel keeps its rule.
use Rattle.std.proofs.Common.{◌≡◌, ◌≢◌, ℕ, zero, suc, ◌+◌, ◌<◌, ◌⊎◌, Bool, true, false, true≢false, List, [], ◌∷◌, ◌++◌, map, length, set, replicate, slice_index, sym, refl, ap, ◌∙◌, inl, inr, ⊎_elim, subst, arith, append_assoc}
use mathlib.Core.Logic.{dite}
use mathlib.Core.Option.{some, some-injective, some-ne-none}
use native.Mathlib.Decide.{ℕ_discrete}
use lib.ListN.{get_elem?}
use Rattle.std.specs.List.{Contains, range_with_len}
use Rattle.std.proofs.lemmas.List.{append-nil, replicate_more}
use Rattle.std.proofs.lemmas.List.Elements.{Contains-append_left, Contains-append_right, Contains-append_cases}
use Rattle.std.proofs.lemmas.List.FromFn.{map-range_with_len_more}
use Rattle.atomic_table.proofs.Lists.{at_set, at_snoc, at_longer, set_here, set_else, set_again}
use Rattle.crossbeam_channel.specs.Fifo.{Pushes, Pops, Forks}
use Rattle.residue_words.proofs.Lists.{contains_at, in_cases, in_head, not_in_nil}
use Rattle.sparse_rows.specs.Rows.{AreRising}
use Rattle.sparse_rows.proofs.Occurrences.{rising_push}
use Rattle.question_desk.specs.declared.number_or_end.NumberOrEnd.{NumberOrEnd}
use Rattle.question_desk.specs.declared.number_or_end.NumberOrEnd.TheVariants.{Number, End}
use Rattle.question_desk.specs.declared.known_numbers.KnownNumbers.{KnownNumbers}
use Rattle.question_desk.specs.Rule.{numbers_known, known_first, filled, known_kept, known_new, Gives, numbers_and_ends, Took, StandsOnce, IsFillingDesk, KeepsDesk}

-- lists of what passes know

within : (l : List KnownNumbers) (i : ℕ) (v : KnownNumbers) → get_elem? l i ≡ some v → i < length l
within [] i v e = absurd (some-ne-none v (sym e))
within (x ∷ xs) zero v e = omega arith
within (x ∷ xs) (suc i) v e = let r = within xs i v e in omega arith

same_at : (l : List KnownNumbers) (i : ℕ) (v w : KnownNumbers) → get_elem? l i ≡ some v → get_elem? l i ≡ some w → v ≡ w
same_at l i v w e f = some-injective v w (sym e ∙ f)

-- the one of a list of one
only : (u v : KnownNumbers) (i : ℕ) → get_elem? (u ∷ []) i ≡ some v → (i ≡ 0) × (u ≡ v)
only u v zero e = (refl, some-injective u v e)
only u v (suc i) e = absurd (some-ne-none v (sym e))

only_of : (views : List KnownNumbers) (u v : KnownNumbers) (i : ℕ) → views ≡ u ∷ [] → get_elem? views i ≡ some v → (i ≡ 0) × (u ≡ v)
only_of views u v i e at = only u v i (subst (λ (l : List KnownNumbers). get_elem? l i ≡ some v) e at)

-- a pass whose list is longer by some numbers

module _ (views : List KnownNumbers) (i : ℕ) (v w : KnownNumbers) (more : List ℕ) (at : get_elem? views i ≡ some v) (is : w.taken ≡ v.taken ++ more) where
  took_before : (j n : ℕ) → Took (set views i w) j n → Took views j n ⊎ ((j ≡ i) × Contains more n)
  took_before j n t = ⊎_elim
      (λ (h : (j ≡ i) × (w ≡ t.known)). ⊎_elim
      (λ old. inl (record { known = v; at = subst (λ k. get_elem? views k ≡ some v) (sym h.0) at; has = old }))
      (λ new. inr (h.0, new))
      (Contains-append_cases v.taken more n (subst (λ (l : List ℕ). Contains l n) (ap (λ (u : KnownNumbers). u.taken) (sym h.1) ∙ is) t.has)))
      (λ (h : (j ≢ i) × (get_elem? views j ≡ some t.known)). inl (record { known = t.known; at = h.1; has = t.has }))
      (at_set views i j w t.known t.at)

  took_here : (n : ℕ) → Contains w.taken n → Took (set views i w) i n
  took_here n m = record { known = w; at = set_here views i w (within views i v at); has = m }

  took_after : (j n : ℕ) → Took views j n → Took (set views i w) j n
  took_after j n t = dite (ℕ_discrete j i)
      (λ e. let same : t.known ≡ v = same_at views i t.known v (subst (λ k. get_elem? views k ≡ some t.known) e t.at) at in
      subst (λ k. Took (set views i w) k n) (sym e)
      (took_here n (subst (λ (l : List ℕ). Contains l n) (sym is) (Contains-append_left v.taken more n (subst (λ (u : KnownNumbers). Contains u.taken n) same t.has)))))
      (λ ne. record { known = t.known; at = set_else views i j w ne ∙ t.at; has = t.has })

  stands_after : (n : ℕ) → ¬ Contains more n → StandsOnce views n → StandsOnce (set views i w) n
  stands_after n fresh s = record {
    who = s.who;
    took = took_after s.who n s.took;
    alone = λ j t. ⊎_elim (λ old. s.alone j old) (λ (new : (j ≡ i) × Contains more n). absurd (fresh new.1)) (took_before j n t);
  }

-- a pass whose list stays
kept_list : (v w : KnownNumbers) → w.taken ≡ v.taken → w.taken ≡ v.taken ++ []
kept_list v w e = e ∙ sym (append-nil v.taken)

module _ (views : List KnownNumbers) (i : ℕ) (v w : KnownNumbers) (at : get_elem? views i ≡ some v) (is : w.taken ≡ v.taken) where
  took_still : (j n : ℕ) → Took (set views i w) j n → Took views j n
  took_still j n t = ⊎_elim (λ old. old) (λ (new : (j ≡ i) × Contains [] n). absurd (not_in_nil n new.1)) (took_before views i v w [] at (kept_list v w is) j n t)

  stands_still : (n : ℕ) → StandsOnce views n → StandsOnce (set views i w) n
  stands_still n s = stands_after views i v w [] at (kept_list v w is) n (not_in_nil n) s

  rising_still : ((j : ℕ) (u : KnownNumbers) → get_elem? views j ≡ some u → AreRising u.taken) → (j : ℕ) (u : KnownNumbers) → get_elem? (set views i w) j ≡ some u → AreRising u.taken
  rising_still all j u e = ⊎_elim
      (λ (h : (j ≡ i) × (w ≡ u)). subst AreRising (sym is ∙ ap (λ (x : KnownNumbers). x.taken) h.1) (all i v at))
      (λ (h : (j ≢ i) × (get_elem? views j ≡ some u)). all j u h.1)
      (at_set views i j w u e)

-- what holds of each view after one has changed
each_set : (P : KnownNumbers → Type 0) (views : List KnownNumbers) (i : ℕ) (w : KnownNumbers) → P w → ((j : ℕ) (u : KnownNumbers) → get_elem? views j ≡ some u → P u) → (j : ℕ) (u : KnownNumbers) → get_elem? (set views i w) j ≡ some u → P u
each_set P views i w own all j u e = ⊎_elim (λ (h : (j ≡ i) × (w ≡ u)). subst P h.1 own) (λ (h : (j ≢ i) × (get_elem? views j ≡ some u)). all j u h.1) (at_set views i j w u e)

-- what is in the queue

end_more : (from left ends : ℕ) → numbers_and_ends from left ends ++ End ∷ [] ≡ numbers_and_ends from left (ends + 1)
end_more from left ends = append_assoc (map Number (range_with_len from left)) (replicate ends End) (End ∷ []) ∙ ap (λ (l : List NumberOrEnd). map Number (range_with_len from left) ++ l) (replicate_more ends End)

number_more : (n : ℕ) → numbers_and_ends 0 n 0 ++ Number n ∷ [] ≡ numbers_and_ends 0 (n + 1) 0
number_more n = let l : List NumberOrEnd = map Number (range_with_len 0 n) in
    ap (λ (x : List NumberOrEnd). x ++ Number n ∷ []) (append-nil l) ∙ sym (map-range_with_len_more Number 0 n n (omega arith)) ∙ sym (append-nil (map Number (range_with_len 0 (n + 1))))

-- the rule at first

pub begins : KeepsDesk [] (known_first ∷ [])
begins = record {
  count = 0;
  served = record {
    from = 0;
    left = 0;
    ends = 0;
    suffix = refl;
    queue = refl;
    once = λ n l. absurd (omega arith);
    below = λ i n t. absurd (not_in_nil n (subst (λ (u : KnownNumbers). Contains u.taken n) (sym (only known_first t.known i t.at).1) t.has));
    rising = λ i v e. subst (λ (u : KnownNumbers). AreRising u.taken) (only known_first v i e).1 (λ k t a b. let l : t < length {A = ℕ} [] = b in absurd (omega arith));
    drained = λ i v e d. refl;
  };
  counts = λ i v e. ap (λ (u : KnownNumbers). u.count) (sym (only known_first v i e).1);
  filling = λ i v e t. record { alone = ap (λ (u : KnownNumbers). u ∷ []) (only known_first v i e).1; untouched = refl; endless = refl };
}

-- a number is put by the one pass

alone_set : (views : List KnownNumbers) (v w : KnownNumbers) (i : ℕ) → views ≡ v ∷ [] → get_elem? views i ≡ some v → set views i w ≡ w ∷ []
alone_set views v w i e at = ap (λ (l : List KnownNumbers). set l i w) e ∙ ap (λ k. set (v ∷ []) k w) (only_of views v v i e at).0

pub puts_number : (n i : ℕ) (v : KnownNumbers) (x : ℕ) → v.fills ≡ true → x ≡ v.count → Pushes KeepsDesk n i v (Number x) (λ w. w ≡ filled v)
puts_number n i v x f is items views room k at =
    let s = k.served in
    let mine = k.filling i v at f in
    let w : KnownNumbers = filled v in
    let all : set views i w ≡ w ∷ [] = alone_set views v w i mine.alone at in
    let own : (j : ℕ) (u : KnownNumbers) → get_elem? (set views i w) j ≡ some u → w ≡ u = λ j u e. (only_of (set views i w) w u j all e).1 in
    let many : s.left ≡ v.count = let a = s.suffix in let b = mine.untouched in let c = k.counts i v at in omega arith in
    let was : items ≡ numbers_and_ends 0 v.count 0 = s.queue ∙ (λ t. numbers_and_ends (mine.untouched t) (many t) (mine.endless t)) in (
      w,
      record {
        count = v.count + 1;
        served = record {
          from = 0;
          left = v.count + 1;
          ends = 0;
          suffix = omega arith;
          queue = ap (λ (l : List NumberOrEnd). l ++ Number x ∷ []) was ∙ ap (λ y. numbers_and_ends 0 v.count 0 ++ Number y ∷ []) is ∙ number_more v.count;
          once = λ m l. absurd (omega arith);
          below = λ j m t. let b = s.below j m (took_still views i v w at refl j m t) in let z = mine.untouched in absurd (omega arith);
          rising = rising_still views i v w at refl s.rising;
          drained = λ j u e d. absurd (true≢false (sym d ∙ ap (λ (h : KnownNumbers). h.drained) (sym (own j u e))));
        };
        counts = λ j u e. ap (λ (h : KnownNumbers). h.count) (sym (own j u e));
        filling = λ j u e t. record { alone = all ∙ ap (λ (h : KnownNumbers). h ∷ []) (own j u e); untouched = refl; endless = refl };
      },
      refl,
    )

-- an end is put

pub puts_end : (n i : ℕ) (v : KnownNumbers) → v.fills ≡ false → Pushes KeepsDesk n i v End (λ w. w ≡ v)
puts_end n i v f items views room k at = let s = k.served in (
  v,
  subst (λ (l : List KnownNumbers). KeepsDesk (items ++ End ∷ []) l) (sym (set_again views i v at)) (record {
    count = k.count;
    served = record {
      from = s.from;
      left = s.left;
      ends = s.ends + 1;
      suffix = s.suffix;
      queue = ap (λ (l : List NumberOrEnd). l ++ End ∷ []) s.queue ∙ end_more s.from s.left s.ends;
      once = s.once;
      below = s.below;
      rising = s.rising;
      drained = s.drained;
    };
    counts = k.counts;
    filling = λ j u e t. absurd (true≢false (sym t ∙ ap (λ (h : KnownNumbers). h.fills) (only_of views u v i (k.filling j u e t).alone at).1 ∙ f));
  }),
  refl,
)

-- no pass fills the channel any more

quiet : (items : List NumberOrEnd) (views : List KnownNumbers) (i : ℕ) (v w : KnownNumbers) → KeepsDesk items views → get_elem? views i ≡ some v → w.fills ≡ false → (j : ℕ) (u : KnownNumbers) → get_elem? (set views i w) j ≡ some u → u.fills ≢ true
quiet items views i v w k at f j u e t = ⊎_elim
    (λ (h : (j ≡ i) × (w ≡ u)). true≢false (sym t ∙ ap (λ (x : KnownNumbers). x.fills) (sym h.1) ∙ f))
    (λ (h : (j ≢ i) × (get_elem? views j ≡ some u)).
    let one = (k.filling j u h.1 t).alone in
    h.0 ((only_of views u u j one h.1).0 ∙ sym (only_of views u v i one at).0))
    (at_set views i j w u e)

not_true : (b : Bool) → b ≢ true → b ≡ false
not_true true n = absurd (n refl)
not_true false n = refl

-- an end is taken

drains : (items : List NumberOrEnd) (views : List KnownNumbers) (i : ℕ) (v : KnownNumbers) (x : NumberOrEnd) (k : KeepsDesk (x ∷ items) views) (rest : ℕ) → get_elem? views i ≡ some v → k.served.left ≡ 0 → items ≡ replicate rest End
    → (w : KnownNumbers) × KeepsDesk items (set views i w) × Gives v End w
drains items views i v x k rest at none is = let s = k.served in let w : KnownNumbers = numbers_known v.count v.taken true false in (
  w,
  record {
    count = k.count;
    served = record {
      from = s.from;
      left = 0;
      ends = rest;
      suffix = let a = s.suffix in omega arith;
      queue = is;
      once = λ n l. stands_still views i v w at refl n (s.once n l);
      below = λ j n t. s.below j n (took_still views i v w at refl j n t);
      rising = rising_still views i v w at refl s.rising;
      drained = λ j u e d. refl;
    };
    counts = each_set (λ (u : KnownNumbers). u.count ≡ k.count) views i w (k.counts i v at) k.counts;
    filling = λ j u e t. absurd (quiet (x ∷ items) views i v w k at refl j u e t);
  },
  refl,
)

-- a number is taken

serves : (items : List NumberOrEnd) (views : List KnownNumbers) (i : ℕ) (v : KnownNumbers) (x : NumberOrEnd) (k : KeepsDesk (x ∷ items) views) (left : ℕ) → get_elem? views i ≡ some v → k.served.left ≡ suc left
    → items ≡ numbers_and_ends (k.served.from + 1) left k.served.ends → (w : KnownNumbers) × KeepsDesk items (set views i w) × Gives v (Number k.served.from) w
serves items views i v x k left at more is =
    let s = k.served in
    let n : ℕ = s.from in
    let w : KnownNumbers = numbers_known v.count (v.taken ++ n ∷ []) false false in
    let before = took_before views i v w (n ∷ []) at refl in
    let one : (m : ℕ) → Contains (n ∷ []) m → n ≡ m = λ m c. ⊎_elim (λ e. e) (λ none. absurd (not_in_nil m none)) (in_cases n [] m c) in
    let above : (t : ℕ) → t < length v.taken → slice_index v.taken t < n = λ t l. s.below i (slice_index v.taken t) (record { known = v; at = at; has = contains_at v.taken t (slice_index v.taken t) l refl }) in
    let mine : StandsOnce (set views i w) n = record {
      who = i;
      took = took_here views i v w (n ∷ []) at refl n (Contains-append_right v.taken (n ∷ []) n (in_head n []));
      alone = λ j t. ⊎_elim (λ old. let l = s.below j n old in absurd (omega arith)) (λ (new : (j ≡ i) × Contains (n ∷ []) n). new.0) (before j n t);
    } in (
      w,
      record {
        count = k.count;
        served = record {
          from = n + 1;
          left = left;
          ends = s.ends;
          suffix = let a = s.suffix in omega arith;
          queue = is;
          once = λ m l. dite (ℕ_discrete m n)
              (λ e. subst (λ y. StandsOnce (set views i w) y) (sym e) mine)
              (λ ne. stands_after views i v w (n ∷ []) at refl m (λ c. ne (sym (one m c))) (s.once m (omega arith)));
          below = λ j m t. ⊎_elim (λ old. let l = s.below j m old in omega arith) (λ (new : (j ≡ i) × Contains (n ∷ []) m). let e = one m new.1 in omega arith) (before j m t);
          rising = each_set (λ (u : KnownNumbers). AreRising u.taken) views i w (rising_push v.taken n (s.rising i v at) above) s.rising;
          drained = each_set (λ (u : KnownNumbers). u.drained ≡ true → left ≡ 0) views i w (λ d. absurd (true≢false (sym d))) (λ j u e d. let z = s.drained j u e d in absurd (omega arith));
        };
        counts = each_set (λ (u : KnownNumbers). u.count ≡ k.count) views i w (k.counts i v at) k.counts;
        filling = λ j u e t. absurd (quiet (x ∷ items) views i v w k at refl j u e t);
      },
      (
        refl,
        not_true v.drained (λ d. let z = s.drained i v at d in absurd (omega arith)),
        let a = s.suffix in let c = k.counts i v at in omega arith,
        above,
      ),
    )

first_is : (x y : NumberOrEnd) (xs ys : List NumberOrEnd) → x ∷ xs ≡ y ∷ ys → (x ≡ y) × (xs ≡ ys)
first_is x y xs ys e = (cc, cc)

given : (left ends : ℕ) (items : List NumberOrEnd) (views : List KnownNumbers) (i : ℕ) (v : KnownNumbers) (x : NumberOrEnd) (k : KeepsDesk (x ∷ items) views) → get_elem? views i ≡ some v → k.served.left ≡ left → k.served.ends ≡ ends
    → (w : KnownNumbers) × KeepsDesk items (set views i w) × Gives v x w
given zero zero items views i v x k at l e = let none : x ∷ items ≡ [] = k.served.queue ∙ (λ t. numbers_and_ends k.served.from (l t) (e t)) in absurd (omega (arith, ap length none))
given zero (suc ends) items views i v x k at l e =
    let is = first_is x End items (replicate ends End) (k.served.queue ∙ (λ t. numbers_and_ends k.served.from (l t) (e t))) in
    subst (λ y. (w : KnownNumbers) × KeepsDesk items (set views i w) × Gives v y w) (sym is.0) (drains items views i v x k ends at l is.1)
given (suc left) ends items views i v x k at l e =
    let is = first_is x (Number k.served.from) items (numbers_and_ends (k.served.from + 1) left k.served.ends) (k.served.queue ∙ (λ t. numbers_and_ends k.served.from (l t) k.served.ends)) in
    subst (λ y. (w : KnownNumbers) × KeepsDesk items (set views i w) × Gives v y w) (sym is.0) (serves items views i v x k left at l is.1)

pub gives : (i : ℕ) (v : KnownNumbers) → Pops KeepsDesk i v (Gives v)
gives i v x items views k at = given k.served.left k.served.ends items views i v x k at refl refl

-- a new pass

took_back : (views : List KnownNumbers) (v : KnownNumbers) (j n : ℕ) → v.taken ≡ [] → Took (views ++ v ∷ []) j n → Took views j n
took_back views v j n none t = ⊎_elim
    (λ old. record { known = t.known; at = old; has = t.has })
    (λ (new : v ≡ t.known). absurd (not_in_nil n (subst (λ (l : List ℕ). Contains l n) (ap (λ (h : KnownNumbers). h.taken) (sym new) ∙ none) t.has)))
    (at_snoc views v t.known j t.at)

stands_longer : (views : List KnownNumbers) (v : KnownNumbers) (n : ℕ) → v.taken ≡ [] → StandsOnce views n → StandsOnce (views ++ v ∷ []) n
stands_longer views v n none s = record {
  who = s.who;
  took = record { known = s.took.known; at = at_longer views (v ∷ []) s.who s.took.known s.took.at; has = s.took.has };
  alone = λ j t. s.alone j (took_back views v j n none t);
}

each_snoc : (P : ℕ → KnownNumbers → Type 0) (views : List KnownNumbers) (v : KnownNumbers) → ((j : ℕ) → P j v) → ((j : ℕ) (u : KnownNumbers) → get_elem? views j ≡ some u → P j u) → (j : ℕ) (u : KnownNumbers) → get_elem? (views ++ v ∷ []) j ≡ some u → P j u
each_snoc P views v own all j u e = ⊎_elim (λ old. all j u old) (λ (new : v ≡ u). subst (P j) new (own j)) (at_snoc views v u j e)

pub parts : (i : ℕ) (v : KnownNumbers) → Forks KeepsDesk i v (known_kept v) (known_new v)
parts i v items views k at =
    let s = k.served in
    let l : KnownNumbers = known_kept v in
    let r : KnownNumbers = known_new v in
    let vs : List KnownNumbers = set views i l in record {
      count = k.count;
      served = record {
        from = s.from;
        left = s.left;
        ends = s.ends;
        suffix = s.suffix;
        queue = s.queue;
        once = λ n h. stands_longer vs r n refl (stands_still views i v l at refl n (s.once n h));
        below = λ j n t. s.below j n (took_still views i v l at refl j n (took_back vs r j n refl t));
        rising = each_snoc (λ j (u : KnownNumbers). AreRising u.taken) vs r (λ j a b c d. let z : b < length {A = ℕ} [] = d in absurd (omega arith)) (rising_still views i v l at refl s.rising);
        drained = each_snoc (λ j (u : KnownNumbers). u.drained ≡ true → s.left ≡ 0) vs r (λ j d. absurd (true≢false (sym d))) (each_set (λ (u : KnownNumbers). u.drained ≡ true → s.left ≡ 0) views i l (s.drained i v at) s.drained);
      };
      counts = each_snoc (λ j (u : KnownNumbers). u.count ≡ k.count) vs r (λ j. k.counts i v at) (each_set (λ (u : KnownNumbers). u.count ≡ k.count) views i l (k.counts i v at) k.counts);
      filling = each_snoc (λ j (u : KnownNumbers). u.fills ≡ true → IsFillingDesk (vs ++ r ∷ []) u s.from s.ends) vs r (λ j d. absurd (true≢false (sym d)))
          (λ j u e t. absurd (quiet items views i v l k at refl j u e t));
    }

-- what the rule says of the takers together

pub shares_none : (items : List NumberOrEnd) (views : List KnownNumbers) → KeepsDesk items views → (i j n : ℕ) → Took views i n → Took views j n → i ≡ j
shares_none items views kept i j n a b =
    let s = kept.served in
    let one = s.once n (s.below i n a) in one.alone i a ∙ sym (one.alone j b)

pub leaves_none : (items : List NumberOrEnd) (views : List KnownNumbers) → KeepsDesk items views → (i : ℕ) (v : KnownNumbers) → get_elem? views i ≡ some v → v.drained ≡ true → (n : ℕ) → n < v.count →
    StandsOnce views n
leaves_none items views kept i v at d n l =
    let s = kept.served in
    s.once n (let z = s.drained i v at d in let a = s.suffix in let c = kept.counts i v at in omega arith)
