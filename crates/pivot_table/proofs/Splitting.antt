-- Seats that are split and joined keep the rule.
use Rattle.std.proofs.Common.{◌≡◌, ℕ, Bool, true, List, [], ◌∷◌, ◌++◌, map, set, sym, refl, ap, ◌∙◌, ⊎_elim, subst}
use Rattle.std.specs.Prelude.{None, Some}
use mathlib.Core.List.{map-append}
use mathlib.Core.Option.{some}
use lib.ListN.{get_elem?}
use lib.Seq.{map-set}
use Rattle.atomic_table.specs.Table.{Splits, Joins}
use Rattle.atomic_table.proofs.Lists.{set_else, at_snoc}
use Rattle.residue_words.specs.Matrix.{Matrix}
use Rattle.residue_words.specs.declared.plain.Pair.{Pair}
use Rattle.pivot_table.specs.History.{StartsWith}
use Rattle.pivot_table.specs.Core.{Chair, core, split, join, Reached, parting, splitting, joining}
use Rattle.pivot_table.specs.Rule.{SpellsRun, seat_of, seat_by, joined, old_part, new_part, spent_view}
use Rattle.pivot_table.specs.declared.view.View.{View}
use Rattle.pivot_table.proofs.Seats.{Seats, shorter_first}
use Rattle.pivot_table.proofs.Runs.{reached_next}
use Rattle.pivot_table.proofs.Allowed.{HasHeard, lawful, seats_of, seat_there, seats_set, each_view}

module _ (A : Matrix) (h0 : List Pair) (id : ℕ) (v : View) (live : v.live ≡ true) where
  pub split_allowed : Splits (SpellsRun A h0) id v (old_part v) (new_part v)
  split_allowed s k at =
      let seats : Seats = seats_of s in
      let after : Seats = set seats id (Some (parting v.chair)) ++ Some (splitting v.chair) ∷ [] in
      let goes = reached_next A h0 (core k.history k.rows seats) (core k.history k.rows after) (split id) k.reached (v.chair, seat_there s.views id v live at, refl) in
      let views : List View = set s.views id (old_part v) in
      let written : map seat_of (views ++ new_part v ∷ []) ≡ after = map-append seat_of views (new_part v ∷ [])
      ∙ ap (λ (b : Bool). map seat_of views ++ seat_by b (splitting v.chair) ∷ []) live
      ∙ ap (λ (l : Seats). l ++ Some (splitting v.chair) ∷ []) (seats_set s.views id (old_part v) live) in
      record {
        history = k.history;
        rows = k.rows;
        reached = subst (λ (l : Seats). Reached A h0 (core k.history k.rows l)) (sym written) goes;
        spells = k.spells;
        of_board = λ j u au lives. ⊎_elim
            (λ e. each_view (λ x. x.live ≡ true → x.matrix ≡ A) s.views id (old_part v) (λ l. k.of_board id v at live) (λ i x ai. k.of_board i x ai) j u e lives)
            (λ e. (let f : new_part v ≡ u = e in sym (ap (λ (x : View). x.matrix) f) ∙ k.of_board id v at live))
            (at_snoc views (new_part v) u j au);
        heard = λ j u au. ⊎_elim
            (λ e. each_view HasHeard s.views id (old_part v) (v.chair.seen, refl) k.heard j u e)
            (λ e. subst (λ (x : View). StartsWith x.chair.seen x.heard) {x = new_part v} e (v.chair.seen, refl))
            (at_snoc views (new_part v) u j au);
        narrow = k.narrow;
      }

  pub join_allowed : (other : ℕ) (w : View) → w.live ≡ true → w.chair.hand ≡ None → Joins (SpellsRun A h0) id v other w (joined v w) spent_view
  join_allowed other w there idle s k at ne au =
      let seats : Seats = seats_of s in
      let both : Chair = joining v.chair w.chair in
      let av : get_elem? s.views other ≡ some w = sym (set_else s.views id other (joined v w) ne) ∙ au in
      let after : Seats = set (set seats id (Some both)) other None in
      let goes = reached_next A h0 (core k.history k.rows seats) (core k.history k.rows after) (join id other) k.reached
      (v.chair, w.chair, seat_there s.views id v live at, seat_there s.views other w there av, ne, idle, refl) in
      let law = lawful A h0 s k in
      let so = law.each id v.chair (seat_there s.views id v live at) in
      let to = law.each other w.chair (seat_there s.views other w there av) in
      let written : map seat_of (set (set s.views id (joined v w)) other spent_view) ≡ after = map-set seat_of (set s.views id (joined v w)) other spent_view ∙ ap (λ (l : Seats). set l other None) (seats_set s.views id (joined v w) live) in
      record {
        history = k.history;
        rows = k.rows;
        reached = subst (λ (l : Seats). Reached A h0 (core k.history k.rows l)) (sym written) goes;
        spells = k.spells;
        of_board = each_view (λ u. u.live ≡ true → u.matrix ≡ A) (set s.views id (joined v w)) other spent_view (λ l. absurd (cc))
            (each_view (λ u. u.live ≡ true → u.matrix ≡ A) s.views id (joined v w) (λ l. k.of_board id v at live) (λ j u aj. k.of_board j u aj));
        heard = each_view HasHeard (set s.views id (joined v w)) other spent_view ([], refl)
            (each_view HasHeard s.views id (joined v w) (shorter_first k.history v.chair.seen w.chair.seen so.seen_first to.seen_first) k.heard);
        narrow = k.narrow;
      }
