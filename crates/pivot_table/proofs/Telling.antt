-- What stays, whatever a try to publish found.
use Rattle.std.proofs.Common.{◌≡◌, ◌≢◌, ℕ, ◌+◌, ◌<◌, List, [], ◌∷◌, length, length-append, sym, subst, ap, ◌∙◌}
use Rattle.std.specs.Prelude.{Some}
use mathlib.Core.Logic.{dite}
use native.Mathlib.Decide.{ℕ_discrete}
use Rattle.atomic_table.specs.Table.{Step}
use Rattle.residue_words.specs.Matrix.{Matrix}
use Rattle.residue_words.specs.declared.plain.Pair.{Pair}
use Rattle.pivot_table.specs.History.{pair, Alive, StartsWith}
use Rattle.pivot_table.specs.Core.{Chair, publishing, seeing, longer}
use Rattle.pivot_table.specs.Calls.{IsOutcome}
use Rattle.pivot_table.specs.declared.board.Outcome.TheVariants as told
use Rattle.pivot_table.specs.Rule.{TableSeat, with_chair, published, joined, rows_at, pair_of}
use Rattle.pivot_table.specs.declared.view.View.{View}
use Rattle.pivot_table.proofs.Seats.{both_first}

pub record Stays (m m' : TableSeat) : Type 0 where
  pub one_more : length m'.0.chair.seen ≡ length m.0.chair.seen + 1
  pub hand : m'.0.chair.hand ≡ m.0.chair.hand
  pub start : m'.0.chair.start ≡ m.0.chair.start
  pub live : m'.0.live ≡ m.0.live
  pub matrix : m'.0.matrix ≡ m.0.matrix
  pub slots : m'.1 ≡ m.1
  pub room : length m'.0.chair.seen < rows_at m.0.matrix

pub kept_by : (st : Step (Unit {0})) (m : TableSeat) (n : ℕ) (m' : TableSeat) → published st m n m' → Stays m m'
kept_by st m n m' p = dite (ℕ_discrete n 0)
    (λ e. let f : m' ≡ with_chair m (publishing m.0.chair (pair_of st.second)) = p.1 e in record {
      one_more = ap (λ (x : TableSeat). length x.0.chair.seen) f ∙ length-append m.0.chair.seen (pair_of st.second ∷ []);
      hand = ap (λ (x : TableSeat). x.0.chair.hand) f;
      start = ap (λ (x : TableSeat). x.0.chair.start) f;
      live = ap (λ (x : TableSeat). x.0.live) f;
      matrix = ap (λ (x : TableSeat). x.0.matrix) f;
      slots = ap (λ (x : TableSeat). x.1) f;
      room = p.0;
    })
    (λ e. let f : m' ≡ with_chair m (seeing m.0.chair (pair_of n)) = (p.2 e).0 in record {
      one_more = ap (λ (x : TableSeat). length x.0.chair.seen) f ∙ length-append m.0.chair.seen (pair_of n ∷ []);
      hand = ap (λ (x : TableSeat). x.0.chair.hand) f;
      start = ap (λ (x : TableSeat). x.0.chair.start) f;
      live = ap (λ (x : TableSeat). x.0.live) f;
      matrix = ap (λ (x : TableSeat). x.0.matrix) f;
      slots = ap (λ (x : TableSeat). x.1) f;
      room = p.0;
    })

module _ (A : Matrix) (col r : ℕ) (st : Step (Unit {0})) (m : TableSeat) (n : ℕ) (m' : TableSeat) (p : published st m n m') (s : Chair) (is : m.0.chair ≡ s) where
  pub tells_published : (k : ℕ) → k ≡ length s.seen → s.hand ≡ Some r → pair_of st.second ≡ pair r col → n ≡ 0 → IsOutcome A s col (told.Published k) m'.0.chair
  tells_published k at mine back e =
      (at, (r, mine, ap (λ (x : TableSeat). x.0.chair) (p.1 e) ∙ ap (λ (q : Pair). publishing m.0.chair q) back ∙ ap (λ (x : Chair). publishing x (pair r col)) is))

  pub tells_newer : m.0.matrix ≡ A → (q : Pair) → q ≡ pair_of n → n ≢ 0 → IsOutcome A s col (told.Newer q) m'.0.chair
  tells_newer matrix q back ne =
      let t = p.2 ne in
      subst (λ (x : Pair). IsOutcome A s col (told.Newer x) m'.0.chair) (sym back) (
        subst (λ (x : Chair). Alive A x.seen (pair_of n).row (pair_of n).col) is (subst (λ (x : Matrix). Alive x m.0.chair.seen (pair_of n).row (pair_of n).col) matrix t.2),
        subst (λ (x : Chair). x.hand ≢ Some (pair_of n).row) is t.3,
        ap (λ (x : TableSeat). x.0.chair) t.0 ∙ ap (λ (x : Chair). seeing x (pair_of n)) is,
      )

-- what a seat that was joined with another, and then looked, tells
pub tells_begins : (m : TableSeat) (w : View) (j m' : TableSeat) → j ≡ (joined m.0 w, m.1) → m' ≡ with_chair j j.0.chair → StartsWith j.0.chair.seen j.0.heard
    → StartsWith m'.0.chair.seen m.0.chair.seen × StartsWith m'.0.chair.seen w.chair.seen
tells_begins m w j m' is looks heard =
    let same : m'.0.chair.seen ≡ longer m.0.chair.seen w.chair.seen = ap (λ (x : TableSeat). x.0.chair.seen) looks ∙ ap (λ (x : TableSeat). x.0.chair.seen) is in
    subst (λ (l : List Pair). StartsWith l m.0.chair.seen × StartsWith l w.chair.seen) (sym same)
    (both_first m.0.chair.seen w.chair.seen (subst (λ (x : TableSeat). StartsWith x.0.chair.seen x.0.heard) is heard))
