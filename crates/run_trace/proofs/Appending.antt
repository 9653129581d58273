-- A pair tried on a walk's list, and on the list under the columns' own names.
use Rattle.std.proofs.Common.{ℕ, ◌≡◌, ◌<◌, ◌≤◌, ◌↔◌, Bool, true, false, IsTrue, List, [], ◌∷◌, ◌++◌, None, Some, length, eqb, eq-eqb, slice_index, inl, inr, refl, sym, ap, ◌∙◌, subst, arith}
use Rattle.std.specs.Prelude.{if◌then◌else◌}
use Rattle.std.proofs.lemmas.Bool.{cases_lt, cond-true}
use Rattle.std.proofs.lemmas.List.{map_push}
use Rattle.residue_words.specs.Matrix.{Matrix}
use Rattle.residue_words.specs.declared.plain.Pair.{Pair}
use Rattle.residue_words.proofs.Lists.{place_in}
use Rattle.sparse_rows.specs.Rows.{AreEnough, narrowed}
use Rattle.pivot_table.specs.History.{pair, Alive}
use Rattle.optimistic_search.specs.Renamed.{AreInside, renamed}
use Rattle.pivot_walks.specs.Walked.{OfOpenRow, Walked, extended, open_after}
use Rattle.optimistic_search.proofs.Renaming.{alive_here, alive_there, inside_more, narrow_of}
use Rattle.run_trace.specs.Replayed.{TriesPair}

-- a row was opened and closed again
pub closed_again : (old begun new : Walked) (r : ℕ) → old.current ≡ None → begun ≡ record old { current = Some r } → new ≡ record begun { current = None } → new ≡ old
closed_again old begun new r closed e f =
    f ∙ ap (λ (w : Walked). record w { current = None }) e ∙ ap (λ o. record old { current = o }) (sym closed)

-- it was opened, and its pair came
pub pair_came : (old begun new : Walked) (q : Pair) → old.current ≡ None → begun ≡ record old { current = Some q.row } → new ≡ extended begun q → new ≡ record old { pairs = old.pairs ++ q ∷ [] }
pair_came old begun new q closed e f =
    let none : open_after q (Some q.row) ≡ None = cond-true (eqb q.row q.row) None (Some q.row) (eq-eqb q.row q.row refl) in
    f ∙ ap (λ (w : Walked). extended w q) e
    ∙ ap (λ o. record { rows = old.rows; pairs = old.pairs ++ q ∷ []; current = o }) (none ∙ sym closed)

-- what an open row tells
pub alive_told : (old begun : Walked) (q : Pair) (b : Bool) → begun ≡ record old { current = Some q.row } → OfOpenRow begun (λ r. IsTrue b ↔ Alive begun.rows.matrix begun.pairs r q.col) →
    IsTrue b ↔ Alive old.rows.matrix old.pairs q.row q.col
alive_told old begun q b e h =
    subst (λ (w : Walked). IsTrue b ↔ Alive w.rows.matrix w.pairs q.row q.col) e (h q.row (ap (λ (w : Walked). w.current) e))

-- a walk over these columns of A alone
module _ (A : Matrix) (columns : List ℕ) (enough : AreEnough A columns) (old : Walked) (is : old.rows.matrix ≡ narrowed A columns) (inside : AreInside (length columns) old.pairs) where
  abbrev named : ℕ → ℕ
  named = slice_index columns

  width_is : old.rows.matrix.width ≡ length columns
  width_is = ap (λ (M : Matrix). M.width) is

  inside_walk : AreInside old.rows.matrix.width old.pairs
  inside_walk = subst (λ n. AreInside n old.pairs) (sym width_is) inside

  module _ (r j place : ℕ) (low : place < length columns) (there : named place ≡ j) where
    told_alive : Alive old.rows.matrix old.pairs r place → Alive A (renamed named old.pairs) r j
    told_alive a = subst (Alive A (renamed named old.pairs) r) there (alive_there (narrow_of enough is) old.pairs inside_walk r place a)

    heard_alive : Alive A (renamed named old.pairs) r j → Alive old.rows.matrix old.pairs r place
    heard_alive a = alive_here (narrow_of enough is) old.pairs inside_walk r place (omega (arith, width_is)) (subst (Alive A (renamed named old.pairs) r) (sym there) a)

    pub named_alive : (b : Bool) (new : Walked) → TriesPair old (pair r place) b new → IsTrue b ↔ Alive A (renamed named old.pairs) r j
    named_alive true new h = ((λ t. told_alive h.0), (λ a. refl))
    named_alive false new h = ((λ t. absurd (cc)), (λ a. absurd (h.0 (heard_alive a))))

    pub named_inside : (b : Bool) (new : Walked) → TriesPair old (pair r place) b new → AreInside (length columns) new.pairs
    named_inside true new h =
        subst (λ (w : Walked). AreInside (length columns) w.pairs) (sym h.1)
        (subst (λ n. AreInside n (old.pairs ++ pair r place ∷ [])) width_is (inside_more (narrow_of enough is) old.pairs (pair r place) inside_walk (omega (arith, width_is))))
    named_inside false new h = subst (λ (w : Walked). AreInside (length columns) w.pairs) (sym h.1) inside

    pub named_pairs : (b : Bool) (new : Walked) → TriesPair old (pair r place) b new →
        renamed named new.pairs ≡ (if b then renamed named old.pairs ++ pair r j ∷ [] else renamed named old.pairs)
    named_pairs true new h =
        ap (λ (w : Walked). renamed named w.pairs) h.1 ∙ map_push (λ (q : Pair). pair q.row (named q.col)) old.pairs (pair r place)
        ∙ ap (λ c. renamed named old.pairs ++ pair r c ∷ []) there
    named_pairs false new h = ap (λ (w : Walked). renamed named w.pairs) h.1

pub rows_kept : (old : Walked) (q : Pair) (b : Bool) (new : Walked) → TriesPair old q b new → new.rows ≡ old.rows
rows_kept old q true new h = ap (λ (w : Walked). w.rows) h.1
rows_kept old q false new h = ap (λ (w : Walked). w.rows) h.1

pub row_closed : (old : Walked) (q : Pair) (b : Bool) (new : Walked) → old.current ≡ None → TriesPair old q b new → new.current ≡ None
row_closed old q true new closed h = ap (λ (w : Walked). w.current) h.1 ∙ closed
row_closed old q false new closed h = ap (λ (w : Walked). w.current) h.1 ∙ closed

-- a column that isn't among them has no entry
pub nowhere_alive : (A : Matrix) (columns : List ℕ) → AreEnough A columns → (j place : ℕ) → ((k : ℕ) → k < place → slice_index columns k < j) → ((k : ℕ) → place ≤ k → k < length columns → j < slice_index columns k) →
    (h : List Pair) (r : ℕ) → ¬ Alive A h r j
nowhere_alive A columns enough j place below above h r a =
    let at = place_in columns j (enough.all r j a.entry.0 a.entry.1 a.entry.2) in
    elim (cases_lt at.0 place) [
      | inl b ↦ absurd (omega (arith, below at.0 b, at.2))
      | inr b ↦ absurd (omega (arith, above at.0 b at.1, at.2))
    ]
