-- A list begins with the pivots of at most one round.
use Rattle.std.proofs.Common.{ℕ, ◌≡◌, ◌<◌, ◌≤◌, inl, inr, List, ◌++◌, length, get_or, take, drop, sym, ap, subst, ◌∙◌, arith, length-take}
use Rattle.std.specs.List.{Contains}
use Rattle.std.proofs.Math.Seq.{take-append_seam, drop-append_seam}
use Rattle.std.proofs.lemmas.Bool.{cases_lt}
use Rattle.std.proofs.lemmas.List.{get_or-map, get_or-take, get_or_default, take-append-le, take_all}
use Rattle.residue_words.specs.declared.plain.Pair.{Pair}
use Rattle.residue_words.specs.Matrix.{Matrix, entry}
use Rattle.row_space.specs.Factors.{row_at, col_at}
use Rattle.pivot_table.specs.History.{Alive, Maximal}
use Rattle.pivot_table.specs.Order.{Triangular}
use Rattle.triangular_solve.specs.Reduced.{IsComplement}
use Rattle.schur_rows.proofs.Distinct.{triangular_columns, triangular_rows}
use Rattle.schur_rows.specs.Laws.{ComplementIsOne}
use Rattle.pluq_factor.specs.Laws.{SelectedIsOne, StagedGoesOn}
use Rattle.pluq_factor.specs.Staged.{Staged}

abbrev none : Pair
none = record { row = 0; col = 0 }

-- a pair among the first n
early : (us : List Pair) (n : ℕ) → n ≤ length us → (x : Pair) → Contains (take n us) x → (k : ℕ) × (k < n) × (row_at us k ≡ x.row) × (col_at us k ≡ x.col)
early us n le x w =
    let low : w.0 < n = omega (arith, w.1, length-take n us) in
    let is : get_or us w.0 none ≡ x = get_or_default us w.0 none x (omega arith) ∙ sym (get_or-take n us w.0 x low) ∙ w.2 in (
      w.0,
      low,
      get_or-map (λ (q : Pair). q.row) us w.0 none 0 (omega arith) ∙ ap (λ (q : Pair). q.row) is,
      get_or-map (λ (q : Pair). q.col) us w.0 none 0 (omega arith) ∙ ap (λ (q : Pair). q.col) is,
    )

-- the pair behind the first n of a triangular list is alive in them
next_alive : {A : Matrix} {us : List Pair} → Triangular A us → (n : ℕ) → n < length us → Alive A (take n us) (row_at us n) (col_at us n)
next_alive {A} {us} tri n l = record {
  entry = tri.nonzero n l;
  fresh_row = λ w. let e = early us n (omega arith) w.0 w.1 in triangular_rows tri e.0 n e.1 l (e.2 ∙ w.2);
  fresh_col = λ w. let e = early us n (omega arith) w.0 w.1 in triangular_columns tri e.0 n e.1 l (e.3 ∙ w.2);
  unreached = λ w.
      let e = early us n (omega arith) w.2.0 w.2.1 in
      w.3.2 (ap (entry A (row_at us n)) (sym (e.3 ∙ w.2.2)) ∙ tri.after e.0 n e.1 l);
}

shorter : {A : Matrix} {qs us : List Pair} (ps rs : List Pair) → Maximal A qs → Triangular A us → qs ++ ps ≡ us ++ rs → length qs ≤ length us → qs ≡ us
shorter {A} {qs} {us} ps rs maximal tri e le =
    let front : qs ≡ take (length qs) us = sym (take-append_seam qs ps) ∙ ap (take (length qs)) e ∙ take-append-le (length qs) us rs le in
    elim (cases_lt (length qs) (length us)) [
      | inl less ↦ absurd (maximal (row_at us (length qs)) (col_at us (length qs)) (subst (λ h. Alive A h (row_at us (length qs)) (col_at us (length qs))) (sym front) (next_alive tri (length qs) less)))
      | inr more ↦ front ∙ take_all (length qs) us (omega arith)
    ]

pub selected_one : SelectedIsOne
selected_one A workers qs ps us rs s t e = elim (cases_lt (length us) (length qs)) [
  | inl less ↦ sym (shorter rs ps t.maximal s.triangular (sym e) (omega arith))
  | inr more ↦ shorter ps rs s.maximal t.triangular e more
]

pub staged_on : ComplementIsOne → StagedGoesOn
unfolding Staged
staged_on complement_one p A B workers rounds qs ps prime m s comp staged =
    let us : List Pair = staged.0 in
    let rs : List Pair = staged.1 in
    let D : Matrix = staged.2 in
    let same : qs ≡ us = selected_one A workers qs ps us rs s staged.4 staged.3 in
    let behind : ps ≡ rs = sym (drop-append_seam qs ps) ∙ ap (drop (length qs)) staged.3 ∙ ap (λ q. drop (length q) (us ++ rs)) same ∙ drop-append_seam us rs in
    let rest : D ≡ B = complement_one p A qs D B prime m s.triangular (subst (λ q. IsComplement p A q D) (sym same) staged.5) comp in
    subst (λ C. Staged p C workers rounds ps) rest (subst (Staged p D workers rounds) (sym behind) staged.6)
