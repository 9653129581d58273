use Rattle.std.proofs.Common.{ℕ, List, ◌≡◌, ◌<◌, ◌-◌, ◌++◌, ◌∷◌, [], ◌∙◌, ap, ap₂, arith, length, map, slice_index, subst, sym}
use Rattle.sparse_rows.specs.Rows.{built, row_triples, triple}
use Rattle.grow_form.specs.Numbering.{IsNumbering, NumberedColumns, column_numbered}
use Rattle.grow_form.proofs.Numbers.{built_at_columns, fit_at_columns, long_arrivals}
use Rattle.grow_form.proofs.OneRow.{renamed_all, renamed_more}
use Rattle.grow_form.proofs.numbering.Numbering.row_at_columns.Goals as goal

pub loop-k-preserved : goal.loop-k-preserved
loop-k-preserved c =
    let numbers : List ℕ = c.args.numbers.now in
    let s : ℕ = slice_index numbers c.loop-k.k in
    let l : c.loop-k.k < length numbers = c.loop-k-test.true in
    let at : slice_index c.as_slice-columns.result.now (c.self.inside.room - 1 - s) ≡ column_numbered c.args.self.now s =
    ap (λ cs. slice_index cs (c.self.inside.room - 1 - s)) c.as_slice-columns.ensures.keys ∙ ap (λ (N : NumberedColumns). column_numbered N s) c.self.view_is in
    c.in_ok-push.ensures.items ∙ ap₂ (λ (ts : List (ℕ × ℕ × ℕ)) (x : ℕ). ts ++ (0, x, slice_index c.args.vals.now c.loop-k.k) ∷ []) c.loop-k.invariant at
    ∙ renamed_more (column_numbered c.args.self.now) numbers c.args.vals.now c.loop-k.k c.requires.sparse.long l

pub from_triples-requires-clause-width : goal.from_triples-requires-clause-width
from_triples-requires-clause-width c = omega (arith, c.self.invariant.width_small, long_arrivals c.self.inside.width c.self.inside.columns.keys)

pub from_triples-requires-clause-inside : goal.from_triples-requires-clause-inside
from_triples-requires-clause-inside c =
    let width : c.self.inside.width ≡ length c.args.self.now.arrivals = sym (long_arrivals c.self.inside.width c.self.inside.columns.keys) ∙ ap (λ (N : NumberedColumns). length N.arrivals) c.self.view_is in
    let all : c.deref.result.now ≡ row_triples 0 (map (column_numbered c.args.self.now) c.args.numbers.now) c.args.vals.now =
    c.deref.ensures.value ∙ c.loop-k.invariant ∙ renamed_all (column_numbered c.args.self.now) c.args.numbers.now c.args.vals.now c.loop-k.k c.requires.sparse.long (omega (arith, c.loop-k-test.false)) in
    rw (all, width) (fit_at_columns (subst IsNumbering c.self.view_is c.self.invariant) c.requires.sparse c.requires.used)

pub returns : goal.returns
returns c =
    let width : c.self.inside.width ≡ length c.args.self.now.arrivals = sym (long_arrivals c.self.inside.width c.self.inside.columns.keys) ∙ ap (λ (N : NumberedColumns). length N.arrivals) c.self.view_is in
    let all : c.deref.result.now ≡ row_triples 0 (map (column_numbered c.args.self.now) c.args.numbers.now) c.args.vals.now =
    c.deref.ensures.value ∙ c.loop-k.invariant ∙ renamed_all (column_numbered c.args.self.now) c.args.numbers.now c.args.vals.now c.loop-k.k c.requires.sparse.long (omega (arith, c.loop-k-test.false)) in
    built_at_columns (subst IsNumbering c.self.view_is c.self.invariant) (omega (arith, c.is_sound.ensures.two_or_more)) c.requires.sparse c.requires.used c.in_ok-row.ensures.modulus
    (c.in_ok-row.ensures.matrix ∙ ap₂ (λ (n : ℕ) (ts : List (ℕ × ℕ × ℕ)). built c.args.p.now 1 n (map triple ts)) width all)
