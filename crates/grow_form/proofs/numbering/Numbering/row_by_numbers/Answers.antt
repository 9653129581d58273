use Rattle.std.proofs.Common.{ℕ, List, ◌≡◌, ◌++◌, ◌∷◌, [], ◌∙◌, ap, ap₂, arith, map, slice_index, subst}
use Rattle.sparse_rows.specs.Rows.{built, row_triples, triple}
use Rattle.grow_form.specs.Numbering.{IsNumbering, NumberedColumns, number_of}
use Rattle.grow_form.proofs.Numbers.{built_by_numbers, fit_by_numbers}
use Rattle.grow_form.proofs.OneRow.{renamed_all, renamed_more}
use Rattle.grow_form.proofs.numbering.Numbering.row_by_numbers.Goals as goal

pub loop-k-preserved : goal.loop-k-preserved
loop-k-preserved c =
    c.in_ok-push.ensures.items ∙ ap₂ (λ (ts : List (ℕ × ℕ × ℕ)) (x : ℕ). ts ++ (0, x, slice_index c.args.vals.now c.loop-k.k) ∷ []) c.loop-k.invariant c.number.ensures
    ∙ renamed_more (number_of c.args.self.now) c.args.cols.now c.args.vals.now c.loop-k.k c.requires.sparse.long c.loop-k-test.true

pub from_triples-requires-clause-inside : goal.from_triples-requires-clause-inside
from_triples-requires-clause-inside c =
    let room : c.self.inside.room ≡ c.args.self.now.room = ap (λ (N : NumberedColumns). N.room) c.self.view_is in
    let all : c.deref.result.now ≡ row_triples 0 (map (number_of c.args.self.now) c.args.cols.now) c.args.vals.now =
    c.deref.ensures.value ∙ c.loop-k.invariant ∙ renamed_all (number_of c.args.self.now) c.args.cols.now c.args.vals.now c.loop-k.k c.requires.sparse.long (omega (arith, c.loop-k-test.false)) in
    rw (all, room) (fit_by_numbers (subst IsNumbering c.self.view_is c.self.invariant) c.requires.sparse c.requires.come)

pub returns : goal.returns
returns c =
    let room : c.self.inside.room ≡ c.args.self.now.room = ap (λ (N : NumberedColumns). N.room) c.self.view_is in
    let all : c.deref.result.now ≡ row_triples 0 (map (number_of c.args.self.now) c.args.cols.now) c.args.vals.now =
    c.deref.ensures.value ∙ c.loop-k.invariant ∙ renamed_all (number_of c.args.self.now) c.args.cols.now c.args.vals.now c.loop-k.k c.requires.sparse.long (omega (arith, c.loop-k-test.false)) in
    built_by_numbers (subst IsNumbering c.self.view_is c.self.invariant) (omega (arith, c.is_sound.ensures.two_or_more)) c.requires.sparse c.requires.come c.in_ok-row.ensures.modulus
    (c.in_ok-row.ensures.matrix ∙ ap₂ (λ (n : ℕ) (ts : List (ℕ × ℕ × ℕ)). built c.args.p.now 1 n (map triple ts)) room all)
