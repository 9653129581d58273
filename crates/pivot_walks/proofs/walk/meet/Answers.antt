use Rattle.std.proofs.Common.{ℕ, ◌≡◌, ◌⊎◌, ◌++◌, ◌∷◌, [], List, length, take, inr, inl, subst, sym, ap, ◌∙◌, arith}
use Rattle.std.specs.List.{Contains}
use Rattle.std.proofs.lemmas.Bool.{false≢true}
use Rattle.std.proofs.lemmas.List.Elements.{Contains-push}
use Rattle.std.proofs.Math.Seq.{take-length}
use Rattle.residue_words.specs.Matrix.{row}
use Rattle.residue_words.specs.declared.plain.Pair.{Pair}
use Rattle.sparse_rows.specs.Rows.{ResidueMatrix, support}
use Rattle.pivot_walks.specs.Indexed.{Indexed}
use Rattle.pivot_walks.specs.MarkedColumns.{Grows}
use Rattle.pivot_walks.specs.Spent.{spent, spent_for}
use Rattle.pivot_walks.proofs.Costing.{spent_takes, spent_keeps, spent_front}
use Rattle.pivot_walks.proofs.Growing.{front_kept, kept, grows_one, grows_trans, grows_weaker}
use Rattle.pivot_walks.proofs.Walking.{in_support, met_apart, met_marked, met_own}
use Rattle.pivot_walks.proofs.walk.meet.Goals as goal

cols_of : (a : ResidueMatrix) (b : ResidueMatrix) (r : ℕ) (xs : List ℕ) → xs ≡ support (row a.matrix r) → a ≡ b → xs ≡ support (row b.matrix r)
cols_of a b r xs e s = e ∙ ap (λ (m : ResidueMatrix). support (row m.matrix r)) s

-- what is spent for columns with the pair
spent_with : (w v : Indexed) (q : Pair) (cs ds : List ℕ) → v.rows ≡ w.rows → v.pairs ≡ w.pairs ++ q ∷ [] → ds ≡ cs → spent_for v ds ≡ spent w.rows.matrix (w.pairs ++ q ∷ []) cs
spent_with w v q cs ds rows pairs same =
    let is : v ≡ record { rows = w.rows; pairs = w.pairs ++ q ∷ [] } = λ i. record { rows = rows i; pairs = pairs i } in
    ap (λ (x : Indexed). spent_for x ds) is ∙ ap (spent w.rows.matrix (w.pairs ++ q ∷ [])) same

-- old columns, the pair's own, and those of its row
of_row : {old met new : List ℕ} (cols : List ℕ) (j : ℕ) → met ≡ old ++ j ∷ [] → Grows (Contains cols) met new → Grows (λ i. (i ≡ j) ⊎ Contains cols i) old new
of_row cols j e g = grows_trans (grows_weaker (grows_one j e) (λ i s. inl s)) g (λ i m. inr m)

pub returns-then-has-clause-cost : goal.returns-then-has-clause-cost
returns-then-has-clause-cost g c =
    let q = c.args.pair in
    let old = c.args.marks.now.list in
    let are = cols_of c.rows-rows.result.now c.args.pivots.now.rows q.row _ c.cols.ensures.support c.rows-rows.ensures.value in
    let front : take c.len-taken.result c.add_all.new.self.list ≡ old = ap (λ n. take n c.add_all.new.self.list) c.len-taken.ensures.value ∙ front_kept c.add_all.ensures.grows in
    let with = spent_with c.args.pivots.now c.push.new.self q old _ c.push.ensures.rows c.push.ensures.pairs front in
    omega (arith, c.add_all.ensures.steps, ap length are, with, spent_takes c.args.pivots.now.rows.matrix c.args.pivots.now.pairs q old (c.has.ensures.0 c.if-has.true))

pub add_others-requires-clause-marked : goal.add_others-requires-clause-marked
add_others-requires-clause-marked g c = subst (λ xs. Contains xs c.args.pair.col) (sym c.mark.ensures.list) (Contains-push c.args.marks.now.list c.args.pair.col)

pub returns-then-is_in-clause-kept : goal.returns-then-is_in-clause-kept
returns-then-is_in-clause-kept g c = λ j m. kept j (of_row _ c.args.pair.col c.mark.ensures.list c.add_others.ensures.grows) m

pub returns-then-is_in-clause-cost : goal.returns-then-is_in-clause-cost
returns-then-is_in-clause-cost g c =
    let A = c.args.pivots.now.rows.matrix in
    let h = c.args.pivots.now.pairs in
    let q = c.args.pair in
    let old = c.args.marks.now.list in
    let met = c.mark.new.self.list in
    let new = c.add_others.new.self.list in
    let theirs = cols_of c.rows-rows.result.now c.args.pivots.now.rows q.row _ c.cols-then-is_in.ensures.support c.rows-rows.ensures.value in
    let own : Contains met q.col = subst (λ xs. Contains xs q.col) (sym c.mark.ensures.list) (Contains-push old q.col) in
    let front : take c.len-taken-then-is_in.result new ≡ met = ap (λ n. take n new) c.len-taken-then-is_in.ensures.value ∙ front_kept c.add_others.ensures.grows in
    let with = spent_with c.args.pivots.now c.push.new.self q met _ c.push.ensures.rows c.push.ensures.pairs front in
    let before : spent A h (take (length old) met) ≡ spent A h old = ap (spent A h) (front_kept (grows_one q.col c.mark.ensures.list)) in
    let steps = c.add_others.ensures.steps (subst (λ xs. Contains xs q.col) (sym theirs) (in_support c.rows-rows.ensures.sound q.row c.requires.pair.entry.0 q.col c.requires.pair.entry)) in
    omega (arith, steps, c.mark.ensures.steps, ap length theirs, with, before, spent_front A h (length old) met, spent_takes A h q met own)

pub returns-clause-cost : goal.returns-clause-cost
returns-clause-cost g c =
    let q = c.args.pair in
    let old = c.args.marks.now.list in
    let front : take c.len.result old ≡ old = ap (λ n. take n old) c.len.ensures.value ∙ take-length old in
    let with = spent_with c.args.pivots.now c.push.new.self q old _ c.push.ensures.rows c.push.ensures.pairs front in
    omega (arith, with, spent_keeps c.args.pivots.now.rows.matrix c.args.pivots.now.pairs q old)

pub returns-then-has-clause-way : goal.returns-then-has-clause-way
returns-then-has-clause-way g c =
    met_marked c.rows-rows.ensures.sound c.args.pair c.requires.pair.entry c.requires.way (c.has.ensures.0 c.if-has.true)
    (cols_of c.rows-rows.result.now c.args.pivots.now.rows c.args.pair.row _ c.cols.ensures.support c.rows-rows.ensures.value)
    c.add_all.ensures.grows c.add_all.ensures.all c.len-taken.result c.len-taken.ensures.value

pub returns-then-is_in-clause-way : goal.returns-then-is_in-clause-way
returns-then-is_in-clause-way g c =
    met_own c.rows-rows.ensures.sound c.args.pair c.requires.pair.entry c.requires.way (λ has. false≢true (sym c.if-has.false ∙ c.has.ensures.1 has)) c.requires.pair.fresh_col c.requires.row
    (cols_of c.rows-rows.result.now c.args.pivots.now.rows c.args.row _ c.cols-2.ensures.support c.rows-rows.ensures.value) (c.is_in.ensures.0 c.if-is_in.true) c.mark.ensures.list
    (cols_of c.rows-rows.result.now c.args.pivots.now.rows c.args.pair.row _ c.cols-then-is_in.ensures.support c.rows-rows.ensures.value)
    c.add_others.ensures.grows c.add_others.ensures.all c.len-taken-then-is_in.result c.len-taken-then-is_in.ensures.value

pub returns-clause-way : goal.returns-clause-way
returns-clause-way g c =
    met_apart c.rows-rows.ensures.sound c.args.pair c.requires.pair.entry c.requires.way (λ has. false≢true (sym c.if-has.false ∙ c.has.ensures.1 has)) c.requires.row
    (cols_of c.rows-rows.result.now c.args.pivots.now.rows c.args.row _ c.cols-2.ensures.support c.rows-rows.ensures.value) (λ has. false≢true (sym c.if-is_in.false ∙ c.is_in.ensures.1 has))
    c.len.result c.len.ensures.value
