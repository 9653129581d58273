use Rattle.std.proofs.Common.{◌<◌, length, subst, sym, ap, arith}
use Rattle.residue_words.specs.Matrix.{row}
use Rattle.sparse_rows.specs.Rows.{support}
use Rattle.pivot_table.specs.History.{Dead}
use Rattle.pivot_walks.specs.Indexed.{Indexed}
use Rattle.pivot_walks.specs.Candidate.{HasCandidate}
use Rattle.pivot_walks.proofs.Looking.{IsLooking, looking_none, looking_more, looked_yes, looked_no}
use Rattle.pivot_walks.proofs.indexed_pairs.IndexedPairs.has_candidate.Goals as goal

pub loop-k-init : goal.loop-k-init
loop-k-init c = looking_none c.args.self.now.pairs c.args.row c.cols-cols.result.now

pub loop-k-preserved : goal.loop-k-preserved
loop-k-preserved c = looking_more c.is_free-free.result c.loop-k.invariant (c.is_at.ensures.no c.if-is_at.false) c.is_free-free.ensures.yes c.is_free-free.ensures.no

pub returns-clause-yes : goal.returns-clause-yes
returns-clause-yes c = λ e.
    let i = c.self.inside in
    let A = i.rows.now.matrix in
    let r = c.args.row in
    let l : r < A.height = subst (λ (w : Indexed). r < w.rows.matrix.height) (sym c.self.view_is) c.requires in
    let s : IsLooking i.pairs.items r (support (row A r)) c.loop-k.free c.loop-k.k =
    subst (λ xs. IsLooking i.pairs.items r xs c.loop-k.free c.loop-k.k) c.cols-cols.ensures.support
    (subst (λ (w : Indexed). IsLooking w.pairs r c.cols-cols.result.now c.loop-k.free c.loop-k.k) (sym c.self.view_is) c.loop-k.invariant) in
    subst (λ (w : Indexed). HasCandidate w.rows.matrix w.pairs r) c.self.view_is
    (looked_yes c.self.invariant.matrix l s (omega (arith, ap length c.cols-cols.ensures.support, c.loop-k.auto.k-end, c.loop-k-test.false)) c.self.invariant.inside e)

pub returns-clause-no : goal.returns-clause-no
returns-clause-no c = λ e.
    let i = c.self.inside in
    let A = i.rows.now.matrix in
    let r = c.args.row in
    let l : r < A.height = subst (λ (w : Indexed). r < w.rows.matrix.height) (sym c.self.view_is) c.requires in
    let s : IsLooking i.pairs.items r (support (row A r)) c.loop-k.free c.loop-k.k =
    subst (λ xs. IsLooking i.pairs.items r xs c.loop-k.free c.loop-k.k) c.cols-cols.ensures.support
    (subst (λ (w : Indexed). IsLooking w.pairs r c.cols-cols.result.now c.loop-k.free c.loop-k.k) (sym c.self.view_is) c.loop-k.invariant) in
    subst (λ (w : Indexed). Dead w.rows.matrix w.pairs r) c.self.view_is
    (looked_no c.self.invariant.matrix l s (omega (arith, ap length c.cols-cols.ensures.support, c.loop-k.auto.k-end, c.loop-k-test.false)) e)
