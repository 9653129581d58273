use Rattle.std.proofs.Common.{◌≡◌, ◌∙◌, ◌+◌, ℕ, List, ap, arith, subst, sym}
use Rattle.std.specs.Prelude.{All, Some}
use Rattle.std.proofs.lemmas.List.Elements.{All-push}
use Rattle.sparse_rows.specs.Rows.{ResidueMatrix}
use Rattle.pivot_table.specs.Core.{Chair, parting}
use Rattle.pivot_walks.specs.Walked.{Walked}
use Rattle.optimistic_search.specs.Workers.{IsWorkerOf, with_parted}
use Rattle.optimistic_search.specs.declared.search_worker.SearchWorker.{SearchWorker}
use Rattle.optimistic_search.proofs.team_search.prepared.Goals as goal

parted_more : (s first t : Chair) → s ≡ with_parted first s.parted → t ≡ parting s → t ≡ with_parted first t.parted
parted_more s first t is e =
    let all : t ≡ with_parted first (s.parted + 1) = e ∙ ap parting is in
    subst (λ (n : ℕ). t ≡ with_parted first n) (sym (ap (λ (x : Chair). x.parted) all)) all

pub loop-number-preserved : goal.loop-number-preserved
loop-number-preserved c =
    let inv = c.loop-number.invariant in
    let more = c.push_reserved.ensures in
    let one : SearchWorker = record { seat = c.split.result; walk = Some c.in_ok-rest.rest; number = c.loop-number.number; from = c.first_row.result; steps = 0 } in
    let walk = c.in_ok-rest.ensures in
    let low = c.first_row.ensures in
    let height : c.height-height.result ≡ c.args.board.now.rows.matrix.height = c.height-height.ensures.value ∙ ap (λ (m : ResidueMatrix). m.matrix.height) c.rows.ensures in
    let own : IsWorkerOf c.args.board.now one = (
      record {
        seat = c.split.ensures.seat;
        rows = ap (λ (w : Walked). w.rows) walk ∙ sym c.requires.rows;
        pairs = ap (λ (w : Walked). w.pairs) walk ∙ sym c.requires.seen ∙ ap (λ (x : Chair). x.seen) (sym inv.chair) ∙ sym (ap (λ (x : Chair). x.seen) c.split.ensures.chair);
        hand = ap (λ (x : Chair). x.hand) c.split.ensures.chair;
        current = ap (λ (w : Walked). w.current) walk;
      },
      omega arith,
    ) in record {
      seat = c.split.ensures.old_seat;
      chair = parted_more c.loop-number.seat.chair c.args.seat.now.chair c.split.new.seat.chair inv.chair c.split.ensures.old_chair;
      workers = subst (λ (l : List SearchWorker). All (IsWorkerOf c.args.board.now) l) (sym more.items) (All-push (IsWorkerOf c.args.board.now) c.loop-number.workers.items one inv.workers own);
      count = let n = inv.count in let m = more.len in omega arith;
      room = let r = inv.room in let m = more.capacity in omega arith;
    }
