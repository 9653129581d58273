-- Line by line.
use Rattle.std.proofs.Common.{ℕ, List, ◌++◌, Ok, Err, codes, refl}
use Rattle.spasm_run.specs.Summary.{numbered_line}
use Rattle.spasm_run.proofs.Written.{writes_then, writes_stops}
use Rattle.spasm_run.proofs.summary.Summary.write.Goals as goal

pub returns-in_err-write_line : goal.returns-in_err-write_line
returns-in_err-write_line g c =
    let s = c.args.self.now in
    let fault = c.in_err-write_line.field-0.0 in
    let entries : List ℕ = numbered_line (codes "entries ") s.entries in
    let sum : List ℕ = numbered_line (codes "sum ") s.sum in
    writes_stops _ fault (numbered_line (codes "rank ") s.rank ++ entries) sum _ _ c.from_residual.ensures.0
    (writes_stops (Err fault) fault (numbered_line (codes "rank ") s.rank) entries _ _ refl c.in_err-write_line.ensures)

pub returns-in_err-write_line-2 : goal.returns-in_err-write_line-2
returns-in_err-write_line-2 g c =
    let s = c.args.self.now in
    let fault = c.in_err-write_line-2.field-0.0 in
    let rank : List ℕ = numbered_line (codes "rank ") s.rank in
    let entries : List ℕ = numbered_line (codes "entries ") s.entries in
    let sum : List ℕ = numbered_line (codes "sum ") s.sum in
    writes_stops _ fault (rank ++ entries) sum _ _ c.from_residual-in_err-write_line-2.ensures.0
    (writes_then (Err fault) rank entries _ _ _ c.in_ok-write_line.ensures c.in_err-write_line-2.ensures)

pub returns : goal.returns
returns g c =
    let s = c.args.self.now in
    let rank : List ℕ = numbered_line (codes "rank ") s.rank in
    let entries : List ℕ = numbered_line (codes "entries ") s.entries in
    let sum : List ℕ = numbered_line (codes "sum ") s.sum in
    writes_then _ (rank ++ entries) sum _ _ _ (writes_then (Ok tt) rank entries _ _ _ c.in_ok-write_line.ensures c.in_ok-write_line-2.ensures) c.write_line-3.ensures
