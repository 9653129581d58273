-- What fewer workers find is what more of them may: one worker alone owes more than several.
use Rattle.std.proofs.Common.{ℕ, zero, suc, ◌≡◌, List}
use Rattle.residue_words.specs.Matrix.{Matrix}
use Rattle.residue_words.specs.declared.plain.Pair.{Pair}
use Rattle.pivot_table.specs.Selected.{Selected}
use Rattle.pluq_factor.specs.Staged.{Staged}
use Rattle.run_trace.specs.Lawful.{IsTraceOf}
use Rattle.run_trace.specs.declared.trace.Trace.{Trace}

module _ (k w : ℕ) (one : w ≡ 1 → k ≡ 1) where
  pub selected_by : (A : Matrix) (qs : List Pair) → Selected A k qs → Selected A w qs
  selected_by A qs s = record { triangular = s.triangular; maximal = s.maximal; leftmost = s.leftmost; one_worker = λ e. s.one_worker (one e) }

  pub staged_by : (p : ℕ) (A : Matrix) (rounds : ℕ) (ps : List Pair) → Staged p A k rounds ps → Staged p A w rounds ps
  unfolding Staged
  staged_by p A zero ps h = tt
  staged_by p A (suc rounds) ps (qs, rest, B, e, selected, is, more) = (qs, rest, B, e, selected_by A qs selected, is, staged_by p B rounds rest more)

  pub traced_by : (p : ℕ) (A : Matrix) (t : Trace) → IsTraceOf p A k t → IsTraceOf p A w t
  traced_by p A t s = record {
    lawful = s.lawful;
    maximal = s.maximal;
    first = s.first;
    leftmost = s.leftmost;
    begins = s.begins;
    versions = s.versions;
    one_worker = λ e. s.one_worker (one e);
  }
