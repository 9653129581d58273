-- Lawful traces, and the traces of a search.
use Rattle.std.specs.Prelude.{◌≡◌, ◌<◌, ◌≤◌, ℕ, List, length, map, slice_index}
use Rattle.residue_words.specs.Matrix.{Matrix}
use Rattle.residue_words.specs.declared.plain.Pair.{Pair}
use Rattle.pivot_table.specs.Greedy.{IsGreedy}
use Rattle.pivot_table.specs.History.{Grown, Maximal, StartsWith}
use Rattle.pivot_table.specs.Leftmost.{IsLeftmost}
use Rattle.optimistic_search.specs.Versions.{AreOwnPlaces, TellsStarts}
use Rattle.run_trace.specs.declared.publication.Publication.{Publication}
use Rattle.run_trace.specs.declared.trace.Trace.{Trace}

-- the history that was published, and the versions of its pairs
abbrev pub history_of : List Publication → List Pair
history_of list = map (λ (x : Publication). x.pair) list

abbrev pub versions_of : List Publication → List ℕ
versions_of list = map (λ (x : Publication). x.version) list

-- no version is above its place: a worker had seen no more pairs than had been published
abbrev pub AreUpToPlaces : List ℕ → Type 0
AreUpToPlaces versions = (k : ℕ) → k < length versions → slice_index versions k ≤ k

-- each pair, an entry of A, was alive in those published before it, of which its worker had seen at most all
pub record AreLawful (A : Matrix) (list : List Publication) : Type 0 where
  pub grown : Grown A (history_of list)
  pub low : AreUpToPlaces (versions_of list)

-- a trace that can be of A modulo p
pub record IsLawfulTrace (p : ℕ) (A : Matrix) (t : Trace) : Type 0 where
  pub modulus : t.p ≡ p
  pub lawful : AreLawful A t.publications

-- the first pairs, and the greedy list that begins with them, each with its place for a version
abbrev pub IsGreedyTrace : Matrix → List Pair → List Publication → Type 0
IsGreedyTrace A first list =
    IsGreedy A first (history_of list) × AreOwnPlaces (length list) (versions_of list)

-- a trace of a search by so many workers: it is lawful, no pair can be added, it begins with the leftmost pairs, and its versions are
-- the starts of the rows that the workers published and the places of the other pairs; that of one worker is the greedy list
pub record IsTraceOf (p : ℕ) (A : Matrix) (workers : ℕ) (t : Trace) : Type 0 where
  pub lawful : IsLawfulTrace p A t
  pub maximal : Maximal A (history_of t.publications)
  pub first : List Pair
  pub leftmost : IsLeftmost A first
  pub begins : StartsWith (history_of t.publications) first
  pub versions : TellsStarts A first (history_of t.publications) (versions_of t.publications)
  pub one_worker : workers ≡ 1 → IsGreedyTrace A first t.publications
