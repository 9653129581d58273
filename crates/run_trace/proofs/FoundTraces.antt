-- From what a search found to its trace.
use Rattle.std.proofs.Common.{ℕ, ◌≡◌, ◌<◌, List, length, sym, ap, ◌∙◌, subst, arith}
use Rattle.std.proofs.lemmas.List.{length-map}
use Rattle.std.proofs.lemmas.List.Elements.{All-from_get_or}
use Rattle.residue_words.specs.declared.modulus.TheConstants.{MODULUS_BOUND}
use Rattle.residue_words.specs.Matrix.{Matrix}
use Rattle.residue_words.specs.declared.plain.Pair.{Pair}
use Rattle.pivot_table.specs.Greedy.{IsGreedy}
use Rattle.pivot_table.specs.History.{Grown, Maximal, StartsWith}
use Rattle.pivot_table.specs.Leftmost.{IsLeftmost}
use Rattle.pivot_table.proofs.Short.{grown_short}
use Rattle.optimistic_search.specs.Versions.{AreOwnPlaces, TellsStarts}
use Rattle.optimistic_search.proofs.Searching.{grown_at}
use Rattle.run_trace.specs.declared.publication.Publication.{Publication}
use Rattle.run_trace.specs.declared.trace.Trace.{Trace}
use Rattle.run_trace.specs.Lawful.{IsLawfulTrace, IsTraceOf, history_of, versions_of}
use Rattle.run_trace.specs.TraceText.{HasTextSizes, HasTraceText, IsTextPublication}
use Rattle.run_trace.proofs.ReplayedTraces.{at, no_publication, pair_at, version_at}

-- what was found, with these pairs and versions
pub traced : (p : ℕ) (A : Matrix) (workers : ℕ) (t : Trace) (first all : List Pair) (versions : List ℕ) → t.p ≡ p → history_of t.publications ≡ all → versions_of t.publications ≡ versions →
    Grown A all → Maximal A all → IsLeftmost A first → StartsWith all first → TellsStarts A first all versions →
    (workers ≡ 1 → IsGreedy A first all) → (workers ≡ 1 → AreOwnPlaces (length all) versions) → IsTraceOf p A workers t
traced p A workers t first all versions modulus history given grown maximal leftmost begins are greedy places =
    let list = t.publications in
    let long : length all ≡ length list = ap length (sym history) ∙ length-map list (λ (x : Publication). x.pair) in
    let each : TellsStarts A first (history_of list) (versions_of list) =
    subst (λ (h : List Pair). TellsStarts A first h (versions_of list)) (sym history) (subst (TellsStarts A first all) (sym given) are) in
    record {
      lawful = record {
        modulus = modulus;
        lawful = record {
          grown = subst (Grown A) (sym history) grown;
          low = λ k l. each.low k (omega (arith, each.long));
        };
      };
      maximal = subst (Maximal A) (sym history) maximal;
      first = first;
      leftmost = leftmost;
      begins = subst (λ (h : List Pair). StartsWith h first) (sym history) begins;
      versions = each;
      one_worker = λ one. (
        subst (IsGreedy A first) (sym history) (greedy one),
        subst (λ n. AreOwnPlaces n (versions_of list)) long (subst (AreOwnPlaces (length all)) (sym given) (places one)),
      );
    }

-- the text of a lawful trace of a matrix that a text can give can be written
pub lawful_text : (p : ℕ) (A : Matrix) (t : Trace) → p < MODULUS_BOUND → HasTextSizes A → IsLawfulTrace p A t → HasTraceText t
lawful_text p A t below fits is =
    let list = t.publications in
    let h = history_of list in
    let n = length-map list (λ (x : Publication). x.pair) in
    let short = grown_short A h is.lawful.grown in
    record {
      modulus = omega (arith, is.modulus);
      count = omega (arith, fits.0);
      publications = All-from_get_or IsTextPublication list no_publication (λ k l.
          let a = grown_at A h k no_publication.pair is.lawful.grown (omega arith) in
          let q = pair_at list k l in
          let row : (at list k).pair.row < A.height = subst (λ (x : Pair). x.row < A.height) q a.entry.0 in
          let col : (at list k).pair.col < A.width = subst (λ (x : Pair). x.col < A.width) q a.entry.1 in
          let v = version_at list k l in
          let low = is.lawful.low k (omega (arith, length-map list (λ (x : Publication). x.version))) in
          record { row = omega (arith, fits.0); col = omega (arith, fits.1); version = omega (arith, fits.0) });
    }
