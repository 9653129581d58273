-- The trace of one worker is one.
use Rattle.std.proofs.Common.{◌≡◌, ℕ, List, [], ◌∷◌, length, sym, refl, ap, ap₂, ◌∙◌, subst, arith}
use Rattle.std.proofs.lemmas.List.{ext_get_or, length-map}
use Rattle.residue_words.specs.Matrix.{Matrix}
use Rattle.residue_words.specs.declared.plain.Pair.{Pair}
use Rattle.pivot_table.specs.Greedy.{IsGreedy}
use Rattle.pivot_table.proofs.Selecting.{greedy_one}
use Rattle.optimistic_search.specs.Versions.{AreOwnPlaces}
use Rattle.run_trace.specs.declared.publication.Publication.{Publication}
use Rattle.run_trace.specs.declared.trace.Trace.{Trace}
use Rattle.run_trace.specs.Lawful.{IsTraceOf, history_of, versions_of}
use Rattle.run_trace.specs.TraceText.{trace_text}
use Rattle.spasm_run.proofs.OneSelection.{leftmost_one}

-- places that are their own versions
places_one : (n : ℕ) (vs ws : List ℕ) → AreOwnPlaces n vs → AreOwnPlaces n ws → vs ≡ ws
places_one n vs ws v w =
    ext_get_or 0 vs ws (v.long ∙ sym w.long) (λ k l. v.places k (omega arith) (omega (arith, v.long)) ∙ sym (w.places k (omega arith) (omega (arith, v.long))))

made : Pair → ℕ → Publication
made q v = record { pair = q; version = v }

-- pairs and versions are all there is of publications
published_one : (l m : List Publication) → history_of l ≡ history_of m → versions_of l ≡ versions_of m → l ≡ m
unfolding made
published_one [] [] h v = refl
published_one [] (y ∷ m) h v = absurd (cc)
published_one (x ∷ l) [] h v = absurd (cc)
published_one (x ∷ l) (y ∷ m) h v =
    let pairs : x.pair ≡ y.pair = cc in
    let versions : x.version ≡ y.version = cc in
    let more_pairs : history_of l ≡ history_of m = cc in
    let more_versions : versions_of l ≡ versions_of m = cc in
    let first : x ≡ y = ap₂ made pairs versions in
    ap₂ (λ (z : Publication) (zs : List Publication). z ∷ zs) first (published_one l m more_pairs more_versions)

pub trace_one : (p : ℕ) (A : Matrix) (workers : ℕ) (s t : Trace) → workers ≡ 1 → IsTraceOf p A workers s → IsTraceOf p A workers t →
    trace_text s.p s.publications ≡ trace_text t.p t.publications
trace_one p A workers s t one a b =
    let g = a.one_worker one in
    let h = b.one_worker one in
    let start : b.first ≡ a.first = leftmost_one A b.first a.first b.leftmost a.leftmost in
    let greedy : IsGreedy A a.first (history_of t.publications) = subst (λ f. IsGreedy A f (history_of t.publications)) start h.0 in
    let pairs : history_of s.publications ≡ history_of t.publications = greedy_one A a.first (history_of s.publications) (history_of t.publications) g.0 greedy in
    let many : length t.publications ≡ length s.publications =
    sym (length-map t.publications (λ (x : Publication). x.pair)) ∙ ap length (sym pairs) ∙ length-map s.publications (λ (x : Publication). x.pair) in
    let versions : versions_of s.publications ≡ versions_of t.publications =
    places_one (length s.publications) (versions_of s.publications) (versions_of t.publications) g.1 (subst (λ n. AreOwnPlaces n (versions_of t.publications)) many h.1) in
    ap₂ trace_text (a.lawful.modulus ∙ sym b.lawful.modulus) (published_one s.publications t.publications pairs versions)
