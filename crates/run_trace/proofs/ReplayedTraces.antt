-- A trace replayed publication by publication.
use Rattle.std.proofs.Common.{ℕ, ◌≡◌, ◌+◌, ◌<◌, ◌≤◌, List, [], ◌∷◌, ◌++◌, length, take, slice_index, slice_index_or, inl, inr, sym, ap, ◌∙◌, subst, arith}
use Rattle.std.proofs.lemmas.Bool.{cases_eq}
use Rattle.std.proofs.lemmas.List.{get_or-map, length-map, map_more, take-map, take_all}
use Rattle.residue_words.specs.Matrix.{Matrix}
use Rattle.residue_words.specs.declared.plain.Pair.{Pair}
use Rattle.pivot_table.specs.History.{Alive, Grown}
use Rattle.pivot_table.proofs.Growth.{grown_nil, grown_push}
use Rattle.optimistic_search.proofs.Searching.{grown_at}
use Rattle.run_trace.specs.declared.publication.Publication.{Publication}
use Rattle.run_trace.specs.Lawful.{AreLawful, history_of, versions_of}

-- a publication, for where none stands
abbrev pub no_publication : Publication
no_publication = record { pair = record { row = 0; col = 0 }; version = 0 }

abbrev pub at : List Publication → ℕ → Publication
at list k = slice_index_or list k no_publication

-- the first k publications are lawful, and h is their history
pub record IsReplayed (A : Matrix) (list : List Publication) (k : ℕ) (h : List Pair) : Type 0 where
  pub pairs : h ≡ take k (history_of list)
  pub grown : Grown A h
  pub low : (i : ℕ) → i < k → slice_index (versions_of list) i ≤ i

pub replay_begins : (A : Matrix) (list : List Publication) (h : List Pair) → h ≡ [] → IsReplayed A list 0 h
replay_begins A list h empty = record {
  pairs = empty;
  grown = subst (Grown A) (sym empty) (grown_nil A);
  low = λ i l. absurd (omega arith);
}

-- what stands at a place
pub version_at : (list : List Publication) (k : ℕ) → k < length list → slice_index (versions_of list) k ≡ (at list k).version
version_at list k l = get_or-map (λ (x : Publication). x.version) list k no_publication 0 l

pub pair_at : (list : List Publication) (k : ℕ) → k < length list → slice_index_or (history_of list) k no_publication.pair ≡ (at list k).pair
pair_at list k l = get_or-map (λ (x : Publication). x.pair) list k no_publication no_publication.pair l

history_more : (list : List Publication) (k : ℕ) → k < length list → take (k + 1) (history_of list) ≡ take k (history_of list) ++ (at list k).pair ∷ []
history_more list k l =
    take-map (λ (x : Publication). x.pair) (k + 1) list ∙ map_more (λ (x : Publication). x.pair) list k no_publication l
    ∙ ap (λ (h : List Pair). h ++ (at list k).pair ∷ []) (sym (take-map (λ (x : Publication). x.pair) k list))

module _ (A : Matrix) (list : List Publication) (k : ℕ) (h : List Pair) (is : IsReplayed A list k h) where
  -- one more is lawful
  pub replay_goes : (h' : List Pair) → k < length list → (at list k).version ≤ k → Alive A h (at list k).pair.row (at list k).pair.col → h' ≡ h ++ (at list k).pair ∷ [] → IsReplayed A list (k + 1) h'
  replay_goes h' l low alive more = record {
    pairs = more ∙ ap (λ (g : List Pair). g ++ (at list k).pair ∷ []) is.pairs ∙ sym (history_more list k l);
    grown = subst (Grown A) (sym more) (grown_push A h (at list k).pair is.grown alive);
    low = λ i b. elim (cases_eq i k) [
      | inl e ↦ (let v = version_at list k l in subst (λ j. slice_index (versions_of list) j ≤ j) (sym e) (omega arith))
      | inr ne ↦ is.low i (omega arith)
    ];
  }

  -- all of them are
  pub replay_ends : length list ≤ k → AreLawful A list
  replay_ends all = record {
    grown = subst (Grown A) (is.pairs ∙ take_all k (history_of list) (omega (arith, length-map list (λ (x : Publication). x.pair)))) is.grown;
    low = λ i l. is.low i (omega (arith, length-map list (λ (x : Publication). x.version)));
  }

  -- what a lawful list has at the next place
  pub replay_alive : k < length list → AreLawful A list → Alive A h (at list k).pair.row (at list k).pair.col
  replay_alive l lawful =
      let a = grown_at A (history_of list) k no_publication.pair lawful.grown (omega (arith, length-map list (λ (x : Publication). x.pair))) in
      subst (λ (g : List Pair). Alive A g (at list k).pair.row (at list k).pair.col) (sym is.pairs)
      (subst (λ (q : Pair). Alive A (take k (history_of list)) q.row q.col) (pair_at list k l) a)

pub replay_low : (A : Matrix) (list : List Publication) (k : ℕ) → k < length list → AreLawful A list → (at list k).version ≤ k
replay_low A list k l lawful =
    let v = version_at list k l in
    let low : slice_index (versions_of list) k ≤ k = lawful.low k (omega (arith, length-map list (λ (x : Publication). x.version))) in
    omega arith
