-- Entries in order: what a matrix is made of as they stand.
use Rattle.std.proofs.Common.{ℕ, ◌≡◌, ◌+◌, ◌<◌, inl, inr, length, map, slice_index, sym, subst, ap, ◌∙◌, arith}
use Rattle.std.proofs.lemmas.Bool.{cases_lt}
use Rattle.std.proofs.lemmas.List.{ext_get_or, get_or-map, length-map}
use Rattle.std.proofs.lemmas.List.FromFn.{get_or-map-range_with_len, length-map-range_with_len}
use Rattle.sparse_rows.specs.Cells.{place_of}
use Rattle.sparse_rows.specs.Rows.{FitsMatrix, Triple, listed_triple, listed_triples, triple}
use Rattle.spasm_c.specs.Given.{IsBefore, IsSoundInput, entries_given, entry_given}
use Rattle.spasm_c.specs.declared.given.Given.{Given}
use Rattle.spasm_c.proofs.Entries.{at_entries, length_entries}

module _ {a : Given} (s : IsSoundInput a) where
  -- each entry lies inside
  pub each_fits : (k : ℕ) → k < length a.rows.now → FitsMatrix a.height a.width a.modulus (entry_given a k)
  each_fits k l =
      subst (FitsMatrix a.height a.width a.modulus) (at_entries a.rows.now a.columns.now a.values.now s.columns s.values k (0, 0, 0) l)
      (s.fit.inside k (0, 0, 0) (omega (arith, l, length_entries a.rows.now a.columns.now a.values.now s.columns s.values)))

  -- and the next one has a higher place if this one stands before it
  pub place_rises : (k : ℕ) → k + 1 < length a.rows.now → IsBefore a k (k + 1) →
      place_of (slice_index a.rows.now k) (slice_index a.columns.now k) < place_of (slice_index a.rows.now (k + 1)) (slice_index a.columns.now (k + 1))
  place_rises k l h =
      let low : slice_index a.columns.now k < a.width = (each_fits k (omega (arith, l))).column in
      elim (cases_lt (slice_index a.rows.now k) (slice_index a.rows.now (k + 1))) [
        | inl less ↦ omega (arith, less, low, s.fit.width)
        | inr more ↦
            let same : slice_index a.rows.now k ≡ slice_index a.rows.now (k + 1) = omega (arith, more, h.row) in
            omega (arith, same, h.column same)
      ]

  -- the triples are those that the lists have
  pub triples_listed : map triple (entries_given a) ≡ listed_triples a.rows.now a.columns.now a.values.now
  triples_listed =
      let none : Triple = record { i = 0; j = 0; v = 0 } in
      let many : length (entries_given a) ≡ length a.rows.now = length_entries a.rows.now a.columns.now a.values.now s.columns s.values in
      let long : length (map triple (entries_given a)) ≡ length a.rows.now = length-map (entries_given a) triple ∙ many in
      ext_get_or none (map triple (entries_given a)) (listed_triples a.rows.now a.columns.now a.values.now)
      (long ∙ sym (length-map-range_with_len (listed_triple a.rows.now a.columns.now a.values.now) 0 (length a.rows.now))) (λ k l.
      let low : k < length a.rows.now = omega (arith, l, long) in
      get_or-map triple (entries_given a) k (0, 0, 0) none (omega (arith, low, many))
      ∙ ap triple (at_entries a.rows.now a.columns.now a.values.now s.columns s.values k (0, 0, 0) low)
      ∙ sym (get_or-map-range_with_len (listed_triple a.rows.now a.columns.now a.values.now) 0 (length a.rows.now) k k none low (omega arith)))
