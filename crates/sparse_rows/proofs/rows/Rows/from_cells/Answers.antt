use Rattle.residue_words.specs.Matrix.{Matrix}
use Rattle.std.proofs.Common.{◌<◌, ◌∙◌, ap, arith, map, subst, sym}
use Rattle.std.specs.List.{All}
use Rattle.std.proofs.lemmas.List.Elements.{All-weaker}
use Rattle.matrix_cells.specs.Cells.{IsWithin, place_of, renumbered, row_of, weight}
use Rattle.column_lists.specs.Columns.{AreOccurring}
use Rattle.sparse_rows.specs.Placed.{AreNamed, expanded}
use Rattle.sparse_rows.specs.Rows.{matrix_by}
use Rattle.sparse_rows.proofs.Renumbering.{is_numbered, occurring_among, occurring_few}
use Rattle.matrix_cells.proofs.Renumbering.{rows_low}
use Rattle.sparse_rows.proofs.rows.Rows.from_cells.Goals as goal

pub occurring-requires : goal.occurring-requires
occurring-requires c =
    rw (c.deref.ensures.value, c.in_ok-numbers.ensures) (rows_low c.args.cells.now c.args.height (All-weaker (IsWithin c.args.height c.args.width) (λ t. row_of t < c.args.height) (λ t h. h.row) c.args.cells.now c.requires.within))

pub places_among-requires-clause-few : goal.places_among-requires-clause-few
places_among-requires-clause-few c =
    rw c.deref-2.ensures.value (omega (
      arith,
      c.requires.height_small,
      occurring_few c.args.height (map row_of c.args.cells.now) c.in_ok-rows.rows.items (subst (λ xs. AreOccurring xs c.in_ok-rows.rows.items) (c.deref.ensures.value ∙ c.in_ok-numbers.ensures) c.in_ok-rows.ensures)
          (rows_low c.args.cells.now c.args.height (All-weaker (IsWithin c.args.height c.args.width) (λ t. row_of t < c.args.height) (λ t h. h.row) c.args.cells.now c.requires.within)),
    ))

pub places_among-requires-clause-among : goal.places_among-requires-clause-among
places_among-requires-clause-among c =
    rw (c.deref-2.ensures.value, c.deref-3.ensures.value) (occurring_among c.in_ok-numbers.numbers.items c.in_ok-rows.rows.items (subst (λ xs. AreOccurring xs c.in_ok-rows.rows.items) c.deref.ensures.value c.in_ok-rows.ensures))

pub overflow_cast-len : goal.overflow_cast-len
overflow_cast-len c = record {
  fits = omega (
    arith,
    c.len.ensures,
    c.in_ok-rows.rows.ok.0,
    (is_numbered c.args.modulus c.args.height c.args.width c.args.cells.now _ _ _ _ _ _ c.requires.height_small c.requires.width_small c.requires.entries c.requires.within
        (c.deref.ensures.value ∙ c.in_ok-numbers.ensures) (c.deref-3.ensures.value ∙ c.in_ok-numbers.ensures) c.in_ok-rows.ensures c.deref-2.ensures.value c.in_ok-places.ensures
        (c.in_ok-cells.ensures ∙ ap (λ ks. renumbered ks c.args.cells.now) c.deref-4.ensures.value)).few,
  );
}

pub from_cells-requires-2-clause-height_small : goal.from_cells-requires-2-clause-height_small
from_cells-requires-2-clause-height_small c =
    omega (
      arith,
      c.len.ensures,
      c.in_ok-rows.rows.ok.0,
      (is_numbered c.args.modulus c.args.height c.args.width c.args.cells.now _ _ _ _ _ _ c.requires.height_small c.requires.width_small c.requires.entries c.requires.within
          (c.deref.ensures.value ∙ c.in_ok-numbers.ensures) (c.deref-3.ensures.value ∙ c.in_ok-numbers.ensures) c.in_ok-rows.ensures c.deref-2.ensures.value c.in_ok-places.ensures
          (c.deref-5.ensures.value ∙ c.in_ok-cells.ensures ∙ ap (λ ks. renumbered ks c.args.cells.now) c.deref-4.ensures.value)).few,
    )

pub from_cells-requires-2-clause-within : goal.from_cells-requires-2-clause-within
from_cells-requires-2-clause-within c =
    subst (λ h. All (IsWithin h c.args.width) c.deref-5.result.now) (sym (c.len.ensures ∙ c.in_ok-rows.rows.ok.0)) (is_numbered c.args.modulus c.args.height c.args.width c.args.cells.now _ _ _ _ _ _ c.requires.height_small c.requires.width_small c.requires.entries c.requires.within
    (c.deref.ensures.value ∙ c.in_ok-numbers.ensures) (c.deref-3.ensures.value ∙ c.in_ok-numbers.ensures) c.in_ok-rows.ensures c.deref-2.ensures.value c.in_ok-places.ensures
    (c.deref-5.ensures.value ∙ c.in_ok-cells.ensures ∙ ap (λ ks. renumbered ks c.args.cells.now) c.deref-4.ensures.value)).within

pub from_cells-requires-2-clause-entries : goal.from_cells-requires-2-clause-entries
from_cells-requires-2-clause-entries c =
    (is_numbered c.args.modulus c.args.height c.args.width c.args.cells.now _ _ _ _ _ _ c.requires.height_small c.requires.width_small c.requires.entries c.requires.within
    (c.deref.ensures.value ∙ c.in_ok-numbers.ensures) (c.deref-3.ensures.value ∙ c.in_ok-numbers.ensures) c.in_ok-rows.ensures c.deref-2.ensures.value c.in_ok-places.ensures
    (c.deref-5.ensures.value ∙ c.in_ok-cells.ensures ∙ ap (λ ks. renumbered ks c.args.cells.now) c.deref-4.ensures.value)).entries

pub invariant_of-result-2 : goal.invariant_of-result-2
invariant_of-result-2 c = (
  c.requires.height_small,
  subst (AreNamed c.args.height c.in_ok-rows.rows.items)
      (sym (c.in_ok-from_cells-2.ensures.matrix ∙ ap (λ h. matrix_by h c.args.width (λ r j. weight (place_of r j) c.deref-5.result.now)) (c.len.ensures ∙ c.in_ok-rows.rows.ok.0)))
      (is_numbered c.args.modulus c.args.height c.args.width c.args.cells.now _ _ _ _ _ _ c.requires.height_small c.requires.width_small c.requires.entries c.requires.within
      (c.deref.ensures.value ∙ c.in_ok-numbers.ensures) (c.deref-3.ensures.value ∙ c.in_ok-numbers.ensures) c.in_ok-rows.ensures c.deref-2.ensures.value c.in_ok-places.ensures
      (c.deref-5.ensures.value ∙ c.in_ok-cells.ensures ∙ ap (λ ks. renumbered ks c.args.cells.now) c.deref-4.ensures.value)).named,
)

pub returns-clause-matrix : goal.returns-clause-matrix
returns-clause-matrix c =
    ap (expanded c.args.height c.in_ok-rows.rows.items)
    (c.in_ok-from_cells-2.ensures.matrix ∙ ap (λ h. matrix_by h c.args.width (λ r j. weight (place_of r j) c.deref-5.result.now)) (c.len.ensures ∙ c.in_ok-rows.rows.ok.0))
    ∙ (is_numbered c.args.modulus c.args.height c.args.width c.args.cells.now _ _ _ _ _ _ c.requires.height_small c.requires.width_small c.requires.entries c.requires.within
    (c.deref.ensures.value ∙ c.in_ok-numbers.ensures) (c.deref-3.ensures.value ∙ c.in_ok-numbers.ensures) c.in_ok-rows.ensures c.deref-2.ensures.value c.in_ok-places.ensures
    (c.deref-5.ensures.value ∙ c.in_ok-cells.ensures ∙ ap (λ ks. renumbered ks c.args.cells.now) c.deref-4.ensures.value)).matrix

pub from_cells-requires-clause-height_small : goal.from_cells-requires-clause-height_small
from_cells-requires-clause-height_small c = c.requires.height_small

pub from_cells-requires-clause-width_small : goal.from_cells-requires-clause-width_small
from_cells-requires-clause-width_small c = c.requires.width_small

pub from_cells-requires-clause-within : goal.from_cells-requires-clause-within
from_cells-requires-clause-within c = c.requires.within

pub from_cells-requires-clause-entries : goal.from_cells-requires-clause-entries
from_cells-requires-clause-entries c = c.requires.entries

pub invariant_of-result : goal.invariant_of-result
invariant_of-result c = (c.requires.height_small, sym (ap (λ (M : Matrix). M.height) c.in_ok-from_cells.ensures.matrix))

pub returns-then-stores_every_row-clause-modulus : goal.returns-then-stores_every_row-clause-modulus
returns-then-stores_every_row-clause-modulus c = c.in_ok-from_cells.ensures.modulus

pub returns-then-stores_every_row-clause-matrix : goal.returns-then-stores_every_row-clause-matrix
returns-then-stores_every_row-clause-matrix c = c.in_ok-from_cells.ensures.matrix

pub from_cells-requires-2-clause-width_small : goal.from_cells-requires-2-clause-width_small
from_cells-requires-2-clause-width_small c = c.requires.width_small

pub returns-clause-modulus : goal.returns-clause-modulus
returns-clause-modulus c = c.in_ok-from_cells-2.ensures.modulus
