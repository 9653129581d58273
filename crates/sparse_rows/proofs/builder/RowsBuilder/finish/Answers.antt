use Rattle.std.proofs.Common.{◌≡◌, ◌<◌, ◌++◌, ◌∙◌, IfOk, All, ap, map, subst, sym}
use Rattle.std.proofs.lemmas.List.{append-nil, nil_from_length}
use Rattle.matrix_cells.specs.Cells.{AreEntries, HaveRisingPlaces, IsWithin}
use Rattle.sparse_rows.specs.Cells.{triple_of}
use Rattle.sparse_rows.specs.Rows.{Building, built}
use Rattle.sparse_rows.proofs.Expanding.{empty_length}
use Rattle.matrix_cells.proofs.Zeros.{all_without, without_entries}
use Rattle.sparse_rows.proofs.Zeros.{without_built}
use Rattle.sparse_rows.proofs.builder.RowsBuilder.finish.Goals as goal

pub from_ordered-requires-clause-within : goal.from_ordered-requires-clause-within
from_ordered-requires-clause-within c =
    let f = c.self.inside in
    let alone : f.ordered ++ f.cells.items ≡ f.ordered = ap (λ cells. f.ordered ++ cells) (nil_from_length f.cells.items (sym f.cells.ok.0 ∙ empty_length _ c.is_empty.result c.is_empty.ensures c.if-is_empty.true)) ∙ append-nil f.ordered in
    subst (All (IsWithin f.height f.width)) (sym c.in_ok-kept.ensures) (all_without (IsWithin f.height f.width) f.ordered (subst (All (IsWithin f.height f.width)) alone c.self.invariant.within))

pub from_ordered-requires-clause-entries : goal.from_ordered-requires-clause-entries
from_ordered-requires-clause-entries c =
    let f = c.self.inside in
    let alone : f.ordered ++ f.cells.items ≡ f.ordered = ap (λ cells. f.ordered ++ cells) (nil_from_length f.cells.items (sym f.cells.ok.0 ∙ empty_length _ c.is_empty.result c.is_empty.ensures c.if-is_empty.true)) ∙ append-nil f.ordered in
    subst (AreEntries f.modulus) (sym c.in_ok-kept.ensures) (without_entries f.modulus f.ordered (subst HaveRisingPlaces c.in_ok-kept.ensures c.is_sound.ensures) (subst (All (λ t. t.val < f.modulus)) alone c.self.invariant.residues))

pub returns-then-are_stored-clause-matrix : goal.returns-then-are_stored-clause-matrix
returns-then-are_stored-clause-matrix c =
    let f = c.self.inside in
    let alone : f.ordered ++ f.cells.items ≡ f.ordered = ap (λ cells. f.ordered ++ cells) (nil_from_length f.cells.items (sym f.cells.ok.0 ∙ empty_length _ c.is_empty.result c.is_empty.ensures c.if-is_empty.true)) ∙ append-nil f.ordered in
    let entries = without_entries f.modulus f.ordered (subst HaveRisingPlaces c.in_ok-kept.ensures c.is_sound.ensures) (subst (All (λ t. t.val < f.modulus)) alone c.self.invariant.residues) in
    let made = without_built f.modulus f.height f.width f.ordered c.self.invariant.width_small entries ∙ ap (λ cells. built f.modulus f.height f.width (map triple_of cells)) (sym alone) in
    subst (λ (b : Building). IfOk c.from_ordered.result (λ rows. rows.matrix ≡ built b.modulus b.height b.width b.pushed)) c.self.view_is (rw made at (rw c.in_ok-kept.ensures at c.from_ordered.ensures.matrix))
