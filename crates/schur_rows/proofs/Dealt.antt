-- The parts of a deal put together.
use Rattle.std.proofs.Common.{ℕ, ◌≡◌, ◌+◌, List, All, subst, ap, arith}
use Rattle.std.proofs.lemmas.List.Elements.{All-contains}
use Rattle.residue_words.specs.Matrix.{Matrix}
use Rattle.triangular_solve.specs.Triangle.{TriangleState}
use Rattle.schur_rows.specs.Parts.{IsPartAmong, AreDealtRows, IsNumbered, IsPartOf, IsPartTo, Joins, cut_at}
use Rattle.schur_rows.specs.declared.round.SchurRows.{SchurRows}
use Rattle.schur_rows.specs.declared.dealt_rows.DealtRows.{DealtRows}
use Rattle.schur_rows.specs.declared.numbered_part.NumberedPart.{NumberedPart}
use Rattle.schur_rows.proofs.Parting.{part_join}

pub cut_none : {deal : DealtRows} → AreDealtRows deal → cut_at deal 0 ≡ deal.from
cut_none {deal} h = h.cuts.first

pub cut_all : {deal : DealtRows} → AreDealtRows deal → cut_at deal deal.count ≡ deal.to
cut_all {deal} h = h.cuts.last

pub joined_part : (t : TriangleState) (deal : DealtRows) (j : ℕ) {made part new : SchurRows} → IsPartTo t deal.pass.with_coefficients deal.from (cut_at deal j) made → IsPartOf t deal j part → Joins part made new →
    IsPartTo t deal.pass.with_coefficients deal.from (cut_at deal (j + 1)) new
joined_part t deal j {made} {part} {new} h g join = (
  part_join t deal.pass.with_coefficients deal.from (cut_at deal j) made part new h.0 g.0 h.1 join,
  omega (arith, h.1, g.1, ap (λ (M : Matrix). M.height) join.rows),
)

-- a part as it is cut, and as it is read
pub part_at : {t : TriangleState} (deal : DealtRows) (j : ℕ) {from to : ℕ} {s : SchurRows} → from ≡ cut_at deal j → to ≡ cut_at deal (j + 1) → IsPartTo t deal.pass.with_coefficients from to s → IsPartOf t deal j s
part_at {t} deal j {from} {to} {s} a b part = subst (λ a. IsPartTo t deal.pass.with_coefficients a (cut_at deal (j + 1)) s) a (subst (λ b. IsPartTo t deal.pass.with_coefficients from b s) b part)

-- a part by its number
pub part_of_number : (t : TriangleState) (deal : DealtRows) (parts : List NumberedPart) → All (IsNumbered t deal) parts →
    (number : ℕ) (s : SchurRows) → IsPartAmong parts number s → IsPartOf t deal number s
part_of_number t deal parts all number s held = All-contains (IsNumbered t deal) parts (record { number = number; left = s }) all held
