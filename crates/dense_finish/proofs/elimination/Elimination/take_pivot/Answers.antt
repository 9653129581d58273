use Rattle.std.proofs.Common.{◌∙◌, ap, arith, length, subst, sym}
use Rattle.residue_words.specs.Matrix.{IsVector}
use Rattle.dense_finish.proofs.elimination.Elimination.take_pivot.Goals as goal

pub pivot_row-requires-clause-residues : goal.pivot_row-requires-clause-residues
pivot_row-requires-clause-residues g c κs within = subst (λ n. IsVector c.args.self.now.p n c.args.row.now) (sym c.requires.residues.len) c.requires.residues

pub pivot_row-requires-clause-marks : goal.pivot_row-requires-clause-marks
pivot_row-requires-clause-marks g c κs within = ap length c.deref.ensures.value ∙ c.requires.found.marks ∙ sym c.requires.residues.len

pub keep_coefficients-requires-clause-residues : goal.keep_coefficients-requires-clause-residues
keep_coefficients-requires-clause-residues g c κs within = subst (λ n. IsVector c.args.self.now.p n c.args.row.now) (sym c.requires.residues.len) c.requires.residues

pub keep_coefficients-requires-clause-marks : goal.keep_coefficients-requires-clause-marks
keep_coefficients-requires-clause-marks g c κs within = ap length c.deref-2.ensures.value ∙ c.requires.found.marks ∙ sym c.requires.residues.len

pub push-requires-clause-column : goal.push-requires-clause-column
push-requires-clause-column g c κs within = omega (arith, c.requires.first.inside, c.requires.residues.len)

pub push-requires-clause-residues : goal.push-requires-clause-residues
push-requires-clause-residues g c κs within = subst (λ n. IsVector c.args.self.now.p n c.in_ok-pivot.pivot) c.requires.residues.len c.in_ok-pivot.ensures.vector

pub push-requires-clause-before : goal.push-requires-clause-before
push-requires-clause-before g c κs within = c.in_ok-pivot.ensures.before

pub push-requires-clause-found : goal.push-requires-clause-found
push-requires-clause-found g c κs within = c.requires.found

pub returns-clause-pivot : goal.returns-clause-pivot
returns-clause-pivot g c = rw c.deref.ensures.value at c.in_ok-pivot.ensures

pub returns-clause-added : goal.returns-clause-added
returns-clause-added g c = c.in_ok-push.ensures

pub returns-clause-kept : goal.returns-clause-kept
returns-clause-kept g c = rw c.deref-2.ensures.value at c.keep_coefficients.ensures

pub pivot_row-requires-clause-first : goal.pivot_row-requires-clause-first
pivot_row-requires-clause-first g c κs within = rw c.deref.ensures.value c.requires.first

pub keep_coefficients-requires-clause-first : goal.keep_coefficients-requires-clause-first
keep_coefficients-requires-clause-first g c κs within = rw c.deref-2.ensures.value c.requires.first
