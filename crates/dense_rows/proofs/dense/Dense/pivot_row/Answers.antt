use Rattle.std.proofs.Common.{◌≤◌, ◌*◌, ◌%◌, ◌∙◌, ap, arith, length, subst, sym}
use Rattle.std.proofs.lemmas.List.{length-set}
use Rattle.residue_words.specs.Matrix.{IsVector}
use Rattle.dense_rows.proofs.Dividing.{divided, scaled_from}
use Rattle.dense_rows.proofs.dense.Dense.pivot_row.Goals as goal

pub returns : goal.returns
returns g c =
    let p = c.args.p.now in
    let two : 2 ≤ p = omega (arith, c.requires.first.nonzero, c.requires.residues.residues c.args.c c.requires.first.inside) in
    divided two c.requires.first (λ prime. ap (λ x. (x * c.inv-factor.result) % p) (sym c.get.ensures) ∙ c.inv-factor.ensures.inverse prime)
    (scaled_from two c.requires.first.inside c.len.ensures c.in_ok-pivot.ensures.row c.add_behind.ensures c.set.ensures) c.clear_taken.ensures

pub inv-factor-requires-clause-nonzero : goal.inv-factor-requires-clause-nonzero
inv-factor-requires-clause-nonzero g c = λ none. c.requires.first.nonzero (sym c.get.ensures ∙ none)

pub inv-factor-requires-clause-residue : goal.inv-factor-requires-clause-residue
inv-factor-requires-clause-residue g c = omega (arith, c.get.ensures, c.requires.residues.residues c.args.c c.requires.first.inside)

pub add_behind-requires-clause-inside : goal.add_behind-requires-clause-inside
add_behind-requires-clause-inside g c κs within = omega (arith, c.in_ok-pivot.ensures.vector.len, c.len.ensures, c.requires.first.inside)

pub add_behind-requires-clause-residues : goal.add_behind-requires-clause-residues
add_behind-requires-clause-residues g c κs within =
    let vector = c.in_ok-pivot.ensures.vector in
    subst (λ n. IsVector c.args.p.now n c.in_ok-pivot.pivot) (sym vector.len) vector

pub add_behind-requires-clause-multiple : goal.add_behind-requires-clause-multiple
add_behind-requires-clause-multiple g c κs within =
    subst (λ n. IsVector c.args.p.now n c.args.self.now) (sym (c.in_ok-pivot.ensures.vector.len ∙ c.len.ensures)) c.requires.residues

pub set-requires-clause-inside : goal.set-requires-clause-inside
set-requires-clause-inside g c κs within = omega (arith, c.add_behind.ensures.long, c.in_ok-pivot.ensures.vector.len, c.len.ensures, c.requires.first.inside)

pub set-requires-clause-residue : goal.set-requires-clause-residue
set-requires-clause-residue g c κs within = omega (arith, c.requires.first.nonzero, c.requires.residues.residues c.args.c c.requires.first.inside)

pub clear_taken-requires-clause-some : goal.clear_taken-requires-clause-some
clear_taken-requires-clause-some g c κs within = omega (arith, c.requires.residues.residues c.args.c c.requires.first.inside)

pub clear_taken-requires-clause-residues : goal.clear_taken-requires-clause-residues
clear_taken-requires-clause-residues g c κs within =
    let two : 2 ≤ c.args.p.now = omega (arith, c.requires.first.nonzero, c.requires.residues.residues c.args.c c.requires.first.inside) in
    let vector = (scaled_from two c.requires.first.inside c.len.ensures c.in_ok-pivot.ensures.row c.add_behind.ensures c.set.ensures).vector in
    subst (λ n. IsVector c.args.p.now n c.set.new.self) (sym vector.len) vector

pub clear_taken-requires-clause-marks : goal.clear_taken-requires-clause-marks
clear_taken-requires-clause-marks g c κs within =
    omega (arith, c.requires.marks, ap length c.set.ensures, length-set c.add_behind.new.self c.args.c 1, c.add_behind.ensures.long, c.in_ok-pivot.ensures.vector.len, c.len.ensures)
